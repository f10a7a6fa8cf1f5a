-- The sections of a patch: one written, its count byte first or last, and the most bytes that Before and Place have.
-- Assumes nothing.
use Prim.Native.Nat.{ℕ, ◌+◌, ◌≤◌}
use native.Mathlib.Omega.{arith}
use mathlib.Core.Path.{◌≡◌}
use mathlib.Core.List.{List}
use lib.ListN.{length}
use Rattle.position.specs.declared.Identifier.{Identifier}
use Rattle.rows.specs.Numbers.{bytes_of}
use Rattle.rows.specs.Rows.{written}
use Rattle.rows.proofs.Digits.{bytes_length}
use Rattle.rows.proofs.Bytes.{written_both, written_before}
use Rattle.format.specs.Patches.{section, before_bytes, before_most, place_bytes, place_most}
use Rattle.format.proofs.Sizes.{entries_most, before_length, place_length}

module _ (count : ℕ) (bytes : List ℕ) (at : ℕ) (s : List ℕ) (room : at + 1 ≤ length s) where
  pub section_written : written (at + 1) bytes (written at (bytes_of 1 count) s) ≡ written at (section count bytes) s
  section_written = written_both at (at + 1) (bytes_of 1 count) bytes s (omega (arith, bytes_length 1 count)) room

  -- the count byte last
  pub section_counted : written at (bytes_of 1 count) (written (at + 1) bytes s) ≡ written at (section count bytes) s
  section_counted = rw bytes_length at (written_before at (bytes_of 1 count) bytes s (rw bytes_length room))

-- sixteen counts, at most as many entries
pub before_most_lem : (counts : List ℕ) → length counts ≡ 16 → length (before_bytes counts) ≤ before_most
before_most_lem counts sixteen = omega (arith, before_length counts, entries_most 1 counts)

pub place_most_lem : (ids : List Identifier) → length ids ≤ 8 → length (place_bytes ids) ≤ place_most
place_most_lem ids few = omega (arith, place_length ids)
