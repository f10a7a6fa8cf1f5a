-- The identifiers of a row: how many there are, and where in the row each is read.
-- Assumes nothing.
use Prim.Native.Nat.{ℕ, ◌+◌, ◌*◌, ◌<◌}
use native.Mathlib.Omega.{arith}
use mathlib.Core.Path.{◌≡◌, ◌∙◌}
use mathlib.Core.List.{List}
use lib.ListN.{length, drop, get_or}
use lib.Seq.{get_or-drop}
use Rattle.position.specs.Positions.{identifier, pad}
use Rattle.rows.specs.Numbers.{num_at}
use Rattle.rows.proofs.Digits.{num_drop}
use Rattle.rows.proofs.Slots.{rows_length, rows_at}
use Rattle.script.specs.Lines.{decode_identifier, identifiers_of, used_of}

pub identifiers_length : (row : List ℕ) → length (identifiers_of row) ≡ used_of row
unfolding identifiers_of
identifiers_length row = rows_length decode_identifier 3 (used_of row) (drop 1 row)

pub identifier_at : (row : List ℕ) (i : ℕ) → i < used_of row
    → get_or (identifiers_of row) i pad ≡ identifier (num_at 2 row (1 + 3 * i)) (get_or row (3 + 3 * i) 0)
unfolding identifiers_of decode_identifier
identifier_at row i h =
    let integer : 1 + (i * 3 + 0) ≡ 1 + 3 * i = omega arith in
    let site : 1 + (i * 3 + 2) ≡ 3 + 3 * i = omega arith in
    rows_at decode_identifier 3 (used_of row) i (drop 1 row) pad h
    ∙ rw (num_drop, num_drop, get_or-drop, get_or-drop, integer, site)
