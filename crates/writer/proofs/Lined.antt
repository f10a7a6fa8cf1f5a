-- Writing a line: what it is, behind the number of its bytes.
-- Assumes nothing.
use Prim.Native.Nat.{ℕ, ◌+◌, ◌-◌, ◌≤◌}
use native.Mathlib.Omega.{arith}
use mathlib.Core.Path.{◌≡◌, sym}
use mathlib.Core.List.{List}
use borrow.Rule.Slice.PartMut.{put_mid}
use lib.ListN.{length, take}
use lib.Seq.{length-take-le, drop-drop}
use Rattle.rows.specs.Numbers.{bytes_of}
use Rattle.rows.specs.Rows.{written}
use Rattle.rows.proofs.Digits.{bytes_length}
use Rattle.format.specs.declared.Edit.TheVariants.{Insert, Delete}
use Rattle.format.specs.Patches.{line_bytes}
use Rattle.format.proofs.Sections.{section_written}
use Rattle.format.proofs.Sizes.{section_length}

-- an insert's text
module _ (n : ℕ) (text : List ℕ) (inside : n ≤ length text) where
  pub text_length : length (line_bytes (Insert n) text) ≡ 1 + n
  unfolding line_bytes
  text_length = rw (section_length, length-take-le n text inside)

  -- copied over a part of its length
  copied : (s : List ℕ) → put_mid 1 (1 + n - 1) s (take n text) ≡ written 1 (take n text) s
  unfolding written
  copied s =
      let size = length-take-le n text inside in
      let long : 1 + n - 1 ≡ n = omega arith in
      rw (long, size, drop-drop)

  pub text_written : (s : List ℕ) → 1 ≤ length s
      → put_mid 1 (1 + n - 1) (written 0 (bytes_of 1 n) s) (take n text) ≡ written 0 (line_bytes (Insert n) text) s
  unfolding line_bytes
  text_written s room =
      rw (copied (written 0 (bytes_of 1 n) s), length-take-le n text inside) (section_written n (take n text) 0 s room)

-- the number that a delete strikes
module _ (n : ℕ) (text : List ℕ) where
  pub struck_length : length (line_bytes (Delete n) text) ≡ 5
  unfolding line_bytes
  struck_length = rw (section_length, bytes_length)

  pub struck_written : (s : List ℕ) → 1 ≤ length s
      → written 0 (line_bytes (Delete n) text) s ≡ written 1 (bytes_of 4 n) (written 0 (bytes_of 1 4) s)
  unfolding line_bytes
  struck_written s room = rw bytes_length (sym (section_written 4 (bytes_of 4 n) 0 s room))

pub ruleset steps = (text_length, text_written, struck_length, struck_written)
