-- Bytes written behind one another: two numbers behind what stands there already, and one section behind another.
-- Assumes nothing.
use Prim.Native.Nat.{ℕ, ◌+◌, ◌-◌, ◌≤◌}
use native.Mathlib.Nat.{zero-add}
use native.Mathlib.Omega.{arith}
use mathlib.Core.Path.{◌≡◌, ap, ◌∙◌}
use mathlib.Core.List.{List, ◌++◌, append_assoc}
use borrow.Rule.Slice.PartMut.{mid_of, put_mid}
use lib.ListN.{length, length-append}
use lib.Seq.{drop-drop}
use Rattle.position.specs.Positions.{ids_of}
use Rattle.rows.specs.Numbers.{bytes_of}
use Rattle.rows.specs.Rows.{written}
use Rattle.rows.proofs.Digits.{bytes_length}
use Rattle.rows.proofs.Bytes.{rest_back, rest_lent, written_both, written_length}
use Rattle.format.specs.declared.Patch.{Patch}
use Rattle.format.specs.Patches.{kind_of, head_bytes, before_bytes, place_bytes, line_bytes, patch_bytes, most_size}
use Rattle.format.specs.WellFormed.{WellFormed}
use Rattle.format.proofs.Sections.{before_most_lem, place_most_lem}
use Rattle.format.proofs.Sizes.{head_length, sizes}
use Rattle.writer.specs.Put.{Put}

-- two things, b and then c, behind a
pub written_three : (at next end : ℕ) (a b c s : List ℕ) → next ≡ at + length a → end ≡ next + length b → end ≤ length s
    → written end c (written next b (written at a s)) ≡ written at (a ++ (b ++ c)) s
written_three at next end a b c s n e room =
    let so_far : length (written at a s) ≡ length s = written_length at a s (omega arith) in
    written_both next end b c (written at a s) e (omega arith)
    ∙ written_both at next a (b ++ c) s n (omega arith)

-- the head: kind, author and number
pub head_written : (kind author number : ℕ) (s : List ℕ) → 2 ≤ length s
    → written 2 (bytes_of 4 number) (written 1 (bytes_of 1 author) (written 0 (bytes_of 1 kind) s)) ≡ written 0 (head_bytes kind author number) s
unfolding head_bytes
head_written kind author number s room =
    written_three 0 1 2 (bytes_of 1 kind) (bytes_of 1 author) (bytes_of 4 number) s
    (omega (arith, bytes_length 1 kind)) (omega (arith, bytes_length 1 author)) room

pub ruleset head_steps = (head_written, head_length)

-- two sections, the second on the part that is left behind the first
pub put_behind : (a b s after part : List ℕ) (n more : ℕ) → n ≤ length s → Put a s n after
    → Put b (mid_of n (length after - n) after) more part
    → Put (a ++ b) s (n + more) (put_mid n (length after - n) after part)
unfolding written
put_behind a b s after part n more room first second =
    let there : put_mid n (length after - n) after part ≡ written n b after =
    rw (rest_back n after part, second.1, rest_lent n after, zero-add, drop-drop) in
    (omega (arith, length-append a b, first.0, second.0), there ∙ ap (written n b) first.1 ∙ written_both 0 n a b s (omega (arith, first.0)) room)

-- the sections of a patch, one behind the other
module _ (p : Patch) (text : List ℕ) where
  pub patch_parts : patch_bytes p text
      ≡ ((head_bytes (kind_of p.edit) p.author p.number ++ before_bytes p.before) ++ place_bytes (ids_of p.place)) ++ line_bytes p.edit text
  unfolding patch_bytes
  patch_parts = simp append_assoc

  -- each of them ends within 161 bytes
  pub patch_most : WellFormed p text
      → length (head_bytes (kind_of p.edit) p.author p.number) + length (before_bytes p.before) + length (place_bytes (ids_of p.place)) + length (line_bytes p.edit text) ≤ most_size
  patch_most well = rw (patch_parts, length-append, length-append, length-append) at (sizes p text well).1

pub ruleset rooms = (head_length, before_most_lem, place_most_lem, patch_most)
