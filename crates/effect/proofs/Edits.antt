-- Where an edit is done: the row found is one of the table's, and its number says whether it is the line
-- asked for; and what it answers.
-- Assumes nothing.
use Prim.Native.Nat.{ℕ, ◌≤◌, ◌<◌}
use native.Mathlib.Omega.{arith}
use borrow.Author.Tests.{eq-eqb, ne_eqb}
use mathlib.Core.Path.{◌≡◌, refl, ap}
use mathlib.Core.Bool.{true}
use mathlib.Core.Logic.{◌⊎◌, inl, inr}
use mathlib.Core.Option.{Option, none, some}
use mathlib.Core.List.{List}
use lib.ListN.{length, get_or}
use Rattle.position.specs.declared.Identifier.{Identifier}
use Rattle.position.specs.Positions.{ids_of}
use Rattle.rows.proofs.Answers.{no_answer}
use Rattle.script.specs.declared.table.Found.{Found}
use Rattle.script.specs.declared.table.Found.TheVariants.{Row}
use Rattle.script.specs.Lines.{Line, no_line, number_of, decode_row, row_at, decode_table}
use Rattle.script.specs.Find.{find_in}
use Rattle.script.proofs.Tables.{line_at}
use Rattle.script.proofs.Finding.{Told, in_row, in_gap, told}
use Rattle.format.specs.declared.Edit.{Edit}
use Rattle.format.specs.declared.Edit.TheVariants.{Insert, Delete}
use Rattle.format.specs.declared.Patch.{Patch}
use Rattle.effect.specs.Effect.{row_of, is_row, numbered, line_row, struck_answer, done_answer}

-- The line of row k, with the number that stands in it.
module _ (number n k : ℕ) (t : List ℕ) (there : k < n) where
  its_number : (get_or (decode_table n t) k no_line).number ≡ number_of (row_at t k)
  unfolding decode_row
  its_number = ap (λ (l : Line). l.number) (line_at n k t there)

  pub same_number : number_of (row_at t k) ≡ number → numbered number (decode_table n t) (Row k) ≡ some k
  same_number same = rw (its_number, eq-eqb (number_of (row_at t k)) number same)

  pub other_number : (number_of (row_at t k) ≡ number → ⊥) → numbered number (decode_table n t) (Row k) ≡ none
  other_number other = rw (its_number, ne_eqb (number_of (row_at t k)) number other)

-- Where a place is found among lines.
module _ (place : List Identifier) (lines : List Line) where
  pub found_inside : row_of (find_in place lines) ≤ length lines
  found_inside = by (find_in place lines) (told place lines)
    where
      by : (f : Found) → Told place lines f → row_of f ≤ length lines
      by f (in_row k inside under is) = omega arith
      by f (in_gap k inside under over) = inside

  pub row_inside : is_row (find_in place lines) ≡ true → row_of (find_in place lines) < length lines
  row_inside = by (find_in place lines) (told place lines)
    where
      by : (f : Found) → Told place lines f → is_row f ≡ true → row_of f < length lines
      by f (in_row k inside under is) row = inside
      by f (in_gap k inside under over) row = absurd (no_answer _ refl row)

-- "Numbers 0 and 15 are not refusals": what is done answers one of them
pub done_answers : (p : Patch) (e : Edit) (lines : List Line) → (done_answer p e lines ≡ 0) ⊎ (done_answer p e lines ≡ 15)
unfolding done_answer
done_answers p (Insert n) lines = inl refl
done_answers p (Delete n) lines = by (line_row (ids_of p.place) n lines)
  where
    by : (row : Option ℕ) → (struck_answer row ≡ 0) ⊎ (struck_answer row ≡ 15)
    by none = inr refl
    by (some k) = inl refl
