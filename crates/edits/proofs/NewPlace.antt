-- The place that an insert makes before a row of a sound table: it is a line's position of this site, no
-- row has it, and it would stand in that very row.
-- Assumes nothing.
use Prim.Native.Nat.{ℕ, ◌-◌, ◌≤◌}
use native.Mathlib.Omega.{arith}
use mathlib.Core.Path.{◌≡◌, refl, subst}
use mathlib.Core.Bool.{false, true≢false}
use mathlib.Core.Option.{Option, none, some}
use mathlib.Core.List.{List}
use lib.ListN.{length}
use Rattle.std.specs.Prelude.{is_none}
use Rattle.position.specs.declared.Identifier.{Identifier}
use Rattle.position.specs.declared.Position.{Position}
use Rattle.position.specs.Positions.{position_of, author_of, LinePosition}
use Rattle.position.specs.Order.{◌≺◌}
use Rattle.position.specs.Place.{place_of, placed}
use Rattle.position.proofs.Made.{made_between}
use Rattle.position.proofs.Line.{made_line}
use Rattle.position.proofs.Ordered.{under_above}
use Rattle.record.specs.declared.Replica.{Replica}
use Rattle.script.specs.declared.table.Found.TheVariants.{Gap}
use Rattle.script.specs.Lines.{Line, decode_table}
use Rattle.script.specs.Sound.{Sound}
use Rattle.script.specs.Find.{find_in}
use Rattle.script.proofs.Finding.{place_at, found_gap, under_below}
use Rattle.script.proofs.Held.{SoundLines, sound_lines}
use Rattle.script.proofs.Tables.{lines_length}
use Rattle.edits.specs.Insert.{left_of, right_of, place_before, position_made}
use Rattle.edits.proofs.Neighbours.{left_line, right_line, left_neighbour, right_neighbour}

-- what stands between the neighbours of a place before a row would stand in that row
between_gap : (counts : List ℕ) (lines : List Line) → SoundLines counts lines → (row : ℕ) → row ≤ length lines
    → (l : List Identifier) → left_of lines row ≺ l → l ≺ right_of lines row → find_in l lines ≡ Gap row
between_gap counts lines sound row h l over under =
    found_gap l row lines h
    (λ i b.
    let from : 1 ≤ row = omega arith in
    let below : place_at lines (row - 1) ≺ l = subst (λ (p : List Identifier). p ≺ l) (left_line lines row from h) over in
    under_below lines sound.rising l (row - 1) (omega arith) below i (omega arith))
    (λ b. under_above (place_at lines row) l (subst (λ (q : List Identifier). l ≺ q) (right_line lines row b) under))

pub record NewPlace (r : Replica) (table : List ℕ) (row : ℕ) (place : Position) : Type 0 where
  pub ids : List Identifier
  pub value : place ≡ position_of ids
  pub line : LinePosition ids
  pub author : author_of ids ≡ r.site
  pub gap : find_in ids (decode_table r.rows table) ≡ Gap row

module _ (r : Replica) (table : List ℕ) (row draw : ℕ) (sound : Sound r table) (h : row ≤ r.rows) where
  abbrev lines : List Line
  lines = decode_table r.rows table

  by_place : (o : Option (List Identifier)) → place_of (left_of lines row) (right_of lines row) r.site draw ≡ o
      → is_none (placed o) ≡ false → NewPlace r table row (position_made (placed o))
  by_place none e wrong = absurd (true≢false wrong)
  by_place (some l) e made =
      let held = sound_lines r table sound in
      let inside : row ≤ length lines = omega (arith, lines_length r.rows table) in
      let between = made_between (left_of lines row) (right_of lines row) r.site draw l e in
      let new = made_line (left_of lines row) (right_of lines row) r.site draw l
      (left_neighbour lines r.counts held row inside) (right_neighbour lines r.counts held row)
      sound.own.site_least sound.own.site_most e in
      record {
        ids = l;
        value = refl;
        line = new.line;
        author = new.author;
        gap = between_gap r.counts lines held row inside l between.0 between.1;
      }

  pub new_place : is_none (place_before r table row draw) ≡ false
      → NewPlace r table row (position_made (place_before r table row draw))
  unfolding place_before
  new_place = by_place (place_of (left_of lines row) (right_of lines row) r.site draw) refl
