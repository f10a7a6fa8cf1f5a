-- The patch of an own edit is one that the replica takes: it is well-formed, its author's next and not
-- early; and an insert at a place that no row has finds room.
-- Assumes nothing.
use Prim.Native.Nat.{ℕ, ◌≤◌, ◌<◌}
use native.Mathlib.Omega.{arith}
use mathlib.Core.Path.{◌≡◌, refl, sym, ap, ◌∙◌, subst}
use mathlib.Core.Bool.{true, false, true≢false}
use mathlib.Core.List.{List}
use lib.ListN.{length, replicate, length-append, length-replicate, get_or-replicate}
use Rattle.std.proofs.lemmas.Grind.{common_steps}
use Rattle.position.specs.declared.Identifier.{Identifier}
use Rattle.position.specs.Positions.{position_of, author_of, LinePosition}
use Rattle.position.proofs.Ids.{position_ids}
use Rattle.position.proofs.Authors.{author_least}
use Rattle.rows.specs.Rows.{filled}
use Rattle.rows.proofs.Slots.{filled_length, filled_zero}
use Rattle.record.specs.declared.Replica.{Replica}
use Rattle.record.specs.Records.{count_of}
use Rattle.script.specs.Lines.{decode_table}
use Rattle.script.specs.Sound.{Sound}
use Rattle.script.specs.Find.{find_in}
use Rattle.script.proofs.Tables.{lines_length}
use Rattle.format.specs.declared.Edit.{Edit}
use Rattle.format.specs.declared.Edit.TheVariants.{Insert, Delete}
use Rattle.format.specs.WellFormed.{LineFits, EditAgrees, WellFormed}
use Rattle.effect.specs.Held.{held_in}
use Rattle.effect.specs.Effect.{is_row, inserts, Takes}
use Rattle.replica.specs.Grounds.{own_count}
use Rattle.edits.specs.Own.{own_patch}

-- a place that is a line's position, in the one value of its list
module _ (r : Replica) (table : List ℕ) (size : length r.counts ≡ 16) (sound : Sound r table)
    (left : own_count r < 1000000) (l : List Identifier) (place : LinePosition l) where
  own_well_formed : (edit : Edit) (text : List ℕ) → LineFits edit text → EditAgrees (own_patch r (position_of l) edit) edit
      → WellFormed (own_patch r (position_of l) edit) text
  own_well_formed edit text line agrees =
      record {
        head = record {
          author_least = sound.own.site_least;
          author_most = sound.own.site_most;
          numbered = (omega arith, omega arith);
        };
        before = record { size = size; most = sound.own.counts };
        own_entry = omega arith;
        place = rw (position_ids l) place;
        used = place.most;
        identifiers = rw (length-append, length-replicate) (omega (arith, place.most));
        unused = λ j from below. grind (arith, common_steps);
        line = line;
        edit = agrees;
      }

  own_takes : (edit : Edit) (text : List ℕ) → LineFits edit text → EditAgrees (own_patch r (position_of l) edit) edit
      → (inserts edit ≡ true → is_row (find_in l (decode_table r.rows table)) ≡ false)
      → (inserts edit ≡ true → r.rows < 512)
      → Takes (held_in r table) (own_patch r (position_of l) edit) text
  own_takes edit text line agrees free room =
      record {
        patch = own_well_formed edit text line agrees;
        next = refl;
        before = λ i h. omega arith;
        free = λ is. rw (position_ids l) (free is);
        room = λ is. rw (lines_length r.rows table) (room is);
      }

  pub insert_takes : author_of l ≡ r.site → (text : List ℕ) → length text ≤ 48
      → is_row (find_in l (decode_table r.rows table)) ≡ false → r.rows < 512
      → Takes (held_in r table) (own_patch r (position_of l) (Insert (length text))) (filled 48 text)
  insert_takes own text short free room =
      own_takes (Insert (length text)) (filled 48 text)
      (short, record { size = filled_length 48 text; unused = λ j from below. filled_zero 48 text j from })
      (ap author_of (position_ids l) ∙ own) (λ _. free) (λ _. room)

  pub delete_takes : (number : ℕ) → 1 ≤ number → number ≤ 1000000 → number ≤ count_of r.counts (author_of l)
      → Takes (held_in r table) (own_patch r (position_of l) (Delete number)) (replicate 48 0)
  delete_takes number least most counted =
      own_takes (Delete number) (replicate 48 0)
      ((least, most), record { size = length-replicate {A = ℕ} 48 0; unused = λ j from below. get_or-replicate 48 j 0 0 below })
      (subst (λ (ids : List Identifier). (1 ≤ author_of ids) × (number ≤ count_of r.counts (author_of ids))) (sym (position_ids l))
      (author_least l place, counted))
      (λ wrong. absurd (true≢false (sym wrong))) (λ wrong. absurd (true≢false (sym wrong)))
