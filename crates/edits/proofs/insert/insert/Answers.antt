-- Past the checks of `insert` the place made is a line's position of this site that no row has: the patch
-- with it is one to do.
-- Assumes nothing.
use Prim.Native.Nat.{ℕ, ◌≤◌}
use borrow.Author.Rules.{rules}
use borrow.Author.Tests.{le-ltb, ne_eqb}
use mathlib.Core.Path.{◌≡◌, refl, sym, ap, ◌∙◌}
use mathlib.Core.Bool.{false, not}
use mathlib.Core.List.{List}
use lib.ListN.{length}
use Rattle.std.specs.Prelude.{Option, Some, is_none}
use Rattle.std.specs.Result.{result_ok}
use Rattle.position.specs.declared.Position.{Position}
use Rattle.position.specs.Positions.{ids_of}
use Rattle.rows.specs.Rows.{filled}
use Rattle.position.proofs.Decided.{decided_true}
use Rattle.record.specs.declared.Replica.{Replica}
use Rattle.script.specs.Lines.{decode_table}
use Rattle.script.specs.Sound.{Sound}
use Rattle.script.proofs.Decided.{sound?}
use Rattle.script.specs.Find.{find_in}
use Rattle.format.specs.declared.Edit.TheVariants.{Insert}
use Rattle.format.specs.Patches.{most_size}
use Rattle.format.proofs.Checked.{Passed}
use Rattle.effect.specs.Effect.{is_row, done_answer}
use Rattle.effect.specs.Steps.{Ready}
use Rattle.replica.specs.Grounds.{own_count}
use Rattle.edits.specs.Own.{own_patch}
use Rattle.edits.specs.Insert.{place_before, position_made, insert_checks}
use Rattle.edits.proofs.OwnAccepted.{insert_accepted}
use Rattle.edits.proofs.insert.insert.Goals as goal

module _ (r : Replica) (table : List ℕ) (size : length r.counts ≡ 16) (row draw : ℕ) (text buffer : List ℕ)
    (sound : Sound r table) (room : most_size ≤ length buffer) (inside : row ≤ r.rows) (short : length text ≤ 48)
    (rows_left : r.rows ≡ 512 → ⊥) (unspent : own_count r ≡ 1000000 → ⊥) where
  passed : (made : Option Position) → is_none made ≡ false
      → is_row (find_in (ids_of (position_made made)) (decode_table r.rows table)) ≡ false
      → Passed (insert_checks r table row text buffer made)
  unfolding insert_checks
  passed made some free = (
    ap not (decided_true (sound? r table) sound),
    (le-ltb _ _ room, (le-ltb _ _ inside, (le-ltb _ _ short, (ne_eqb _ _ rows_left, (ne_eqb _ _ unspent, (some, (free, tt))))))),
  )

  ready : {place : Position} → place_before r table row draw ≡ Some place
      → let found = find_in (ids_of place) (decode_table r.rows table) in is_row found ≡ false
      → let p = own_patch r place (Insert (length text)) in
      Ready r table p (filled 48 text) found
      × ((most_size ≤ length buffer) × (done_answer p p.edit (decode_table r.rows table) ≡ 0))
  unfolding done_answer
  ready {place} made free =
      let is : position_made (place_before r table row draw) ≡ place = ap position_made made in
      let inserts = insert_accepted r table size row buffer draw text
      (passed (place_before r table row draw) (ap is_none made) (rw is free)) in
      (record { sound = sound; takes = rw is at inserts.takes; place = refl }, (room, refl))

pub own_edit-requires : goal.own_edit-requires
own_edit-requires c =
    rw (c.own_patch-p.ensures, c.beside.ensures, c.find-found.ensures)
    (ready _ _ (search rules) _ _ _ _ (c.if-not-sound.ensures.0 refl) c.if-buffer-lt-MOST.false c.if-r-row.false
    c.if-text-gt-TEXT.false c.if-r-eq-ROWS.false (λ spent. c.if-count_of-eq-LAST_NUMBER.false (c.count_of.ensures ∙ spent))
    (sym c.place_before.ensures ∙ c.ok_or.ensures.ok_part ∙ ap result_ok c.in_ok-position.was)
    (sym (c.if-is_row.ensures ∙ ap is_row c.find-found.ensures)))
