-- Past the checks of `delete` the row is in use, its line is found there and has its own number: the patch
-- that names it is one to do.
-- Assumes nothing.
use Prim.Native.Nat.{ℕ, ◌*◌, ◌≤◌, ◌<◌}
use borrow.Author.Rules.{rules}
use borrow.Author.Tests.{le-ltb, lt-leb, ne_eqb}
use mathlib.Core.Path.{◌≡◌, refl, sym, ap, ◌∙◌}
use mathlib.Core.Bool.{not}
use mathlib.Core.List.{List}
use lib.ListN.{length, replicate}
use Rattle.position.specs.Positions.{position_of}
use Rattle.position.proofs.Ids.{position_ids}
use Rattle.rows.proofs.Bytes.{rest_lent}
use Rattle.position.proofs.Decided.{decided_true}
use Rattle.record.specs.declared.Replica.{Replica}
use Rattle.script.specs.declared.table.Found.TheVariants.{Row}
use Rattle.script.specs.Lines.{identifiers_of, number_of, decode_row, decode_table}
use Rattle.script.specs.Sound.{Sound}
use Rattle.script.proofs.Decided.{sound?}
use Rattle.script.proofs.Lent.{lent_row, row_there, line_found}
use Rattle.format.specs.declared.Edit.TheVariants.{Delete}
use Rattle.format.specs.Patches.{most_size}
use Rattle.format.proofs.Checked.{Passed}
use Rattle.effect.specs.Effect.{done_answer}
use Rattle.effect.specs.Steps.{Ready}
use Rattle.replica.specs.Grounds.{own_count}
use Rattle.edits.specs.Own.{own_patch}
use Rattle.edits.specs.Delete.{delete_checks}
use Rattle.edits.proofs.OwnAccepted.{delete_accepted}
use Rattle.edits.proofs.Deleted.{row_struck}
use Rattle.edits.proofs.delete.delete.Goals as goal

module _ (r : Replica) (table : List ℕ) (size : length r.counts ≡ 16) (row : ℕ) (buffer : List ℕ) (sound : Sound r table)
    (room : most_size ≤ length buffer) (inside : row < r.rows) (unspent : own_count r ≡ 1000000 → ⊥) where
  passed : Passed (delete_checks r table row buffer)
  unfolding delete_checks
  passed = (ap not (decided_true (sound? r table) sound), (le-ltb _ _ room, (lt-leb _ _ inside, (ne_eqb _ _ unspent, tt))))

  -- the patch names what is read in the row
  ready :
      let lent = lent_row table row in
      let p = own_patch r (position_of (identifiers_of lent)) (Delete (number_of lent)) in
      Ready r table p (replicate 48 0) (Row row)
      × ((most_size ≤ length buffer) × (done_answer p p.edit (decode_table r.rows table) ≡ 0))
  unfolding done_answer decode_row
  ready =
      rw (rest_lent (row * 78) table) (
        record {
          sound = sound;
          takes = (delete_accepted r table size row buffer passed).takes;
          place = rw position_ids (sym (line_found r table row sound inside));
        },
        (room, rw (position_ids, row_struck r table row sound inside)),
      )

pub position-requires : goal.position-requires
position-requires c = row_there _ _ _ (c.if-not-sound.ensures.0 refl) c.if-r-row.false

pub own_edit-requires : goal.own_edit-requires
own_edit-requires c =
    rw (c.own_patch-p.ensures, c.position.ensures, c.number.ensures)
    (ready _ _ (search rules) _ _ (c.if-not-sound.ensures.0 refl) c.if-buffer-lt-MOST.false c.if-r-row.false
    (λ spent. c.if-count_of-eq-LAST_NUMBER.false (c.count_of.ensures ∙ spent)))
