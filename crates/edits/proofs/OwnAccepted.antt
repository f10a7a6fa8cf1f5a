-- What the checks of insert and of delete tell where all have passed: record and table are sound, the
-- buffer has room, and the replica takes the patch that is made.
-- Assumes nothing.
use Prim.Native.Nat.{ℕ, ◌-◌, ◌≤◌, ◌<◌}
use native.Mathlib.Omega.{arith}
use mathlib.Core.Path.{◌≡◌, sym, subst}
use mathlib.Core.Bool.{false}
use mathlib.Core.List.{List}
use borrow.Author.Tests.{ltb-false, leb-false, eqb-false}
use lib.ListN.{length, replicate}
use Rattle.position.specs.declared.Position.{Position}
use Rattle.position.specs.Positions.{position_of}
use Rattle.rows.specs.Rows.{filled}
use Rattle.record.specs.declared.Replica.{Replica}
use Rattle.script.specs.Lines.{Line, decode_row, row_at, decode_table}
use Rattle.script.specs.Sound.{Sound}
use Rattle.script.specs.Find.{find_in}
use Rattle.script.proofs.Decided.{sound?}
use Rattle.format.specs.declared.Edit.TheVariants.{Insert, Delete}
use Rattle.format.specs.Patches.{most_size}
use Rattle.format.proofs.Checked.{Passed}
use Rattle.effect.specs.Held.{held_in}
use Rattle.effect.specs.Effect.{is_row, Takes}
use Rattle.replica.specs.Grounds.{own_count}
use Rattle.replica.proofs.Tests.{passed_is}
use Rattle.edits.specs.Own.{own_patch}
use Rattle.edits.specs.Insert.{place_before, position_made, insert_checks}
use Rattle.edits.specs.Delete.{delete_checks}
use Rattle.edits.proofs.NewPlace.{NewPlace, new_place}
use Rattle.edits.proofs.OwnPatch.{insert_takes, delete_takes}

module _ (r : Replica) (table : List ℕ) (size : length r.counts ≡ 16) (row : ℕ) (buffer : List ℕ) where
  -- the own count of a sound record, where it is not spent
  unspent : Sound r table → (own_count r ≡ 1000000 → ⊥) → own_count r < 1000000
  unspent sound left =
      let there : r.site - 1 < 16 = omega (arith, sound.own.site_least, sound.own.site_most) in
      omega (arith, left, sound.own.counts (r.site - 1) there)

  -- of an insert of this text, with the place that was made
  pub record Inserts (text : List ℕ) (place : Position) : Type 0 where
    pub sound : Sound r table
    pub buffer_room : most_size ≤ length buffer
    pub inside : row ≤ r.rows
    pub short : length text ≤ 48
    -- a number is left
    pub left : own_count r < 1000000
    pub new : NewPlace r table row place
    pub takes : Takes (held_in r table) (own_patch r place (Insert (length text))) (filled 48 text)

  pub insert_accepted : (draw : ℕ) (text : List ℕ)
      → Passed (insert_checks r table row text buffer (place_before r table row draw))
      → Inserts text (position_made (place_before r table row draw))
  unfolding insert_checks
  insert_accepted draw text (soundly, (room, (inside, (short, (left, (unused, (made, (free, _)))))))) =
      let sound : Sound r table = passed_is (sound? r table) soundly in
      let within : row ≤ r.rows = ltb-false r.rows row inside in
      let most : length text ≤ 48 = ltb-false 48 (length text) short in
      let new = new_place r table row draw sound within made in
      let rows_left : r.rows < 512 = omega (arith, eqb-false r.rows 512 left, sound.own.rows) in
      let below = unspent sound (eqb-false (own_count r) 1000000 unused) in
      let nowhere : is_row (find_in new.ids (decode_table r.rows table)) ≡ false = rw new.gap in
      record {
        sound = sound;
        buffer_room = ltb-false (length buffer) most_size room;
        inside = within;
        short = most;
        left = below;
        new = new;
        takes = subst (λ (v : Position). Takes (held_in r table) (own_patch r v (Insert (length text))) (filled 48 text)) (sym new.value)
            (insert_takes r table size sound below new.ids new.line new.author text most nowhere rows_left);
      }

  -- of a delete: the patch names the line of the row
  pub record Deletes : Type 0 where
    pub sound : Sound r table
    pub buffer_room : most_size ≤ length buffer
    pub inside : row < r.rows
    pub left : own_count r < 1000000
    pub takes :
        let l : Line = decode_row (row_at table row) in
        Takes (held_in r table) (own_patch r (position_of l.position) (Delete l.number)) (replicate 48 0)

  pub delete_accepted : Passed (delete_checks r table row buffer) → Deletes
  unfolding delete_checks
  delete_accepted (soundly, (room, (inside, (unused, _)))) =
      let sound : Sound r table = passed_is (sound? r table) soundly in
      let within : row < r.rows = leb-false r.rows row inside in
      let below = unspent sound (eqb-false (own_count r) 1000000 unused) in
      let line = (sound.row row within).line in
      record {
        sound = sound;
        buffer_room = ltb-false (length buffer) most_size room;
        inside = within;
        left = below;
        takes = delete_takes r table size sound below
            (decode_row (row_at table row)).position line.position (decode_row (row_at table row)).number
            line.number_least line.number_most line.counted;
      }
