-- Delete: whatever it answers, a sound replica stays sound; where it answers 0, the line of the row is
-- gone and all other lines keep their order. What its patch is and does is proofs/OwnDone.antt.
-- Assumes nothing.
use Prim.Native.Nat.{ℕ, ◌<◌}
use mathlib.Core.Path.{◌≡◌, refl, sym, ap, ◌∙◌, subst}
use mathlib.Core.Option.{some}
use mathlib.Core.List.{List}
use lib.ListN.{length, replicate}
use Rattle.position.specs.declared.Identifier.{Identifier}
use Rattle.position.specs.Positions.{position_of}
use Rattle.position.proofs.Ids.{position_ids}
use Rattle.rows.specs.Rows.{remove_at}
use Rattle.record.specs.declared.Replica.{Replica}
use Rattle.script.specs.Lines.{Line, decode_row, row_at, decode_table}
use Rattle.script.specs.Sound.{Sound}
use Rattle.script.proofs.Lent.{line_found}
use Rattle.format.specs.declared.Edit.TheVariants.{Delete}
use Rattle.format.specs.declared.Patch.{Patch}
use Rattle.format.proofs.Checked.{either_way, answer_done}
use Rattle.effect.specs.Held.{Held, held_in}
use Rattle.effect.specs.Effect.{line_row, without, strike, edited, effect, done_answer}
use Rattle.effect.proofs.Edits.{same_number}
use Rattle.edits.specs.Own.{OwnOutcome, untouched, own_patch, own_edit}
use Rattle.edits.specs.Delete.{delete_checks, delete_call}
use Rattle.edits.proofs.OwnAccepted.{Deletes, delete_accepted}
use Rattle.edits.proofs.OwnDone.{OwnDone, own_sound, own_done}

-- the line that stands in a row is the one struck, by its position and its number
pub row_struck : (r : Replica) (table : List ℕ) (row : ℕ) → Sound r table → row < r.rows
    → let l : Line = decode_row (row_at table row) in line_row l.position l.number (decode_table r.rows table) ≡ some row
unfolding line_row decode_row
row_struck r table row sound h =
    rw (line_found r table row sound h) (same_number (decode_row (row_at table row)).number r.rows row table h refl)

module _ (r : Replica) (table : List ℕ) (row : ℕ) (buffer : List ℕ) (size : length r.counts ≡ 16) where
  abbrev l : Line
  l = decode_row (row_at table row)

  abbrev p : Patch
  p = own_patch r (position_of l.position) (Delete l.number)

  abbrev text : List ℕ
  text = replicate 48 0

  abbrev call : OwnOutcome
  call = delete_call r table row buffer

  abbrev done : OwnOutcome
  done = own_edit r table buffer p text

  pub delete_sound : Sound r table → Sound call.replica call.table
  unfolding delete_call
  delete_sound sound =
      either_way (untouched r table buffer) done (λ (o : OwnOutcome). Sound o.replica o.table)
      (delete_checks r table row buffer) (λ n. sound)
      (λ passed. own_sound r table buffer p text size sound (delete_accepted r table size row buffer passed).takes)

  -- what the answer 0 tells
  pub delete_done : call.answer ≡ 0 → Deletes r table size row buffer × OwnDone r table buffer p text call
  unfolding delete_call delete_checks done_answer
  delete_done answered =
      let checks = delete_checks r table row buffer in
      let told = answer_done (untouched r table buffer) done (λ (o : OwnOutcome). o.answer) (λ n. refl) 0 checks refl answered in
      let deletes = delete_accepted r table size row buffer told.0 in
      let struck : done_answer p p.edit (decode_table r.rows table) ≡ 0 =
      rw (position_ids, row_struck r table row deletes.sound deletes.inside) in (
        deletes,
        subst (OwnDone r table buffer p text) (sym told.1)
            (own_done r table buffer p text size deletes.sound deletes.takes struck),
      )

  -- the line of the row is struck
  taken_there : Deletes r table size row buffer
      → (effect (held_in r table) p text).lines ≡ remove_at row (decode_table r.rows table)
  unfolding effect edited strike
  taken_there deletes =
      let lines = decode_table r.rows table in
      ap (λ (ids : List Identifier). without (line_row ids l.number lines) lines) (position_ids l.position)
      ∙ rw (row_struck r table row deletes.sound deletes.inside)

  pub delete_lines : call.answer ≡ 0
      → decode_table call.replica.rows call.table ≡ remove_at row (decode_table r.rows table)
  delete_lines answered =
      let told = delete_done answered in
      ap (λ (h : Held). h.lines) told.1.held ∙ taken_there told.0
