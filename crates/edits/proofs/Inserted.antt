-- Insert: whatever it answers, a sound replica stays sound; where it answers 0, the new line stands in the
-- row asked for and all other lines keep their order. What its patch is and does is proofs/OwnDone.antt.
-- Assumes nothing.
use Prim.Native.Nat.{ℕ, suc, ◌-◌}
use mathlib.Core.Path.{◌≡◌, refl, sym, ap, ◌∙◌, subst}
use mathlib.Core.List.{List}
use lib.ListN.{length, take}
use lib.Seq.{take_at}
use Rattle.position.specs.declared.Identifier.{Identifier}
use Rattle.position.specs.declared.Position.{Position}
use Rattle.position.specs.Positions.{ids_of}
use Rattle.position.proofs.Ids.{position_ids}
use Rattle.rows.specs.Rows.{filled, insert_at}
use Rattle.rows.proofs.Slots.{zeros, filled_is}
use Rattle.record.specs.declared.Replica.{Replica}
use Rattle.script.specs.declared.table.Found.TheVariants.{Gap}
use Rattle.script.specs.Lines.{Line, decode_table}
use Rattle.script.specs.Sound.{Sound}
use Rattle.script.specs.Find.{find_in}
use Rattle.format.specs.declared.Edit.TheVariants.{Insert}
use Rattle.format.specs.declared.Patch.{Patch}
use Rattle.format.proofs.Checked.{either_way, answer_done}
use Rattle.effect.specs.Held.{Held, held_in}
use Rattle.effect.specs.Effect.{put, edited, effect, done_answer}
use Rattle.replica.specs.Grounds.{own_count}
use Rattle.edits.specs.Own.{OwnOutcome, untouched, own_patch, own_edit}
use Rattle.edits.specs.Insert.{place_before, position_made, insert_checks, insert_call}
use Rattle.edits.proofs.OwnAccepted.{Inserts, insert_accepted}
use Rattle.edits.proofs.OwnDone.{OwnDone, own_sound, own_done}

module _ (r : Replica) (table : List ℕ) (row draw : ℕ) (text buffer : List ℕ) (size : length r.counts ≡ 16) where
  abbrev place : Position
  place = position_made (place_before r table row draw)

  abbrev p : Patch
  p = own_patch r place (Insert (length text))

  abbrev call : OwnOutcome
  call = insert_call r table row draw text buffer

  abbrev done : OwnOutcome
  done = own_edit r table buffer p (filled 48 text)

  pub insert_sound : Sound r table → Sound call.replica call.table
  unfolding insert_call
  insert_sound sound =
      either_way (untouched r table buffer) done (λ (o : OwnOutcome). Sound o.replica o.table)
      (insert_checks r table row text buffer (place_before r table row draw)) (λ n. sound)
      (λ passed. own_sound r table buffer p (filled 48 text) size sound (insert_accepted r table size row buffer draw text passed).takes)

  -- what the answer 0 tells
  pub insert_done : call.answer ≡ 0 → Inserts r table size row buffer text place × OwnDone r table buffer p (filled 48 text) call
  unfolding insert_call insert_checks done_answer
  insert_done answered =
      let checks = insert_checks r table row text buffer (place_before r table row draw) in
      let told = answer_done (untouched r table buffer) done (λ (o : OwnOutcome). o.answer) (λ n. refl) 0 checks refl answered in
      let inserts = insert_accepted r table size row buffer draw text told.0 in (
        inserts,
        subst (OwnDone r table buffer p (filled 48 text)) (sym told.1)
            (own_done r table buffer p (filled 48 text) size inserts.sound inserts.takes refl),
      )

  -- the new line: its place, the next number of this site, and the text
  abbrev new_line : Line
  new_line = record { position = ids_of place; number = suc (own_count r); text = text }

  -- it stands in the row asked for
  put_there : Inserts r table size row buffer text place
      → (effect (held_in r table) p (filled 48 text)).lines ≡ insert_at row new_line (decode_table r.rows table)
  unfolding effect edited put
  put_there inserts =
      let lines = decode_table r.rows table in
      let new = inserts.new in
      let there : find_in (ids_of place) lines ≡ Gap row =
      ap (λ (v : Position). find_in (ids_of v) lines) new.value
      ∙ ap (λ (l : List Identifier). find_in l lines) (position_ids new.ids) ∙ new.gap in
      let kept : take (length text) (filled 48 text) ≡ text =
      ap (take (length text)) (filled_is 48 text inserts.short) ∙ take_at text (zeros (48 - length text)) (length text) refl in
      rw (there, kept)

  pub insert_lines : call.answer ≡ 0
      → decode_table call.replica.rows call.table ≡ insert_at row new_line (decode_table r.rows table)
  insert_lines answered =
      let told = insert_done answered in
      ap (λ (h : Held). h.lines) told.1.held ∙ put_there told.0
