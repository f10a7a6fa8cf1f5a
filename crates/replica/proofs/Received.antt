-- Receive: whatever it answers, a sound replica stays sound; where it answers 0 or 15, the replica took
-- the patch that the bytes read as, and holds what the patch does.
-- Assumes nothing.
use Prim.Native.Nat.{ℕ}
use mathlib.Core.Path.{◌≡◌, refl, ap, ◌∙◌}
use mathlib.Core.Logic.{◌⊎◌, ⊎_elim}
use mathlib.Core.List.{List}
use lib.ListN.{length}
use Rattle.record.specs.declared.Replica.{Replica}
use Rattle.script.specs.Sound.{Sound}
use Rattle.format.specs.declared.Patch.{Patch}
use Rattle.format.proofs.Checked.{Passed, either_way, answer_done}
use Rattle.reader.specs.Read.{read_one}
use Rattle.effect.specs.Held.{Outcome, held_in, unchanged}
use Rattle.effect.specs.Effect.{effect, done_by, Takes}
use Rattle.effect.proofs.Counted.{raised_length}
use Rattle.effect.proofs.Keeps.{SoundHeld, sound_held, held_sound, held_back, effect_sound}
use Rattle.replica.specs.Receive.{receive_checks, receive_call}
use Rattle.replica.proofs.Accepted.{accepted_takes}

module _ (r : Replica) (table bytes : List ℕ) (size : length r.counts ≡ 16) where
  abbrev p : Patch
  p = (read_one bytes).patch

  abbrev text : List ℕ
  text = (read_one bytes).text

  abbrev call : Outcome
  call = receive_call r table bytes

  abbrev done : Outcome
  done = done_by r table p text

  kept : Sound r table × Takes (held_in r table) p text → SoundHeld (effect (held_in r table) p text)
  kept (sound, takes) = effect_sound (held_in r table) p text (sound_held r table size sound) takes

  pub receive_sound : Sound r table → Sound call.replica call.table
  unfolding receive_call
  receive_sound sound =
      either_way (unchanged r table) done (λ (o : Outcome). Sound o.replica o.table)
      (receive_checks r table (read_one bytes)) (λ n. sound)
      (λ passed. held_sound (effect (held_in r table) p text) (kept (accepted_takes r table bytes passed)))

  -- and a record of sixteen counts one of sixteen
  pub receive_counts : length call.replica.counts ≡ 16
  unfolding receive_call effect
  receive_counts =
      either_way (unchanged r table) done (λ (o : Outcome). length o.replica.counts ≡ 16)
      (receive_checks r table (read_one bytes)) (λ n. size) (λ passed. raised_length r.counts p.author ∙ size)

  -- what the answers 0 and 15 tell
  pub record Received : Type 0 where
    pub sound : Sound r table
    pub takes : Takes (held_in r table) p text
    pub outcome : call ≡ done
    pub held : held_in call.replica call.table ≡ effect (held_in r table) p text

  received : Passed (receive_checks r table (read_one bytes)) × (call ≡ done) → Received
  received (passed, is) =
      let accepted = accepted_takes r table bytes passed in
      record {
        sound = accepted.0;
        takes = accepted.1;
        outcome = is;
        held = ap (λ (o : Outcome). held_in o.replica o.table) is ∙ held_back (effect (held_in r table) p text) (kept accepted);
      }

  pub receive_done : (call.answer ≡ 0) ⊎ (call.answer ≡ 15) → Received
  unfolding receive_call receive_checks
  receive_done answered =
      let tells = answer_done (unchanged r table) done (λ (o : Outcome). o.answer) (λ n. refl) in
      let checks = receive_checks r table (read_one bytes) in
      received (⊎_elim (tells 0 checks refl) (tells 15 checks refl) answered)
