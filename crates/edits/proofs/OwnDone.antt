-- A done own edit. Record and table are sound and hold what its patch does, and the patch reads back from
-- the buffer: so a local edit leaves what its patch would do on arrival. Any other replica with the same
-- counts and lines that receives the bytes written is left with the same counts and the same table.
-- Assumes nothing.
use Prim.Native.Nat.{ℕ, ◌≤◌}
use mathlib.Core.Path.{◌≡◌, refl, sym, ap, ◌∙◌}
use mathlib.Core.List.{List}
use lib.ListN.{length, take, drop}
use lib.Seq.{take_at}
use Rattle.record.specs.declared.Replica.{Replica}
use Rattle.script.specs.Lines.{decode_table}
use Rattle.script.specs.Sound.{Sound}
use Rattle.format.specs.declared.Patch.{Patch}
use Rattle.format.specs.Patches.{patch_bytes}
use Rattle.reader.specs.declared.Reading.{Reading}
use Rattle.reader.specs.Read.{read_first}
use Rattle.reader.proofs.Readings.{reads_back}
use Rattle.writer.proofs.RoundTrip.{written_front}
use Rattle.effect.specs.Held.{Held, held_in, record_holding, table_holding}
use Rattle.effect.specs.Effect.{effect, done_answer, Takes}
use Rattle.effect.proofs.Keeps.{SoundHeld, sound_held, held_sound, held_back, effect_sound}
use Rattle.replica.specs.Receive.{receive_call}
use Rattle.replica.proofs.Arrival.{takes_done}
use Rattle.edits.specs.Own.{OwnOutcome, own_edit}

-- the same counts and lines at another site
abbrev pub elsewhere : Replica → ℕ → Replica
elsewhere r s = record { site = s; rows = r.rows; counts = r.counts }

-- What a done own edit o tells, that made this patch with this text.
pub record OwnDone (r : Replica) (table buffer : List ℕ) (p : Patch) (text : List ℕ) (o : OwnOutcome) : Type 0 where
  pub outcome : o ≡ own_edit r table buffer p text
  -- before: sound, and the patch is one that the replica takes
  pub was_sound : Sound r table
  pub takes : Takes (held_in r table) p text
  -- after: sound, and it holds what the patch does
  pub sound : Sound o.replica o.table
  pub held : held_in o.replica o.table ≡ effect (held_in r table) p text
  -- the patch stands at the front of the buffer and reads back, whatever stands behind it
  pub reads : read_first o.buffer ≡ record { patch = p; text = text; used = o.length }
  pub bytes : take o.length o.buffer ≡ patch_bytes p text
  -- record and table are those that the effect of the patch written leaves
  pub as_received :
      let reading : Reading = read_first o.buffer in
      let does : Held = effect (held_in r table) reading.patch reading.text in
      (o.replica ≡ record_holding does) × (o.table ≡ table_holding does)
  -- and those that receiving the bytes written leaves at another site
  pub arrives : (s : ℕ) → 1 ≤ s → s ≤ 16 → (p.author ≡ s → ⊥)
      → receive_call (elsewhere r s) table (take o.length o.buffer)
      ≡ record { answer = 0; replica = elsewhere o.replica s; table = o.table }

module _ (r : Replica) (table buffer : List ℕ) (p : Patch) (text : List ℕ) (size : length r.counts ≡ 16)
    (sound : Sound r table) (takes : Takes (held_in r table) p text) where
  abbrev after : OwnOutcome
  after = own_edit r table buffer p text

  kept : SoundHeld (effect (held_in r table) p text)
  kept = effect_sound (held_in r table) p text (sound_held r table size sound) takes

  pub own_sound : Sound after.replica after.table
  unfolding own_edit
  own_sound = held_sound (effect (held_in r table) p text) kept

  own_held : held_in after.replica after.table ≡ effect (held_in r table) p text
  unfolding own_edit
  own_held = held_back (effect (held_in r table) p text) kept

  own_reads : read_first after.buffer ≡ record { patch = p; text = text; used = after.length }
  unfolding own_edit
  own_reads =
      ap read_first (written_front (patch_bytes p text) buffer)
      ∙ reads_back p text (drop (length (patch_bytes p text)) buffer) takes.patch

  own_bytes : take after.length after.buffer ≡ patch_bytes p text
  unfolding own_edit
  own_bytes =
      let bytes = patch_bytes p text in
      ap (take (length bytes)) (written_front bytes buffer) ∙ take_at bytes (drop (length bytes) buffer) (length bytes) refl

  own_effect : (does : Held) → does ≡ effect (held_in r table) p text
      → (after.replica ≡ record_holding does) × (after.table ≡ table_holding does)
  unfolding own_edit
  own_effect does e = (ap record_holding (sym e), ap table_holding (sym e))

  module _ (s : ℕ) (least : 1 ≤ s) (most : s ≤ 16) where
    sound_there : Sound (elsewhere r s) table
    sound_there =
        record {
          own = record { site_least = least; site_most = most; rows = sound.own.rows; counts = sound.own.counts };
          size = sound.size;
          row = sound.row;
          unused_rows = sound.unused_rows;
          rising = sound.rising;
        }

    takes_there : Takes (held_in (elsewhere r s) table) p text
    takes_there =
        record { patch = takes.patch; next = takes.next; before = takes.before; free = takes.free; room = takes.room }

    own_arrives : done_answer p p.edit (decode_table r.rows table) ≡ 0 → (p.author ≡ s → ⊥)
        → receive_call (elsewhere r s) table (take after.length after.buffer)
        ≡ record { answer = 0; replica = elsewhere after.replica s; table = after.table }
    unfolding own_edit effect
    own_arrives answers other =
        ap (receive_call (elsewhere r s) table) own_bytes
        ∙ takes_done (elsewhere r s) table p text sound_there takes_there other
        ∙ rw answers

  pub own_done : done_answer p p.edit (decode_table r.rows table) ≡ 0 → OwnDone r table buffer p text after
  own_done answers =
      record {
        outcome = refl;
        was_sound = sound;
        takes = takes;
        sound = own_sound;
        held = own_held;
        reads = own_reads;
        bytes = own_bytes;
        as_received =
            own_effect (effect (held_in r table) (read_first after.buffer).patch (read_first after.buffer).text)
            (ap (λ (reading : Reading). effect (held_in r table) reading.patch reading.text) own_reads);
        arrives = λ s least most other. own_arrives s least most answers other;
      }
