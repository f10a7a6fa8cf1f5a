-- What the checks of receive tell where all have passed: record and table are sound, and the replica takes
-- the patch that was read. And that the author of a reading handed out is a site.
-- Assumes nothing.
use Prim.Native.Nat.{ℕ, suc, ◌-◌, ◌≤◌, ◌<◌}
use native.Mathlib.Omega.{arith}
use mathlib.Core.Path.{◌≡◌}
use mathlib.Core.List.{List}
use borrow.Author.Tests.{leb-false, eqb-false}
use Rattle.std.specs.Prelude.{Some}
use Rattle.record.specs.declared.Replica.{Replica}
use Rattle.record.specs.Records.{count_of}
use Rattle.script.specs.Sound.{Sound}
use Rattle.script.proofs.Decided.{sound?}
use Rattle.script.proofs.Tables.{lines_length}
use Rattle.format.specs.declared.Patch.{Patch}
use Rattle.format.specs.WellFormed.{WellFormed}
use Rattle.format.proofs.Checked.{Passed}
use Rattle.reader.specs.declared.Reading.{Reading}
use Rattle.reader.specs.Read.{read_one, taken}
use Rattle.reader.proofs.Readings.{one_is_read}
use Rattle.reader.proofs.Taken.{some_taken}
use Rattle.effect.specs.Held.{held_in}
use Rattle.effect.specs.Effect.{Covers, Takes}
use Rattle.effect.proofs.Decided.{covers?}
use Rattle.replica.specs.Receive.{receive_checks}
use Rattle.replica.proofs.Tests.{passed_is}

-- a number that is not received, of a patch whose own entry is covered, is the next
next_number : (counts : List ℕ) (p : Patch) (text : List ℕ) → WellFormed p text → Covers counts p.before
    → count_of counts p.author < p.number → p.number ≡ suc (count_of counts p.author)
next_number counts p text good covered above =
    let entry : count_of p.before p.author ≤ count_of counts p.author =
    covered (p.author - 1) (omega (arith, good.head.author_least, good.head.author_most)) in
    omega (arith, entry, good.own_entry, good.head.numbered.0)

pub accepted_takes : (r : Replica) (table bytes : List ℕ) → Passed (receive_checks r table (read_one bytes))
    → Sound r table × Takes (held_in r table) (read_one bytes).patch (read_one bytes).text
unfolding receive_checks
accepted_takes r table bytes (soundly, (some, (own, (above, (covered, (free, (room, _))))))) =
    let p = (read_one bytes).patch in
    let sound : Sound r table = passed_is (sound? r table) soundly in
    let good : WellFormed p (read_one bytes).text =
    (one_is_read bytes (omega (arith, eqb-false (read_one bytes).used 0 some))).0 in
    let covers : Covers r.counts p.before = passed_is (covers? r.counts p.before) covered in (
      sound,
      record {
        patch = good;
        next = next_number r.counts p (read_one bytes).text good covers (leb-false p.number (count_of r.counts p.author) above);
        before = covers;
        free = λ is. rw is at free;
        room = λ is.
            let left : r.rows ≡ 512 → ⊥ = eqb-false r.rows 512 (rw is at room) in
            rw (lines_length r.rows table) (omega (arith, left, sound.own.rows));
      },
    )

-- what is handed out of a reading is well-formed: its author is a site
pub author_site : (bytes : List ℕ) (reading : Reading) → taken (read_one bytes) ≡ Some reading
    → (1 ≤ reading.patch.author) × (reading.patch.author ≤ 16)
author_site bytes reading read =
    let both = some_taken (read_one bytes) reading read in
    let head = (one_is_read bytes (omega (arith, both.1))).0.head in
    rw both.0 (head.author_least, head.author_most)
