-- Receive over bytes, said of what the host holds: a patch that is done is one that the host takes, of another
-- site, and the bytes then hold its effect; a refused one leaves them as they were.
-- Assumes nothing.
use Prim.Native.Nat.{ℕ, ◌<◌}
use native.Mathlib.Omega.{arith}
use mathlib.Core.Path.{◌≡◌, refl, sym, ap, subst, ◌∙◌}
use mathlib.Core.Bool.{true, false, true≢false, ◌&&◌}
use mathlib.Core.Logic.{◌⊎◌, ⊎_elim}
use mathlib.Core.List.{List}
use lib.Dec.{eqb, leb, ltb}
use borrow.Author.Tests.{leb-false, eqb-false, lt-ltb, eq-eqb}
use Rattle.record.specs.declared.Replica.{Replica}
use Rattle.record.specs.Records.{count_of, record_read, record_written}
use Rattle.script.specs.Lines.{decode_table}
use Rattle.format.specs.Patches.{patch_bytes}
use Rattle.format.proofs.Checked.{Passed, either_way, answer_done}
use Rattle.reader.specs.Read.{read_one}
use Rattle.reader.proofs.Readings.{one_is_read}
use Rattle.effect.specs.Held.{Held, Outcome, held_in, unchanged}
use Rattle.effect.specs.Effect.{done_answer, effect, done_by, Takes}
use Rattle.effect.proofs.Edits.{done_answers}
use Rattle.effect.proofs.Keeps.{SoundHeld}
use Rattle.replica.specs.Receive.{receive_checks, receive_call}
use Rattle.replica.proofs.Accepted.{accepted_takes}
use Rattle.replica.proofs.Arrival.{takes_done}
use Rattle.host.specs.Calls.{Called, receive_bytes}
use Rattle.exercise.specs.Scripts.{patch_of, beside_of}
use Rattle.exercise.proofs.Tied.{Holding, left_holding, state_size, held_read, sound_read, record_stays}

-- What a host that held h tells with a patch received, where record and table then are these bytes.
pub record ReceivedTold (h : Held) (b state table : List ℕ) : Type 0 where
  pub takes : Takes h (patch_of b) (beside_of b)
  -- it comes from another site
  pub other : (patch_of b).author ≡ h.site → ⊥
  pub written : b ≡ patch_bytes (patch_of b) (beside_of b)
  pub holds : Holding (effect h (patch_of b) (beside_of b)) state table

-- A patch that passed the check for own numbers and the one for old numbers is of another site.
not_own : (counts : List ℕ) (author site number : ℕ) → (eqb author site && ltb (count_of counts site) number) ≡ false
    → leb number (count_of counts author) ≡ false → author ≡ site → ⊥
not_own counts author site number passed above e =
    let over : count_of counts site < number =
    omega (arith, leb-false number (count_of counts author) above, ap (count_of counts) e) in
    let refuses : (eqb author site && ltb (count_of counts site) number) ≡ true =
    rw (eq-eqb author site e, lt-ltb (count_of counts site) number over) in
    true≢false (sym refuses ∙ passed)

-- So is one that passed all checks,
passed_other : (r : Replica) (table b : List ℕ) → Passed (receive_checks r table (read_one b)) → (patch_of b).author ≡ r.site → ⊥
unfolding receive_checks
passed_other r table b (_, (_, (own, (above, _)))) = not_own r.counts (patch_of b).author r.site (patch_of b).number own above

-- and its bytes are its own
passed_written : (r : Replica) (table b : List ℕ) → Passed (receive_checks r table (read_one b))
    → b ≡ patch_bytes (patch_of b) (beside_of b)
unfolding receive_checks
passed_written r table b (_, (some, _)) = (one_is_read b (omega (arith, eqb-false (read_one b).used 0 some))).1

-- A host that holds h receives these bytes.
module _ (h : Held) (sound : SoundHeld h) (state table : List ℕ) (holds : Holding h state table) (b : List ℕ) where
  abbrev r : Replica
  r = record_read state

  same : held_in r table ≡ h
  same = held_read h sound state table holds

  abbrev c : Called
  c = receive_bytes state table b

  abbrev done : Outcome
  done = done_by r table (patch_of b) (beside_of b)

  -- refused, record and table stay
  pub receive_stays : (c.answer ≡ 0 → ⊥) → (c.answer ≡ 15 → ⊥) → (c.state ≡ state) × (c.table ≡ table)
  unfolding receive_bytes receive_call
  receive_stays =
      either_way (unchanged r table) done
      (λ (o : Outcome). (o.answer ≡ 0 → ⊥) → (o.answer ≡ 15 → ⊥) → (record_written o.replica state ≡ state) × (o.table ≡ table))
      (receive_checks r table (read_one b)) (λ n not-0 not-15. (record_stays h sound state table holds, refl))
      (λ passed not-0 not-15. absurd (⊎_elim not-0 not-15 (done_answers (patch_of b) (patch_of b).edit (decode_table r.rows table))))

  -- no check refused it
  received : Passed (receive_checks r table (read_one b)) × (receive_call r table b ≡ done) → ReceivedTold h b c.state c.table
  unfolding receive_bytes
  received (passed, is) =
      let o = receive_call r table b in
      subst (λ (k : Held). ReceivedTold k b (record_written o.replica state) o.table) same
      (record {
        takes = (accepted_takes r table b passed).1;
        other = passed_other r table b passed;
        written = passed_written r table b passed;
        holds = left_holding state (state_size h sound state table holds) (effect (held_in r table) (patch_of b) (beside_of b)) o.replica o.table
            (ap (λ (v : Outcome). v.replica) is) (ap (λ (v : Outcome). v.table) is);
      })

  -- done, a patch that the host takes was received
  pub receive_done_tells : (c.answer ≡ 0) ⊎ (c.answer ≡ 15) → ReceivedTold h b c.state c.table
  unfolding receive_bytes receive_call receive_checks
  receive_done_tells answered =
      let tells = answer_done (unchanged r table) done (λ (o : Outcome). o.answer) (λ n. refl) in
      let checks = receive_checks r table (read_one b) in
      received (⊎_elim (tells 0 checks refl) (tells 15 checks refl) answered)

  -- a patch of another site that the host takes is done
  pub receive_takes : Takes h (patch_of b) (beside_of b) → ((patch_of b).author ≡ h.site → ⊥)
      → b ≡ patch_bytes (patch_of b) (beside_of b) → c.answer ≡ done_answer (patch_of b) (patch_of b).edit h.lines
  unfolding receive_bytes
  receive_takes takes other written =
      let p = patch_of b in
      let here : Takes (held_in r table) p (beside_of b) = subst (λ (k : Held). Takes k p (beside_of b)) (sym same) takes in
      let elsewhere : p.author ≡ r.site → ⊥ = λ e. other (e ∙ ap (λ (k : Held). k.site) same) in
      let is : receive_call r table b ≡ done =
      ap (receive_call r table) written ∙ takes_done r table p (beside_of b) (sound_read h sound state table holds) here elsewhere in
      ap (λ (o : Outcome). o.answer) is ∙ ap (λ (k : Held). done_answer p p.edit k.lines) same
