-- What a refused receive tells: the ground of the number answered, said of what the host holds. So where that
-- ground fails, the number is never answered.
-- Assumes nothing.
use Prim.Native.Nat.{ℕ, ◌≤◌, ◌<◌}
use native.Mathlib.Omega.{arith}
use mathlib.Core.Path.{◌≡◌, refl, sym, ap, subst, ◌∙◌}
use mathlib.Core.Bool.{Bool, true, false, true≢false, cond, not, decide, and-eq-true_iff}
use mathlib.Core.Logic.{⊎_elim}
use mathlib.Core.List.{List, [], ◌∷◌}
use lib.Dec.{eqb, ltb}
use lib.ListN.{length}
use borrow.Author.Tests.{ltb-true, leb-true, leb-false, eqb-true, eqb-false, not-true, eq-eqb}
use Rattle.position.specs.Positions.{ids_of}
use Rattle.position.proofs.Decided.{decided_true}
use Rattle.record.specs.declared.Replica.{Replica}
use Rattle.record.specs.Records.{count_of, record_read}
use Rattle.script.specs.Lines.{decode_table}
use Rattle.script.specs.Sound.{Sound}
use Rattle.script.specs.Find.{find_in}
use Rattle.script.proofs.Decided.{sound?}
use Rattle.script.proofs.Tables.{lines_length}
use Rattle.format.specs.declared.Patch.{Patch}
use Rattle.format.specs.Answers.{first_of}
use Rattle.format.specs.Patches.{patch_bytes}
use Rattle.format.specs.WellFormed.{WellFormed}
use Rattle.format.proofs.Checked.{among, answer_done}
use Rattle.format.proofs.Sizes.{sizes}
use Rattle.reader.specs.declared.Reading.{Reading}
use Rattle.reader.specs.Read.{read_one}
use Rattle.reader.proofs.Readings.{one_reads_back}
use Rattle.effect.specs.Held.{Held, Outcome, held_in, unchanged}
use Rattle.effect.specs.Effect.{is_row, done_by, Covers, inserts}
use Rattle.effect.proofs.Decided.{covers?}
use Rattle.effect.proofs.Edits.{done_answers}
use Rattle.effect.proofs.Keeps.{SoundHeld}
use Rattle.replica.specs.Grounds.{full, own_count}
use Rattle.replica.specs.Receive.{receive_checks, receive_call}
use Rattle.replica.proofs.Numbers.{receive_numbers}
use Rattle.replica.proofs.Tests.{passed_is}
use Rattle.host.specs.Calls.{receive_bytes}
use Rattle.exercise.specs.Scripts.{patch_of, beside_of}
use Rattle.exercise.proofs.Tied.{Holding, held_read, sound_read}

-- no two checks have this number
abbrev once : ℕ → List (Bool × ℕ) → Bool
once a [] = true
once a ((b, n) ∷ checks) = cond (eqb a n) (not (among a checks)) (once a checks)

-- what an answer tells: the ground of that number holds, and none of those before it does
abbrev Told : ℕ → List (Bool × ℕ) → Type 0
Told a [] = ⊥
Told a ((b, n) ∷ checks) = cond (eqb a n) (b ≡ true) ((b ≡ false) × Told a checks)

module _ {A : Type 0} (refused : ℕ → A) (done : A) (answer : A → ℕ) (is : (n : ℕ) → answer (refused n) ≡ n) where
  -- where a check has passed, a later one has the number that is answered
  passed_told : (a : ℕ) (checks : List (Bool × ℕ)) (same : Bool) → (among a checks ≡ false → ⊥)
      → (once a checks ≡ true → Told a checks) → cond same (not (among a checks)) (once a checks) ≡ true
      → cond same (false ≡ true) ((false ≡ false) × Told a checks)
  passed_told a checks true later told alone = absurd (later (not-true (among a checks) alone))
  passed_told a checks false later told alone = (refl, told alone)

  -- a number that only one check has, and a done call does not answer, tells its ground
  ground_told : (a : ℕ) (checks : List (Bool × ℕ)) → once a checks ≡ true → (answer done ≡ a → ⊥)
      → answer (first_of checks refused done) ≡ a → Told a checks
  unfolding first_of
  ground_told a [] alone other e = other e
  ground_told a ((true, n) ∷ checks) alone other e = rw (eq-eqb a n (sym e ∙ is n))
  ground_told a ((false, n) ∷ checks) alone other e =
      passed_told a checks (eqb a n)
      (λ none. other (sym (ap answer (answer_done refused done answer is a checks none e).1) ∙ e))
      (λ rest. ground_told a checks rest other e) alone

-- What the answers of a host that holds h tell of the bytes received.
pub record Grounds (h : Held) (b : List ℕ) (answer : ℕ) : Type 0 where
  -- it is sound
  pub sound : answer ≡ 1 → ⊥
  pub malformed : answer ≡ 2 → (read_one b).used ≡ 0
  pub own : answer ≡ 3 → ((patch_of b).author ≡ h.site) × (count_of h.counts h.site < (patch_of b).number)
  pub had : answer ≡ 4 → (patch_of b).number ≤ count_of h.counts (patch_of b).author
  pub early : answer ≡ 5 → Covers h.counts (patch_of b).before → ⊥
  -- neither had nor early: an insert whose position is a row's
  pub taken : answer ≡ 6
      → (count_of h.counts (patch_of b).author < (patch_of b).number)
      × (Covers h.counts (patch_of b).before
      × ((inserts (patch_of b).edit ≡ true) × (is_row (find_in (ids_of (patch_of b).place) h.lines) ≡ true)))
  pub no_room : answer ≡ 7 → (inserts (patch_of b).edit ≡ true) × (length h.lines ≡ 512)
  -- there is no other
  pub numbers : (answer ≡ 0 → ⊥) → (answer ≡ 15 → ⊥) → (1 ≤ answer) × (answer ≤ 7)

module _ (r : Replica) (table b : List ℕ) where
  abbrev p : Patch
  p = patch_of b

  abbrev done : Outcome
  done = done_by r table p (beside_of b)

  abbrev checks : List (Bool × ℕ)
  checks = receive_checks r table (read_one b)

  abbrev answered : ℕ
  answered = (receive_call r table b).answer

  -- done, it answers 0 or 15
  told : (a : ℕ) → once a checks ≡ true → eqb a 0 ≡ false → eqb a 15 ≡ false → answered ≡ a → Told a checks
  unfolding receive_call
  told a alone not-0 not-15 =
      ground_told (unchanged r table) done (λ (o : Outcome). o.answer) (λ n. refl) a checks alone
      (λ e. ⊎_elim (λ is. eqb-false a 0 not-0 (sym e ∙ is)) (λ is. eqb-false a 15 not-15 (sym e ∙ is))
      (done_answers p p.edit (decode_table r.rows table)))

  -- each number's ground, said of what record and table hold
  grounds : Sound r table → Grounds (held_in r table) b answered
  unfolding receive_checks
  grounds sound =
      record {
        sound = λ e. true≢false (sym (told 1 refl refl refl e) ∙ ap not (decided_true (sound? r table) sound));
        malformed = λ e. eqb-true (read_one b).used 0 (told 2 refl refl refl e).1;
        own = λ e.
            let both = (and-eq-true_iff (eqb p.author r.site) (ltb (own_count r) p.number)).0
            (told 3 refl refl refl e).1.1 in
            (eqb-true p.author r.site both.0, ltb-true (own_count r) p.number both.1);
        had = λ e. leb-true p.number (count_of r.counts p.author) (told 4 refl refl refl e).1.1.1;
        early = λ e covers.
            let c? = covers? r.counts p.before in
            true≢false (sym (decided_true c? covers) ∙ not-true (decide c?) (told 5 refl refl refl e).1.1.1.1);
        taken = λ e.
            let from-4 = (told 6 refl refl refl e).1.1.1 in
            let row = is_row (find_in (ids_of p.place) (decode_table r.rows table)) in (
              leb-false p.number (count_of r.counts p.author) from-4.0,
              (passed_is (covers? r.counts p.before) from-4.1.0, (and-eq-true_iff (inserts p.edit) row).0 from-4.1.1),
            );
        no_room = λ e.
            let both = (and-eq-true_iff (inserts p.edit) (full r)).0 (told 7 refl refl refl e).1.1.1.1.1.1 in
            (both.0, lines_length r.rows table ∙ eqb-true r.rows 512 both.1);
        numbers = receive_numbers r table b;
      }

-- A host that holds h receives these bytes.
module _ (h : Held) (sound : SoundHeld h) (state table : List ℕ) (holds : Holding h state table) (b : List ℕ) where
  abbrev answer : ℕ
  answer = (receive_bytes state table b).answer

  pub refused_because : Grounds h b answer
  unfolding receive_bytes
  refused_because =
      subst (λ (k : Held). Grounds k b (receive_call (record_read state) table b).answer) (held_read h sound state table holds)
      (grounds (record_read state) table b (sound_read h sound state table holds))

  pub never_1 : answer ≡ 1 → ⊥
  never_1 = refused_because.sound

  -- the bytes of a well-formed patch
  pub never_2 : WellFormed (patch_of b) (beside_of b) → b ≡ patch_bytes (patch_of b) (beside_of b) → answer ≡ 2 → ⊥
  never_2 good written e =
      let reads = ap read_one written ∙ one_reads_back (patch_of b) (beside_of b) good in
      omega (arith, ap (λ (v : Reading). v.used) reads, refused_because.malformed e, (sizes (patch_of b) (beside_of b) good).0)

  -- an own patch that is counted
  pub never_3 : ((patch_of b).author ≡ h.site → (patch_of b).number ≤ count_of h.counts h.site) → answer ≡ 3 → ⊥
  never_3 counted e =
      let told = refused_because.own e in
      omega (arith, counted told.0, told.1)

  -- an insert whose position is free, as soon as its turn comes
  pub never_6 : (count_of h.counts (patch_of b).author < (patch_of b).number → Covers h.counts (patch_of b).before
      → inserts (patch_of b).edit ≡ true → is_row (find_in (ids_of (patch_of b).place) h.lines) ≡ false)
      → answer ≡ 6 → ⊥
  never_6 free e =
      let told = refused_because.taken e in
      true≢false (sym told.1.1.1 ∙ free told.0 told.1.0 told.1.1.0)
