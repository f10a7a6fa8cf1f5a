-- The numbers that receive answers: 0 and 15 where it is done, 1 to 7 where it is refused.
-- Assumes nothing.
use Prim.Native.Nat.{ℕ, ◌≤◌}
use borrow.Author.Tests.{leb-true}
use mathlib.Core.Path.{◌≡◌, refl, ap, ◌∙◌}
use mathlib.Core.Bool.{Bool, true, false, ◌&&◌, and-eq-true_iff}
use mathlib.Core.Logic.{⊎_elim}
use mathlib.Core.List.{List, [], ◌∷◌}
use lib.Dec.{leb}
use Rattle.record.specs.declared.Replica.{Replica}
use Rattle.script.specs.Lines.{decode_table}
use Rattle.format.specs.declared.Patch.{Patch}
use Rattle.format.specs.Answers.{first_of}
use Rattle.reader.specs.Read.{read_one}
use Rattle.effect.specs.Held.{Outcome, unchanged}
use Rattle.effect.specs.Effect.{done_by}
use Rattle.effect.proofs.Edits.{done_answers}
use Rattle.replica.specs.Receive.{receive_checks, receive_call}

-- each check's number passes this test
abbrev each : (ℕ → Bool) → List (Bool × ℕ) → Bool
each test [] = true
each test ((b, n) ∷ checks) = test n && each test checks

-- a refused call answers with the number of a check
number_told : {A : Type 0} (refused : ℕ → A) (done : A) (answer : A → ℕ) → ((n : ℕ) → answer (refused n) ≡ n)
    → (test : ℕ → Bool) (checks : List (Bool × ℕ)) → each test checks ≡ true
    → (answer (first_of checks refused done) ≡ answer done → ⊥) → test (answer (first_of checks refused done)) ≡ true
unfolding first_of
number_told refused done answer is test [] all other = absurd (other refl)
number_told refused done answer is test ((true, n) ∷ checks) all other =
    ap test (is n) ∙ ((and-eq-true_iff (test n) (each test checks)).0 all).0
number_told refused done answer is test ((false, n) ∷ checks) all other =
    number_told refused done answer is test checks ((and-eq-true_iff (test n) (each test checks)).0 all).1 other

module _ (r : Replica) (table bytes : List ℕ) where
  abbrev p : Patch
  p = (read_one bytes).patch

  abbrev answered : ℕ
  answered = (receive_call r table bytes).answer

  pub receive_numbers : (answered ≡ 0 → ⊥) → (answered ≡ 15 → ⊥) → (1 ≤ answered) × (answered ≤ 7)
  unfolding receive_call receive_checks
  receive_numbers not-0 not-15 =
      let within = number_told (unchanged r table) (done_by r table p (read_one bytes).text) (λ (o : Outcome). o.answer) (λ n. refl)
      (λ n. leb 1 n && leb n 7) (receive_checks r table (read_one bytes)) refl
      (λ e. ⊎_elim (λ is. not-0 (e ∙ is)) (λ is. not-15 (e ∙ is)) (done_answers p p.edit (decode_table r.rows table))) in
      let both = (and-eq-true_iff (leb 1 answered) (leb answered 7)).0 within in
      (leb-true 1 answered both.0, leb-true answered 7 both.1)
