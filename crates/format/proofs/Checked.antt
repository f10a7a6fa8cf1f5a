-- What a list of checks comes to: either a ground refuses, or none holds and it is done.
-- Assumes nothing.
use Prim.Native.Nat.{ℕ}
use mathlib.Core.Path.{◌≡◌, refl, sym, ap, ◌∙◌}
use mathlib.Core.Bool.{Bool, true, false, true≢false, ◌||◌}
use mathlib.Core.List.{List, [], ◌∷◌}
use lib.Dec.{eqb}
use borrow.Author.Tests.{eq-eqb}
use Rattle.std.proofs.lemmas.Bool.{or_parts}
use Rattle.format.specs.Answers.{first_of}

-- none of the grounds holds, told in their order
abbrev pub Passed : List (Bool × ℕ) → Type 0
Passed [] = Unit {0}
Passed ((b, n) ∷ checks) = (b ≡ false) × Passed checks

-- whether a number is that of a ground
abbrev pub among : ℕ → List (Bool × ℕ) → Bool
among a [] = false
among a ((b, n) ∷ checks) = eqb a n || among a checks

module _ {ℓ} {A : Type ℓ} (refused : ℕ → A) (done : A) where
  -- what holds of every refusal, and of what is done where none of the grounds holds, holds of the call
  pub either_way {κ} : (P : A → Type κ) (checks : List (Bool × ℕ)) → ((n : ℕ) → P (refused n)) → (Passed checks → P done)
      → P (first_of checks refused done)
  unfolding first_of
  either_way P [] keeps does = does tt
  either_way P ((true, n) ∷ checks) keeps does = keeps n
  either_way P ((false, n) ∷ checks) keeps does = either_way P checks keeps (λ passed. does (refl, passed))

  -- where none holds, it is done
  pub passed_done : (checks : List (Bool × ℕ)) → Passed checks → first_of checks refused done ≡ done
  unfolding first_of
  passed_done [] passed = refl
  passed_done ((true, n) ∷ checks) (wrong, passed) = absurd (true≢false wrong)
  passed_done ((false, n) ∷ checks) (_, passed) = passed_done checks passed

  -- an answer that is not the number of a ground tells that none held
  answer_passed : (answer : A → ℕ) → ((n : ℕ) → answer (refused n) ≡ n) → (a : ℕ) (checks : List (Bool × ℕ))
      → among a checks ≡ false → answer (first_of checks refused done) ≡ a → Passed checks
  unfolding first_of
  answer_passed answer is a [] other e = tt
  answer_passed answer is a ((true, n) ∷ checks) other e =
      absurd (true≢false (sym (eq-eqb a n (sym e ∙ is n)) ∙ (or_parts (eqb a n) (among a checks) other).0))
  answer_passed answer is a ((false, n) ∷ checks) other e =
      (refl, answer_passed answer is a checks (or_parts (eqb a n) (among a checks) other).1 e)

  -- and so that it is done
  pub answer_done : (answer : A → ℕ) → ((n : ℕ) → answer (refused n) ≡ n) → (a : ℕ) (checks : List (Bool × ℕ))
      → among a checks ≡ false → answer (first_of checks refused done) ≡ a
      → Passed checks × (first_of checks refused done ≡ done)
  answer_done answer is a checks other e =
      let passed = answer_passed answer is a checks other e in
      (passed, passed_done checks passed)

-- a call that does not answer as a done one was refused, and so is any other call with the same checks
pub refused_alike : {A B : Type 0} (refused : ℕ → A) (done : A) (answer : A → ℕ) → ((n : ℕ) → answer (refused n) ≡ n)
    → (refused' : ℕ → B) (done' : B) (checks : List (Bool × ℕ)) → (answer (first_of checks refused done) ≡ answer done → ⊥)
    → first_of checks refused' done' ≡ refused' (answer (first_of checks refused done))
unfolding first_of
refused_alike refused done answer is refused' done' [] other = absurd (other refl)
refused_alike refused done answer is refused' done' ((true, n) ∷ checks) other = ap refused' (sym (is n))
refused_alike refused done answer is refused' done' ((false, n) ∷ checks) other =
    refused_alike refused done answer is refused' done' checks other

-- A call, where some of its checks have passed already: code makes one test after the other, and each place
-- of it tells one check more.
pub record Left {A : Type 0} (call : A) (checks rest : List (Bool × ℕ)) (refused : ℕ → A) (done : A) : Type 0 where
  -- it comes to what the rest comes to
  pub comes : call ≡ first_of rest refused done
  -- and where the rest passes too, all have
  pub before : Passed rest → Passed checks

module _ {A : Type 0} {call : A} {checks : List (Bool × ℕ)} {refused : ℕ → A} {done : A} where
  module _ {b : Bool} {n : ℕ} {rest : List (Bool × ℕ)} (left : Left call checks ((b, n) ∷ rest) refused done) where
    -- where the next one holds, it refuses
    pub refuses : b ≡ true → call ≡ refused n
    unfolding first_of
    refuses e = left.comes ∙ rw e

    -- where it does not, the rest is left
    pub passes : b ≡ false → Left call checks rest refused done
    unfolding first_of
    passes e = record { comes = left.comes ∙ rw e; before = λ passed. left.before (e, passed) }

  -- where none is left, all have passed, and it is done
  pub is_done : Left call checks [] refused done → call ≡ done
  unfolding first_of
  is_done left = left.comes

  pub all_passed : Left call checks [] refused done → Passed checks
  all_passed left = left.before tt
