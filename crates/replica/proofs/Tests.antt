-- A test whose answer is yes exactly where a fact holds answers as any decision of that fact does: so the
-- checks of a call, which decide, are the tests of its code.
-- Assumes nothing.
use mathlib.Core.Path.{◌≡◌, refl, sym, ap}
use mathlib.Core.Bool.{Bool, true, false, true≢false, decide, decide_iff, not}
use borrow.Author.Tests.{not-false, lt-ltb, le-ltb, le-leb, lt-leb, eq-eqb, ne_eqb}
use mathlib.Core.Logic.{◌↔◌}
use Rattle.position.proofs.Decided.{decided_true, decided_false}

decision_is : {P : Type 0} (d : Dec P) (b : Bool) → (b ≡ true) ↔ P → decide d ≡ b
unfolding decide
decision_is (yes p) b means = sym (means.1 p)
decision_is (no wrong) true means = absurd (wrong (means.0 refl))
decision_is (no wrong) false means = refl

-- where the check that refuses without the fact has passed, the fact holds
pub passed_is : {P : Type 0} (d : Dec P) → not (decide d) ≡ false → P
passed_is d passed = (decide_iff d).0 (not-false (decide d) passed)

-- and that check is the code's test, the other way round
pub refusal_is : {P : Type 0} (d : Dec P) (b : Bool) → (b ≡ true) ↔ P → not (decide d) ≡ not b
refusal_is d b means = ap not (decision_is d b means)

-- and where the code's test says no, so does the decision
pub decided_not : {P : Type 0} (d : Dec P) → (P → false ≡ true) → decide d ≡ false
decided_not d wrong = decided_false d (λ p. true≢false (sym (wrong p)))

-- what the tests of the code tell of the checks of a call, each of which is one of these tests, decided
pub ruleset decisions = (le-leb, lt-leb, ne_eqb, decided_true, decided_not)

pub ruleset tests = (decisions, lt-ltb, le-ltb, eq-eqb)
