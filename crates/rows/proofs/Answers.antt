-- The answer of a test is yes exactly where a fact holds.
-- Assumes nothing.
use Prim.Native.Nat.{ℕ, ◌≤◌}
use mathlib.Core.Path.{◌≡◌, refl, sym, subst, ◌∙◌}
use mathlib.Core.Bool.{Bool, true, false, not}
use mathlib.Core.Logic.{◌↔◌}
use borrow.Author.Tests.{eqb-true, eq-eqb, leb-true, le-leb}
use lib.Dec.{T, eqb, leb}

pub accepted : {X : Type 0} → X → ◌≡◌ {A = Bool} true true ↔ X
accepted x = (λ _. x, λ _. refl)

-- no answer is both
pub no_answer : (b : Bool) → b ≡ false → b ≡ true → ⊥
no_answer b f t = subst (λ (c : Bool). T (not c)) (sym f ∙ t) tt

pub refused : {X : Type 0} → (X → ⊥) → ◌≡◌ {A = Bool} false true ↔ X
refused wrong = (λ q. absurd (no_answer false refl q), λ x. absurd (wrong x))

pub at_most : (a b : ℕ) → (leb a b ≡ true) ↔ (a ≤ b)
at_most a b = (leb-true a b, le-leb a b)

pub equal : (a b : ℕ) → (eqb a b ≡ true) ↔ (a ≡ b)
equal a b = (eqb-true a b, eq-eqb a b)

-- one fact in the place of another
pub means : {X Y Z : Type 0} → X ↔ Y → (Y → Z) → (Z → Y) → X ↔ Z
means e there back = (λ x. there (e.0 x), λ z. e.1 (back z))
