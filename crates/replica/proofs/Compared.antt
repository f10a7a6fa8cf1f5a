-- Two lists put together place by place: what stands at a place. And where each site by itself is given what one
-- side lacks, that is all that comparing gives.
-- Assumes nothing.
use Prim.Native.Nat.{ℕ, zero, suc, ◌<◌}
use native.Mathlib.Nat.{le_of_suc-le-suc}
use native.Mathlib.Omega.{arith}
use mathlib.Core.Path.{◌≡◌, refl}
use mathlib.Core.List.{List, [], ◌∷◌, zip_with}
use lib.ListN.{length, get_or}
use Rattle.std.specs.Prelude.{Option, None, map}
use Rattle.replica.specs.declared.compare.Missing.{Missing}
use Rattle.replica.specs.Compare.{lack_of, lack_given}

module _ {A B C : Type 0} (f : A → B → C) where
  pub together_at : (a : List A) (b : List B) (i : ℕ) (x : A) (y : B) (d : C) → i < length a → i < length b
      → get_or (zip_with f a b) i d ≡ f (get_or a i x) (get_or b i y)
  unfolding zip_with
  together_at [] b i x y d h k = absurd (omega arith)
  together_at (x₁ ∷ a) [] i x y d h k = absurd (omega arith)
  together_at (x₁ ∷ a) (y₁ ∷ b) zero x y d h k = refl
  together_at (x₁ ∷ a) (y₁ ∷ b) (suc i) x y d h k =
      together_at a b i x y d (le_of_suc-le-suc h) (le_of_suc-le-suc k)

-- each site by itself, and all of them
pub all_given : (sites : List (Option Missing)) (first second : List ℕ) → length sites ≡ length first → length sites ≡ length second
    → ((k : ℕ) → k < length sites → lack_given (get_or sites k None) ≡ lack_of (get_or first k 0) (get_or second k 0))
    → map lack_given sites ≡ zip_with lack_of first second
unfolding zip_with
all_given [] [] [] m n each = refl
all_given [] [] (b ∷ second) m n each = absurd (omega (arith, n))
all_given [] (a ∷ first) second m n each = absurd (omega (arith, m))
all_given (x ∷ sites) [] second m n each = absurd (omega (arith, m))
all_given (x ∷ sites) (a ∷ first) [] m n each = absurd (omega (arith, n))
all_given (x ∷ sites) (a ∷ first) (b ∷ second) m n each =
    rw (each 0 (omega arith), all_given sites first second (omega (arith, m)) (omega (arith, n)) (λ k h. each (suc k) (omega (arith, h))))
