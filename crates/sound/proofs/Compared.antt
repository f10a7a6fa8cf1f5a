-- The order of two numbers that bytes make is that of their high bytes and, where these are equal,
-- that of their low bytes.
-- Assumes nothing.
use Prim.Native.Nat.{ℕ, ◌+◌, ◌*◌, ◌^◌, ◌<◌}
use native.Mathlib.Nat.{mul-le-mul_right}
use native.Mathlib.Omega.{arith}
use mathlib.Core.Path.{◌≡◌, refl, sym, ap, ◌∙◌}
use mathlib.Core.Logic.{◌↔◌, ◌⊎◌, inl, inr, ⊎_elim}
use mathlib.Core.List.{List}
use Rattle.std.specs.declared.cmp.Ordering.{Ordering}
use Rattle.std.specs.declared.cmp.Ordering.TheVariants.{Less, Equal, Greater}
use Rattle.position.specs.Order.{then_by, number_order}
use Rattle.position.proofs.Ordered.{Numbers, less, equal, more, numbers, never}
use Rattle.position.proofs.Ordered.{less_below, below_less, equal_same, more_above}
use Rattle.rows.specs.Numbers.{num_at}
use Rattle.rows.proofs.Digits.{Bytes, num_less, num_splits}

-- the answer that fits two numbers is the one that they get
answer : {a b : ℕ} (o : Ordering) → Numbers a b o → number_order a b ≡ o
answer Less (less h) = less_below h
answer {a} Equal (equal e) = rw (← e) (equal_same a)
answer Greater (more h) = more_above h

module _ (B : ℕ) where
  -- less by the high part, whatever the low parts are
  high_less : (a b c d : ℕ) → b < B → a < c → a * B + b < c * B + d
  high_less a b c d h k = omega (arith, mul-le-mul_right B k)

  by_parts : (a b c d : ℕ) (high low : Ordering) → b < B → d < B → Numbers a c high → Numbers b d low →
      Numbers (a * B + b) (c * B + d) (then_by high low)
  by_parts a b c d Less low h k (less l) n = less (high_less a b c d h l)
  by_parts a b c d Equal Less h k (equal e) (less l) = less (omega (arith, ap (λ (x : ℕ). x * B) e))
  by_parts a b c d Equal Equal h k (equal e) (equal f) = equal (omega (arith, ap (λ (x : ℕ). x * B) e))
  by_parts a b c d Equal Greater h k (equal e) (more l) = more (omega (arith, ap (λ (x : ℕ). x * B) e))
  by_parts a b c d Greater low h k (more l) n = more (high_less c d a b k l)

-- of two numbers of m + n bytes the first m decide and, where these are the same, the n behind them
pub compared : (m n at : ℕ) (s t : List ℕ) → Bytes s → Bytes t →
    number_order (num_at (m + n) s at) (num_at (m + n) t at)
    ≡ then_by
    (number_order (num_at m s at) (num_at m t at))
    (number_order (num_at n s (at + m)) (num_at n t (at + m)))
compared m n at s t h k =
    let s-low = num_less n (at + m) s h in
    let t-low = num_less n (at + m) t k in
    rw (num_splits m n at s, num_splits m n at t)
    (answer _ (by_parts (256 ^ n) _ _ _ _ _ _ s-low t-low (numbers _ _) (numbers _ _)))

below_then : (a b c d : ℕ) →
    (then_by (number_order a b) (number_order c d) ≡ Less) ↔ ((a < b) ⊎ ((a ≡ b) × (c < d)))
below_then a b c d = by (number_order a b) (numbers a b)
  where
    by : (o : Ordering) → Numbers a b o → (then_by o (number_order c d) ≡ Less) ↔ ((a < b) ⊎ ((a ≡ b) × (c < d)))
    by Less (less h) = (λ e. inl h, λ w. refl)
    by Equal (equal e) =
        (λ r. inr (e, below_less c d r), ⊎_elim (λ l. absurd (omega arith)) (λ w. less_below w.1))
    by Greater (more h) = (λ e. never (cc), ⊎_elim (λ l. absurd (omega arith)) (λ w. absurd (omega arith)))

-- the same, of `Less` alone
pub less_by_parts : (m n at : ℕ) (s t : List ℕ) → Bytes s → Bytes t →
    (num_at (m + n) s at < num_at (m + n) t at)
    ↔ ((num_at m s at < num_at m t at)
    ⊎ ((num_at m s at ≡ num_at m t at) × (num_at n s (at + m) < num_at n t (at + m))))
less_by_parts m n at s t h k =
    let parts = compared m n at s t h k in
    let told = below_then (num_at m s at) (num_at m t at) (num_at n s (at + m)) (num_at n t (at + m)) in
    (λ l. told.0 (sym parts ∙ less_below l), λ w. below_less _ _ (parts ∙ told.1 w))
