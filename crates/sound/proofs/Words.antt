-- A row's 24 bytes of identifiers as three words of 8: their order, and the bound of the first integer.
-- Assumes nothing.
use Prim.Native.Nat.{ℕ, ◌*◌, ◌^◌, ◌<◌}
use native.Mathlib.Omega.{arith}
use mathlib.Core.Path.{◌≡◌, refl}
use mathlib.Core.Bool.{false}
use mathlib.Core.Logic.{◌↔◌, ◌⊎◌, inl, inr, ⊎_elim}
use mathlib.Core.List.{List}
use Rattle.std.specs.Ordering.{is_ge, is_some_and, nat_cmp, partial_ordering_then}
use Rattle.std.specs.declared.cmp.Ordering.{Ordering}
use Rattle.std.specs.declared.cmp.Ordering.TheVariants.{Less, Equal, Greater}
use Rattle.std.specs.declared.option.Option.TheVariants.{Some}
use Rattle.position.specs.Order.{number_order}
use Rattle.position.proofs.Ordered.{Numbers, less, equal, more, numbers, never}
use Rattle.rows.specs.Numbers.{num_at}
use Rattle.rows.proofs.Digits.{Bytes, num_less, num_splits}
use Rattle.sound.specs.Steps.{Rises}
use Rattle.sound.proofs.Compared.{less_by_parts}

pub three_words : (a b : List ℕ) → Bytes a → Bytes b →
    (num_at 24 a 1 < num_at 24 b 1)
    ↔ ((num_at 8 a 1 < num_at 8 b 1)
    ⊎ ((num_at 8 a 1 ≡ num_at 8 b 1)
    × ((num_at 8 a 9 < num_at 8 b 9)
    ⊎ ((num_at 8 a 9 ≡ num_at 8 b 9) × (num_at 8 a 17 < num_at 8 b 17)))))
three_words a b h k =
    let first = less_by_parts 8 16 1 a b h k in
    let second = less_by_parts 8 8 9 a b h k in (
      λ l. ⊎_elim inl (λ w. inr (w.0, second.0 w.1)) (first.0 l),
      λ w. first.1 (⊎_elim inl (λ v. inr (v.0, second.1 v.1)) w),
    )

-- the first integer is the high 2 bytes of the first word
pub first_integer : (row : List ℕ) → Bytes row → (num_at 8 row 1 < 65535 * 2 ^ 48) ↔ (num_at 2 row 1 < 65535)
first_integer row h = omega (arith, num_splits 2 6 1 row, num_less 6 3 row h)

-- Three words as the language compares them: they are not reached again exactly where they rise.
pub not_reached : (x y z x' y' z' : ℕ) →
    (is_some_and is_ge (partial_ordering_then (partial_ordering_then (Some (nat_cmp x x')) (Some (nat_cmp y y'))) (Some (nat_cmp z z'))) ≡ false)
    ↔ Rises x y z x' y' z'
unfolding number_order
not_reached x y z x' y' z' = by _ _ _ (numbers x x') (numbers y y') (numbers z z')
  where
    by : (o p q : Ordering) → Numbers x x' o → Numbers y y' p → Numbers z z' q →
        (is_some_and is_ge (partial_ordering_then (partial_ordering_then (Some o) (Some p)) (Some q)) ≡ false) ↔ Rises x y z x' y' z'
    by Less p q (less h) k l = (λ t. inl h, λ w. refl)
    by Equal Less q (equal e) (less h) l = (λ t. inr (e, inl h), λ w. refl)
    by Equal Equal Less (equal e) (equal f) (less h) = (λ t. inr (e, inr (f, h)), λ w. refl)
    by Equal Equal Equal (equal e) (equal f) (equal g) = (λ t. never (cc), λ w. absurd (grind arith))
    by Equal Equal Greater (equal e) (equal f) (more h) = (λ t. never (cc), λ w. absurd (grind arith))
    by Equal Greater q (equal e) (more h) l = (λ t. never (cc), λ w. absurd (grind arith))
    by Greater p q (more h) k l = (λ t. never (cc), λ w. absurd (grind arith))
