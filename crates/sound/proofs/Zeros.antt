-- A number is 0 exactly where all its bytes are: each way, for every width.
-- Assumes nothing.
use Prim.Native.Nat.{ℕ, zero, suc, ◌+◌, ◌≤◌, ◌<◌}
use native.Mathlib.Nat.{add-suc, eq-or-lt_of_le, le_of_suc-le-suc, suc_inj}
use native.Mathlib.Omega.{arith}
use mathlib.Core.Path.{◌≡◌, refl, ap}
use mathlib.Core.Logic.{◌≢◌, ⊎_elim}
use mathlib.Core.List.{List}
use lib.ListN.{get_or}
use Rattle.rows.specs.Numbers.{num_at}

pub num_zero : (n at : ℕ) (s : List ℕ) → ((j : ℕ) → at ≤ j → j < at + n → get_or s j 0 ≡ 0) → num_at n s at ≡ 0
unfolding num_at
num_zero zero at s h = refl
num_zero (suc n) at s h =
    omega (arith, h (at + n) (omega arith) (omega arith), num_zero n at s (λ j k l. h j k (omega arith)))

pub num_positive : (n at : ℕ) (s : List ℕ) (j : ℕ) → at ≤ j → j < at + n → get_or s j 0 ≢ 0 → 0 < num_at n s at
unfolding num_at
num_positive zero at s j k l h = omega arith
num_positive (suc n) at s j k l h =
    ⊎_elim
    (λ e. omega (arith, ap (λ (i : ℕ). get_or s i 0) (suc_inj e)))
    (λ m. omega (arith, num_positive n at s j k (le_of_suc-le-suc m) h))
    (eq-or-lt_of_le (rw (add-suc at n) at l))
