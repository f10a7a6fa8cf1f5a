-- A number in decimal: one digit, or the digits of a tenth of it and its last.
-- Assumes nothing.
use Prim.Native.Nat.{ℕ, zero, suc, ◌/◌, ◌%◌, ◌≤◌, ◌<◌}
use native.Mathlib.Omega.{arith}
use borrow.Author.Tests.{lt-ltb, le-ltb}
use mathlib.Core.Path.{◌≡◌, refl, ap}
use mathlib.Core.Bool.{cond}
use mathlib.Core.List.{List, ◌++◌}
use lib.Dec.{ltb}
use Rattle.listed.specs.Text.{digit, digits_of, decimal}

-- the most digits that there may be does not matter where it is more than the number
enough : (most other n : ℕ) → n < most → n < other → digits_of most n ≡ digits_of other n
unfolding digits_of
enough zero other n h k = absurd (omega arith)
enough (suc most) zero n h k = absurd (omega arith)
enough (suc most) (suc other) zero h k = refl
enough (suc most) (suc other) (suc n) h k =
    ap (λ (l : List ℕ). cond (ltb (suc n) 10) (digit (suc n)) (l ++ digit (suc n % 10)))
    (enough most other (suc n / 10) (omega arith) (omega arith))

pub decimal_digit : (n : ℕ) → n < 10 → decimal n ≡ digit (n % 10)
unfolding decimal digits_of
decimal_digit n small =
    let last : n % 10 ≡ n = omega arith in
    rw (lt-ltb n 10 small, last)

pub decimal_more : (n : ℕ) → 10 ≤ n → decimal n ≡ decimal (n / 10) ++ digit (n % 10)
unfolding decimal digits_of
decimal_more n more =
    rw (le-ltb n 10 more)
    (ap (λ (l : List ℕ). l ++ digit (n % 10)) (enough n (suc (n / 10)) (n / 10) (omega arith) (omega arith)))
