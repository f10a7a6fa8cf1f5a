-- What holds at each of the first n, faults or-ed together turn by turn, and all bytes of a list.
-- Assumes nothing.
use Prim.Native.Nat.{ℕ, zero, suc, ◌+◌, ◌<◌}
use native.Mathlib.Omega.{arith}
use native.Mathlib.Nat.{eq-or-lt_of_le, le_of_suc-le-suc}
use mathlib.Core.Path.{◌≡◌, refl, sym, subst}
use mathlib.Core.Logic.{◌↔◌, ⊎_elim}
use lib.Bits.{bit_or, or_add_and, and_le_l, and_le_r}
use mathlib.Core.List.{List, [], ◌∷◌}
use mathlib.Core.Bool.{true}
use lib.Dec.{eqb}
use Rattle.std.specs.List.{fold}
use Rattle.rows.specs.Rows.{Upto, AllZero}
use Rattle.rows.proofs.Answers.{equal}

pub or_clear : (a b : ℕ) → (bit_or a b ≡ 0) ↔ ((a ≡ 0) × (b ≡ 0))
or_clear a b = (
  λ h. (omega (arith, or_add_and a b, and_le_l a b, and_le_r a b), omega (arith, or_add_and a b, and_le_l a b, and_le_r a b)),
  λ h. omega (arith, or_add_and a b, h.0, h.1),
)

-- before the first turn
pub none : {P : ℕ → Type 0} → ◌≡◌ {A = ℕ} 0 0 ↔ Upto 0 P
none {P} = (λ _ j h. absurd (omega arith), λ _. refl)

-- one more of what holds at each
pub one_more : {P : ℕ → Type 0} → (j : ℕ) → Upto j P → P j → Upto (j + 1) P
one_more {P} j so_far here i less =
    ⊎_elim (λ (q : i ≡ j). subst P (sym q) here) (λ (l : i < j). so_far i l) (eq-or-lt_of_le (omega arith))

-- one turn more
pub more : {P : ℕ → Type 0} → (faults fault j : ℕ) → (faults ≡ 0) ↔ Upto j P → (fault ≡ 0) ↔ P j → (bit_or faults fault ≡ 0) ↔ Upto (j + 1) P
more {P} faults fault j so_far here = (
  λ h. let clear = (or_clear faults fault).0 h in one_more j (so_far.0 clear.0) (here.0 clear.1),
  λ every. (or_clear faults fault).1 (so_far.1 (λ i l. every i (omega arith)), here.1 (every j (omega arith))),
)

-- after the last turn
pub all : {P : ℕ → Type 0} → (faults j n : ℕ) → j ≡ n → (faults ≡ 0) ↔ Upto j P → (faults ≡ 0) ↔ Upto n P
all {P} faults j n end so_far = subst (λ (k : ℕ). (faults ≡ 0) ↔ Upto k P) end so_far

-- Bytes or-ed together are 0 exactly where all of them are.

first_zero : (b : ℕ) (s : List ℕ) → b ≡ 0 → AllZero s → AllZero (b ∷ s)
first_zero b s here rest zero h = here
first_zero b s here rest (suc j) h = rest j (le_of_suc-le-suc h)

or_all : (s : List ℕ) (a : ℕ) → (fold bit_or a s ≡ 0) ↔ ((a ≡ 0) × AllZero s)
or_all [] a = grind arith
or_all (b ∷ s) a =
    let first = or_clear a b in
    let rest = or_all s (bit_or a b) in (
      λ h. ((first.0 (rest.0 h).0).0, first_zero b s (first.0 (rest.0 h).0).1 (rest.0 h).1),
      λ h. rest.1 (first.1 (h.0, h.1 0 (omega arith)), λ j less. h.1 (suc j) (omega arith)),
    )

pub all_clear : (s : List ℕ) (faults : ℕ) → faults ≡ fold bit_or 0 s → (eqb faults 0 ≡ true) ↔ AllZero s
all_clear s faults e = grind (arith, or_all s 0, equal faults 0)
