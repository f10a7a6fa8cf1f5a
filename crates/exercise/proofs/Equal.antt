-- Lists of lines that rise strictly by position and have the same members are equal.
-- Assumes nothing.
use Prim.Native.Nat.{ℕ, zero, suc, ◌<◌}
use native.Mathlib.Omega.{arith}
use mathlib.Core.Path.{◌≡◌, refl, sym, subst}
use mathlib.Core.Logic.{⊎_elim}
use mathlib.Core.List.Memᴰ
use mathlib.Core.List.{List, [], ◌∷◌, Memᴰ}
use lib.ListN.{length}
use Rattle.position.specs.declared.Identifier.{Identifier}
use Rattle.position.specs.Order.{◌≺◌}
use Rattle.position.proofs.Ordered.{irreflexive, transitive}
use Rattle.script.specs.Lines.{Line, no_line}
use Rattle.script.proofs.Finding.{place_at, rising_far}
use Rattle.exercise.proofs.Members.{at_mem}

abbrev pub Rises : List Line → Type 0
Rises lines = (i : ℕ) → suc i < length lines → place_at lines i ≺ place_at lines (suc i)

-- the first is below all others
first_below : (x : Line) (xs : List Line) → Rises (x ∷ xs) → (l : Line) → Memᴰ l xs → x.position ≺ l.position
first_below x xs rises l m =
    let at = at_mem no_line l xs m in
    subst (λ (k : Line). x.position ≺ k.position) at.1.1
    (rising_far (x ∷ xs) rises zero (suc at.0) (omega arith) (omega (arith, at.1.0)))

never_both : (p q : List Identifier) → p ≺ q → q ≺ p → ⊥
never_both p q h k = irreflexive p (transitive p q p h k)

rest_rises : (x : Line) (xs : List Line) → Rises (x ∷ xs) → Rises xs
rest_rises x xs rises i h = rises (suc i) (omega arith)

-- the firsts are the same
firsts : (x : Line) (xs : List Line) (y : Line) (ys : List Line) → Rises (x ∷ xs) → Rises (y ∷ ys)
    → Memᴰ x (y ∷ ys) → Memᴰ y (x ∷ xs) → x ≡ y
firsts x xs y ys rises rises' in_ys in-xs =
    ⊎_elim (λ same. same)
    (λ (later : Memᴰ x ys).
    ⊎_elim (λ same. sym same)
    (λ (later' : Memᴰ y xs).
    absurd (never_both x.position y.position (first_below x xs rises y later') (first_below y ys rises' x later)))
    (Memᴰ.cases_cons in-xs))
    (Memᴰ.cases_cons in_ys)

-- what is behind the first in one is behind it in the other
others : (x : Line) (xs : List Line) (y : Line) (ys : List Line) → Rises (x ∷ xs) → x ≡ y
    → ((l : Line) → Memᴰ l (x ∷ xs) → Memᴰ l (y ∷ ys)) → (l : Line) → Memᴰ l xs → Memᴰ l ys
others x xs y ys rises same to l m =
    ⊎_elim
    (λ (e : l ≡ y).
    absurd (irreflexive x.position
    (subst (λ (k : Line). x.position ≺ k.position) (subst (λ (k : Line). l ≡ k) (sym same) e) (first_below x xs rises l m))))
    (λ rest. rest) (Memᴰ.cases_cons (to l (Memᴰ.tail m)))

pub equal_lines : (xs ys : List Line) → Rises xs → Rises ys → ((l : Line) → Memᴰ l xs → Memᴰ l ys)
    → ((l : Line) → Memᴰ l ys → Memᴰ l xs) → xs ≡ ys
equal_lines [] [] rises rises' to back = refl
equal_lines [] (y ∷ ys) rises rises' to back = absurd (Memᴰ.not-nil (back y (Memᴰ.head refl)))
equal_lines (x ∷ xs) [] rises rises' to back = absurd (Memᴰ.not-nil (to x (Memᴰ.head refl)))
equal_lines (x ∷ xs) (y ∷ ys) rises rises' to back =
    let same : x ≡ y = firsts x xs y ys rises rises' (to x (Memᴰ.head refl)) (back y (Memᴰ.head refl)) in
    let rest : xs ≡ ys =
    equal_lines xs ys (rest_rises x xs rises) (rest_rises y ys rises') (others x xs y ys rises same to)
    (others y ys x xs rises' (sym same) back) in
    λ d. same d ∷ rest d
