-- What a list has as members: by place, with an element put in, and with one taken out.
-- Assumes nothing.
use Prim.Native.Nat.{ℕ, zero, suc, ◌<◌}
use native.Mathlib.Omega.{arith}
use mathlib.Core.Path.{◌≡◌, refl, sym}
use mathlib.Core.Logic.{◌⊎◌, inl, inr, ⊎_elim}
use mathlib.Core.List.{List, [], ◌∷◌, Memᴰ}
use lib.ListN.{length, get_or}
use Rattle.rows.specs.Rows.{insert_at, remove_at}

module _ {A : Type 0} (d : A) where
  -- a member by its place
  pub mem_at : (xs : List A) (i : ℕ) → i < length xs → Memᴰ (get_or xs i d) xs
  mem_at [] i h = absurd (omega arith)
  mem_at (x ∷ xs) zero h = mathlib.Core.List.Memᴰ.head refl
  mem_at (x ∷ xs) (suc i) h = mathlib.Core.List.Memᴰ.tail (mem_at xs i (omega arith))

  pub at_mem : (x : A) (xs : List A) → Memᴰ x xs → (i : ℕ) × ((i < length xs) × (get_or xs i d ≡ x))
  at_mem x [] m = absurd (mathlib.Core.List.Memᴰ.not-nil m)
  at_mem x (y ∷ ys) m =
      ⊎_elim (λ (e : x ≡ y). (zero, (omega arith, sym e)))
      (λ (k : Memᴰ x ys). let rest = at_mem x ys k in (suc rest.0, (omega (arith, rest.1.0), rest.1.1)))
      (mathlib.Core.List.Memᴰ.cases_cons m)

  -- taken out at k: what is left stood elsewhere
  pub left_at : (x : A) (k : ℕ) (xs : List A) → Memᴰ x (remove_at k xs)
      → (i : ℕ) × ((i < length xs) × ((i ≡ k → ⊥) × (get_or xs i d ≡ x)))
  unfolding remove_at
  left_at x zero [] m = absurd (mathlib.Core.List.Memᴰ.not-nil m)
  left_at x (suc k) [] m = absurd (mathlib.Core.List.Memᴰ.not-nil m)
  left_at x zero (y ∷ ys) m =
      let rest = at_mem x ys m in (suc rest.0, (omega (arith, rest.1.0), ((λ e. omega arith), rest.1.1)))
  left_at x (suc k) (y ∷ ys) m =
      ⊎_elim (λ (e : x ≡ y). (zero, (omega arith, ((λ e. omega arith), sym e))))
      (λ n. let rest = left_at x k ys n in
      (suc rest.0, (omega (arith, rest.1.0), ((λ e. rest.1.1.0 (omega arith)), rest.1.1.1))))
      (mathlib.Core.List.Memᴰ.cases_cons m)

  -- and all but that one is left
  pub still_in : (x : A) (k : ℕ) (xs : List A) → Memᴰ x xs → (x ≡ get_or xs k d) ⊎ Memᴰ x (remove_at k xs)
  unfolding remove_at
  still_in x k [] m = absurd (mathlib.Core.List.Memᴰ.not-nil m)
  still_in x zero (y ∷ ys) m = mathlib.Core.List.Memᴰ.cases_cons m
  still_in x (suc k) (y ∷ ys) m =
      ⊎_elim (λ (e : x ≡ y). inr (mathlib.Core.List.Memᴰ.head e))
      (λ n. ⊎_elim (λ same. inl same) (λ rest. inr (mathlib.Core.List.Memᴰ.tail rest)) (still_in x k ys n))
      (mathlib.Core.List.Memᴰ.cases_cons m)

module _ {A : Type 0} where
  -- put in at k
  pub put_cases : (x y : A) (k : ℕ) (xs : List A) → Memᴰ y (insert_at k x xs) → (y ≡ x) ⊎ Memᴰ y xs
  unfolding insert_at
  put_cases x y zero xs m = mathlib.Core.List.Memᴰ.cases_cons m
  put_cases x y (suc k) [] m = mathlib.Core.List.Memᴰ.cases_cons m
  put_cases x y (suc k) (z ∷ zs) m =
      ⊎_elim (λ (e : y ≡ z). inr (mathlib.Core.List.Memᴰ.head e))
      (λ n. ⊎_elim (λ same. inl same) (λ rest. inr (mathlib.Core.List.Memᴰ.tail rest)) (put_cases x y k zs n))
      (mathlib.Core.List.Memᴰ.cases_cons m)

  pub put_new : (x : A) (k : ℕ) (xs : List A) → Memᴰ x (insert_at k x xs)
  unfolding insert_at
  put_new x zero xs = mathlib.Core.List.Memᴰ.head refl
  put_new x (suc k) [] = mathlib.Core.List.Memᴰ.head refl
  put_new x (suc k) (z ∷ zs) = mathlib.Core.List.Memᴰ.tail (put_new x k zs)

  pub put_old : (x y : A) (k : ℕ) (xs : List A) → Memᴰ y xs → Memᴰ y (insert_at k x xs)
  unfolding insert_at
  put_old x y zero xs m = mathlib.Core.List.Memᴰ.tail m
  put_old x y (suc k) [] m = absurd (mathlib.Core.List.Memᴰ.not-nil m)
  put_old x y (suc k) (z ∷ zs) m =
      ⊎_elim (λ (e : y ≡ z). mathlib.Core.List.Memᴰ.head e) (λ n. mathlib.Core.List.Memᴰ.tail (put_old x y k zs n)) (mathlib.Core.List.Memᴰ.cases_cons m)
