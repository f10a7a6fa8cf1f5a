-- What a list keeps when an element is put in or taken out: a fact of each element, and that its
-- elements rise one after the other, by any relation.
-- Assumes nothing.
use Prim.Native.Nat.{ℕ, zero, suc, ◌≤◌, ◌<◌, suc-le-suc}
use native.Mathlib.Nat.{le_of_suc-le-suc, zero-lt-suc}
use native.Mathlib.Omega.{arith}
use mathlib.Core.Path.{◌≡◌, refl, ap}
use mathlib.Core.List.{List, [], ◌∷◌}
use lib.ListN.{length, get_or}
use Rattle.rows.specs.Rows.{insert_at, remove_at}
use Rattle.rows.proofs.Slots.{Each}

-- each element and the next one, by place; d is what is read behind the end
abbrev pub Rising {ℓ κ} : {A : Type ℓ} → A → (A → A → Type κ) → List A → Type κ
Rising d R xs = (i : ℕ) → suc i < length xs → R (get_or xs i d) (get_or xs (suc i) d)

module _ {ℓ κ} {A : Type ℓ} (d : A) where
  pub insert_each : (P : A → Type κ) (k : ℕ) (x : A) (xs : List A) → k ≤ length xs → P x → Each d P xs
      → Each d P (insert_at k x xs)
  unfolding insert_at
  insert_each P zero x xs h new old zero b = new
  insert_each P zero x xs h new old (suc i) b = old i (le_of_suc-le-suc b)
  insert_each P (suc k) x (y ∷ ys) h new old zero b = old zero (zero-lt-suc (length ys))
  insert_each P (suc k) x (y ∷ ys) h new old (suc i) b =
      insert_each P k x ys (le_of_suc-le-suc h) new (λ j c. old (suc j) (suc-le-suc c)) i (le_of_suc-le-suc b)
  insert_each P (suc k) x [] h new old i b = elim h [ ]

  pub remove_each : (P : A → Type κ) (k : ℕ) (xs : List A) → Each d P xs → Each d P (remove_at k xs)
  unfolding remove_at
  remove_each P zero (y ∷ ys) old i b = old (suc i) (suc-le-suc b)
  remove_each P (suc k) (y ∷ ys) old zero b = old zero (zero-lt-suc (length ys))
  remove_each P (suc k) (y ∷ ys) old (suc i) b =
      remove_each P k ys (λ j c. old (suc j) (suc-le-suc c)) i (le_of_suc-le-suc b)
  remove_each P zero [] old i b = elim b [ ]
  remove_each P (suc k) [] old i b = elim b [ ]

  module _ (R : A → A → Type κ) where
    -- the new element stands over the one before its place and under the one at it
    pub insert_rising : (k : ℕ) (x : A) (xs : List A) → k ≤ length xs → Rising d R xs
        → ((i : ℕ) → suc i ≡ k → R (get_or xs i d) x) → (k < length xs → R x (get_or xs k d))
        → Rising d R (insert_at k x xs)
    unfolding insert_at
    insert_rising zero x xs h old over under zero b = under (le_of_suc-le-suc b)
    insert_rising zero x xs h old over under (suc i) b = old i (le_of_suc-le-suc b)
    insert_rising (suc zero) x (y ∷ ys) h old over under zero b = over zero refl
    insert_rising (suc (suc k)) x (y ∷ []) h old over under zero b = absurd (omega arith)
    insert_rising (suc (suc k)) x (y ∷ z ∷ zs) h old over under zero b =
        old zero (suc-le-suc (zero-lt-suc (length zs)))
    insert_rising (suc k) x (y ∷ ys) h old over under (suc i) b =
        insert_rising k x ys (le_of_suc-le-suc h) (λ j c. old (suc j) (suc-le-suc c))
        (λ j e. over (suc j) (ap suc e)) (λ c. under (suc-le-suc c)) i (le_of_suc-le-suc b)
    insert_rising (suc k) x [] h old over under i b = elim h [ ]

    pub remove_rising : ((a b c : A) → R a b → R b c → R a c) → (k : ℕ) (xs : List A) → Rising d R xs
        → Rising d R (remove_at k xs)
    unfolding remove_at
    remove_rising transitive zero (y ∷ ys) old i b = old (suc i) (suc-le-suc b)
    remove_rising transitive (suc zero) (y ∷ []) old zero b = absurd (omega arith)
    remove_rising transitive (suc (suc k)) (y ∷ []) old zero b = absurd (omega arith)
    remove_rising transitive (suc zero) (y ∷ z ∷ zs) old zero b =
        let first : R y z = old zero (suc-le-suc (zero-lt-suc (length zs))) in
        transitive y z (get_or zs zero d) first (old (suc zero) (suc-le-suc b))
    remove_rising transitive (suc (suc k)) (y ∷ z ∷ zs) old zero b =
        old zero (suc-le-suc (zero-lt-suc (length zs)))
    remove_rising transitive (suc k) (y ∷ ys) old (suc i) b =
        remove_rising transitive k ys (λ j c. old (suc j) (suc-le-suc c)) i (le_of_suc-le-suc b)
    remove_rising transitive zero [] old i b = elim b [ ]
    remove_rising transitive (suc k) [] old i b = elim b [ ]
