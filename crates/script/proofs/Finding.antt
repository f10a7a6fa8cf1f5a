-- Where a position is found among lines: at k, where the lines below k are below it and line k is the
-- same or above; and what an answer tells. Among rising lines one comparison tells of all lines before
-- it.
-- Assumes nothing.
use Prim.Native.Nat.{ℕ, zero, suc, ◌+◌, ◌≤◌, ◌<◌, suc-le-suc}
use native.Mathlib.Nat.{le_of_suc-le-suc, zero-lt-suc, eq-or-lt_of_le}
use native.Mathlib.Omega.{arith}
use mathlib.Core.Path.{◌≡◌, refl, subst}
use mathlib.Core.Logic.{⊎_elim}
use mathlib.Core.List.{List, [], ◌∷◌}
use lib.ListN.{length, get_or}
use Rattle.position.specs.declared.Identifier.{Identifier}
use Rattle.std.specs.declared.cmp.Ordering.{Ordering}
use Rattle.std.specs.declared.cmp.Ordering.TheVariants.{Less, Equal, Greater}
use Rattle.position.specs.Order.{order_of, ◌≺◌}
use Rattle.position.proofs.Ordered.{same_is, above_under, transitive}
use Rattle.script.specs.declared.table.Found.{Found}
use Rattle.script.specs.declared.table.Found.TheVariants.{Row, Gap}
use Rattle.script.specs.Lines.{Line, no_line}
use Rattle.script.specs.Find.{against, find_in}

-- the position of line i
abbrev pub place_at : List Line → ℕ → List Identifier
place_at lines i = (get_or lines i no_line).position

module _ (p : List Identifier) where
  -- the lines below k are below p
  abbrev pub Under : ℕ → List Line → Type 0
  Under k lines = (i : ℕ) → i < k → place_at lines i ≺ p

  found_row : (k : ℕ) (lines : List Line) → k < length lines → Under k lines
      → order_of (place_at lines k) p ≡ Equal → find_in p lines ≡ Row k
  unfolding find_in
  found_row zero (l ∷ ls) h under same = rw same
  found_row (suc k) (l ∷ ls) h under same =
      let rest : Under k ls = λ i b. under (suc i) (suc-le-suc b) in
      rw (under zero (zero-lt-suc k), found_row k ls (le_of_suc-le-suc h) rest same)
  found_row zero [] h under same = elim h [ ]
  found_row (suc k) [] h under same = elim h [ ]

  pub found_gap : (k : ℕ) (lines : List Line) → k ≤ length lines → Under k lines
      → (k < length lines → order_of (place_at lines k) p ≡ Greater) → find_in p lines ≡ Gap k
  unfolding find_in
  found_gap zero [] h under above = refl
  found_gap zero (l ∷ ls) h under above = rw (above (zero-lt-suc (length ls)))
  found_gap (suc k) (l ∷ ls) h under above =
      let rest : Under k ls = λ i b. under (suc i) (suc-le-suc b) in
      rw (under zero (zero-lt-suc k), found_gap k ls (le_of_suc-le-suc h) rest (λ b. above (suc-le-suc b)))
  found_gap (suc k) [] h under above = elim h [ ]

  -- what the answer tells: the row has the position, or the position stands between its neighbours
  pub data Told (lines : List Line) : Found → Type 0 where
    in_row : (k : ℕ) → k < length lines → Under k lines → place_at lines k ≡ p → Told lines (Row k)
    in_gap : (k : ℕ) → k ≤ length lines → Under k lines → (k < length lines → p ≺ place_at lines k)
        → Told lines (Gap k)

  pub told : (lines : List Line) → Told lines (find_in p lines)
  unfolding find_in
  told [] = in_gap zero (omega arith) (λ i h. absurd (omega arith)) (λ h. absurd (omega arith))
  told (l ∷ ls) = by (order_of l.position p) refl (find_in p ls) (told ls)
    where
      further : (k : ℕ) → l.position ≺ p → Under k ls → Under (suc k) (l ∷ ls)
      further k below under zero h = below
      further k below under (suc i) h = under i (le_of_suc-le-suc h)

      by : (o : Ordering) → order_of l.position p ≡ o → (f : Found) → Told ls f → Told (l ∷ ls) (against o f)
      by Less e f (in_row k h under is) = in_row (suc k) (suc-le-suc h) (further k e under) is
      by Less e f (in_gap k h under over) =
          in_gap (suc k) (suc-le-suc h) (further k e under) (λ b. over (le_of_suc-le-suc b))
      by Equal e f t = in_row zero (zero-lt-suc (length ls)) (λ i h. absurd (omega arith)) (same_is l.position p e)
      by Greater e f t =
          in_gap zero (omega arith) (λ i h. absurd (omega arith)) (λ _. above_under l.position p e)

module _ (lines : List Line)
    (rising : (i : ℕ) → suc i < length lines → place_at lines i ≺ place_at lines (suc i)) where
  -- each line is below every later one
  pub rising_far : (i j : ℕ) → i < j → j < length lines → place_at lines i ≺ place_at lines j
  rising_far i (suc j) h k =
      ⊎_elim
      (λ e. rw e (rising j k))
      (λ b.
      transitive (place_at lines i) (place_at lines j) (place_at lines (suc j))
      (rising_far i j b (omega arith)) (rising j k))
      (eq-or-lt_of_le (le_of_suc-le-suc h))
  rising_far i zero h k = elim h [ ]

  pub found_same : (p : List Identifier) (k : ℕ) → k < length lines → order_of (place_at lines k) p ≡ Equal
      → find_in p lines ≡ Row k
  found_same p k h same =
      let is : place_at lines k ≡ p = same_is (place_at lines k) p same in
      let under : Under p k lines =
      λ i b. subst (λ (q : List Identifier). place_at lines i ≺ q) is (rising_far i k b h) in
      found_row p k lines h under same

  pub under_below : (p : List Identifier) (k : ℕ) → k < length lines → place_at lines k ≺ p
      → Under p (k + 1) lines
  under_below p k h below i b =
      let most : i ≤ k = omega arith in
      ⊎_elim
      (λ e. rw e below)
      (λ c. transitive (place_at lines i) (place_at lines k) p (rising_far i k c h) below)
      (eq-or-lt_of_le most)
