-- What one number says of all candidates behind a front: the ones from `first_over` on lie over the
-- neighbour, the ones before it under it.
-- Assumes nothing.
use Prim.Native.Nat.{ℕ, ◌+◌, ◌≤◌, ◌<◌}
use native.Mathlib.Nat.{add-zero}
use native.Mathlib.Omega.{arith}
use mathlib.Core.Path.{◌≡◌, refl, sym, ap, ◌∙◌, subst}
use mathlib.Core.Logic.{◌↔◌}
use mathlib.Core.List.{List, [], ◌∷◌}
use lib.ListN.{length, take, drop, get_or}
use lib.Seq.{get_or-drop}
use Rattle.position.specs.declared.Identifier.{Identifier}
use Rattle.std.specs.declared.cmp.Ordering.{Ordering}
use Rattle.std.specs.declared.cmp.Ordering.TheVariants.{Less, Equal, Greater}
use Rattle.position.specs.Positions.{identifier, pad}
use Rattle.position.specs.Order.{then_by, number_order, identifier_order, order_of, ◌≺◌}
use Rattle.position.specs.Rule.{followed_by}
use Rattle.position.specs.Place.{by_order, next_integer, first_over}
use Rattle.position.proofs.Ordered.{Numbers, less, equal, more, numbers, less_below, more_above, never, front_first, above_under, under_above}

-- Where a candidate with this x stands to its neighbour, by the first x that is over it. With `own` 0
-- a candidate that is the neighbour itself is that first one, with `own` 1 the one before it.
data Side (own x first : ℕ) : Ordering → Type 0 where
  before_it : x < first → Side own x first Less
  itself : first ≡ x + own → Side own x first Equal
  from_it : first ≤ x → Side own x first Greater

-- one identifier against what a neighbour has next: its integer decides, where the two differ
smaller_below : (x s : ℕ) (rest : List Identifier) → x < next_integer rest 0 → order_of (identifier x s ∷ []) rest ≡ Less
unfolding order_of identifier_order
smaller_below x s [] h = absurd (omega arith)
smaller_below x s (r ∷ rest) h = rw (less_below h)

larger_above : (x s : ℕ) (rest : List Identifier) → next_integer rest 0 < x → order_of (identifier x s ∷ []) rest ≡ Greater
unfolding order_of identifier_order
larger_above x s [] h = refl
larger_above x s (r ∷ rest) h = rw (more_above h)

-- the first x is the neighbour's next integer i, or the one after it
near : (own i : ℕ) (b : Ordering) → own ≤ 1 → (i ≤ by_order b (i + 1) (i + own) i) × (by_order b (i + 1) (i + own) i ≤ i + 1)
near own i Less h = omega arith
near own i Equal h = omega arith
near own i Greater h = omega arith

at_next : (own i : ℕ) (b : Ordering) → Side own i (by_order b (i + 1) (i + own) i) b
at_next own i Less = before_it (omega arith)
at_next own i Equal = itself refl
at_next own i Greater = from_it (omega arith)

-- where the front is the neighbour's own first part
beside : (own x s i : ℕ) (rest : List Identifier) → own ≤ 1 → i ≡ next_integer rest 0 → Side own x (by_order (order_of (identifier i s ∷ []) rest) (i + 1) (i + own) i) (order_of (identifier x s ∷ []) rest)
beside own x s i rest h e = by (number_order x i) (numbers x i)
  where
    first : ℕ
    first = by_order (order_of (identifier i s ∷ []) rest) (i + 1) (i + own) i

    bounds : (i ≤ first) × (first ≤ i + 1)
    bounds = near own i (order_of (identifier i s ∷ []) rest) h

    by : (o : Ordering) → Numbers x i o → Side own x first (order_of (identifier x s ∷ []) rest)
    by Less (less l) =
        let under : x < next_integer rest 0 = omega arith in
        rw (smaller_below x s rest under) (before_it (omega (arith, bounds)))
    by Equal (equal q) =
        subst (λ (y : ℕ). Side own y first (order_of (identifier y s ∷ []) rest)) (sym q)
        (at_next own i (order_of (identifier i s ∷ []) rest))
    by Greater (more l) =
        let over : next_integer rest 0 < x = omega arith in
        rw (larger_above x s rest over) (from_it (omega (arith, bounds)))

-- wherever the front stands to the neighbour
sided : (own : ℕ) (p f : List Identifier) (s x : ℕ) → own ≤ 1 → x ≤ 65535 → Side own x (first_over own p f s) (order_of (followed_by f x s) p)
unfolding first_over
sided own p f s x h most =
    rw (front_first f (identifier x s ∷ []) p, front_first f (identifier i s ∷ []) p)
    (by (order_of f (take (length f) p)))
  where
    i : ℕ
    i = next_integer p (length f)

    rest : List Identifier
    rest = drop (length f) p

    next : i ≡ next_integer rest 0
    next = ap (λ (j : Identifier). j.integer) (sym (get_or-drop (length f) p 0 pad ∙ ap (λ (n : ℕ). get_or p n pad) (add-zero (length f))))

    by : (o : Ordering) → Side own x (by_order o 65536 (by_order (then_by o (order_of (identifier i s ∷ []) rest)) (i + 1) (i + own) i) 0) (then_by o (order_of (identifier x s ∷ []) rest))
    by Less = before_it (omega arith)
    by Equal = beside own x s i rest h next
    by Greater = from_it (omega arith)

-- a candidate lies over p exactly from the first such x on
pub over_from : (p f : List Identifier) (s x : ℕ) → x ≤ 65535 → (p ≺ followed_by f x s) ↔ (first_over 1 p f s ≤ x)
over_from p f s x most = by (order_of (followed_by f x s) p) (sided 1 p f s x (omega arith) most) refl
  where
    by : (o : Ordering) → Side 1 x (first_over 1 p f s) o → order_of (followed_by f x s) p ≡ o → (p ≺ followed_by f x s) ↔ (first_over 1 p f s ≤ x)
    by Less (before_it h) e = (λ k. never (cc (under_above (followed_by f x s) p k)), λ k. absurd (omega arith))
    by Equal (itself h) e = (λ k. never (cc (under_above (followed_by f x s) p k)), λ k. absurd (omega arith))
    by Greater (from_it h) e = (λ _. h, λ _. above_under (followed_by f x s) p e)

-- and under q exactly before the first x that is q or over it
pub under_before : (q f : List Identifier) (s x : ℕ) → x ≤ 65535 → (followed_by f x s ≺ q) ↔ (x < first_over 0 q f s)
under_before q f s x most = by (order_of (followed_by f x s) q) (sided 0 q f s x (omega arith) most) refl
  where
    by : (o : Ordering) → Side 0 x (first_over 0 q f s) o → order_of (followed_by f x s) q ≡ o → (followed_by f x s ≺ q) ↔ (x < first_over 0 q f s)
    by Less (before_it h) e = (λ _. h, λ _. e)
    by Equal (itself h) e = (λ k. never (cc), λ k. absurd (omega arith))
    by Greater (from_it h) e = (λ k. never (cc), λ k. absurd (omega arith))
