-- The laws of the order of positions: it is a strict total order, `Equal` only of equal lists, and a
-- position that runs out first is the smaller.
-- Assumes nothing.
use Prim.Native.Nat.{ℕ, ◌-◌, ◌<◌, ◌≤◌}
use mathlib.Core.Path.{◌≡◌, refl, sym, ap, ◌∙◌}
use mathlib.Core.Logic.{◌⊎◌, inl, inr}
use mathlib.Core.List.{List, [], ◌∷◌, ◌++◌}
use native.Mathlib.Omega.{arith}
use borrow.Author.Tests.{ltb-false}
use lib.ListN.{length, take, drop, get_or}
use Rattle.std.specs.declared.cmp.Ordering.{Ordering}
use Rattle.std.specs.declared.cmp.Ordering.TheVariants.{Less, Equal, Greater}
use Rattle.std.specs.Ordering.{ordering_reverse, MatchOrdering}
use Rattle.std.specs.Cmp.{nat_cmp_is}
use Rattle.std.proofs.lemmas.List.{take_rest}
use Rattle.std.proofs.lemmas.Cmp.{ranked, tied_itself}
use Rattle.position.specs.declared.Identifier.{Identifier}
use Rattle.position.specs.Total.{identifiers_ordered, ordered}
use Rattle.position.specs.Order.{then_by, number_order, identifier_order, order_of, ◌≺◌}

-- Two answers at once are none: `cc` finds the equation.
pub never {ℓ} : {C : Type ℓ} → ◌≡◌ {A = ℕ} 0 1 → C
never z = absurd (omega arith)

-- What an answer on numbers tells of them.
pub data Numbers (a b : ℕ) : Ordering → Type 0 where
  less : a < b → Numbers a b Less
  equal : a ≡ b → Numbers a b Equal
  more : b < a → Numbers a b Greater

pub less_below : {a b : ℕ} → a < b → number_order a b ≡ Less
unfolding number_order
less_below {a} {b} h = sym (nat_cmp_is a b Less h)

pub more_above : {a b : ℕ} → b < a → number_order a b ≡ Greater
unfolding number_order
more_above {a} {b} h = sym (nat_cmp_is a b Greater h)

pub equal_same : (a : ℕ) → number_order a a ≡ Equal
unfolding number_order
equal_same a = sym (nat_cmp_is a a Equal refl)

pub numbers : (a b : ℕ) → Numbers a b (number_order a b)
unfolding number_order
numbers a b = by (number_order a b) (ranked a b (number_order a b) refl)
  where
    by : (o : Ordering) → MatchOrdering o (a < b) (a ≡ b) (b < a) → Numbers a b o
    by Less h = less h
    by Equal e = equal e
    by Greater h = more h

pub below_less : (a b : ℕ) → number_order a b ≡ Less → a < b
unfolding number_order
below_less a b e = ranked a b Less (sym e)

same_equal : (a b : ℕ) → number_order a b ≡ Equal → a ≡ b
unfolding number_order
same_equal a b e = ranked a b Equal (sym e)

same_both : (a r : Ordering) → then_by a r ≡ Equal → (a ≡ Equal) × (r ≡ Equal)
same_both Less r e = (e, cc)
same_both Equal r e = (refl, e)
same_both Greater r e = (e, cc)

same_identifiers : (i j : Identifier) → identifier_order i j ≡ Equal → i ≡ j
unfolding identifier_order
same_identifiers i j e =
    let parts = same_both (number_order i.integer j.integer) (number_order i.site j.site) e in
    λ d. record {
      integer = same_equal i.integer j.integer parts.0 d;
      site = same_equal i.site j.site parts.1 d;
    }

-- equal only where the lists are equal
pub same_is : (p q : List Identifier) → order_of p q ≡ Equal → p ≡ q
unfolding order_of
same_is [] [] e = refl
same_is [] (j ∷ q) e = cc
same_is (i ∷ p) [] e = cc
same_is (i ∷ p) (j ∷ q) e =
    let parts = same_both (identifier_order i j) (order_of p q) e in
    λ d. same_identifiers i j parts.0 d ∷ same_is p q parts.1 d

pub is_same : (p : List Identifier) → order_of p p ≡ Equal
is_same = tied_itself ordered

pub irreflexive : (p : List Identifier) → p ≺ p → ⊥
irreflexive p h =
    let none : Less ≡ Equal = sym h ∙ is_same p in
    never (cc)

pub transitive : (p q r : List Identifier) → p ≺ q → q ≺ r → p ≺ r
transitive = ordered.trans

pub above_under : (p q : List Identifier) → order_of p q ≡ Greater → q ≺ p
above_under p q e = ordered.antisymm q p ∙ ap ordering_reverse e

pub under_above : (p q : List Identifier) → q ≺ p → order_of p q ≡ Greater
under_above p q h = ordered.antisymm p q ∙ ap ordering_reverse h

pub total : (p q : List Identifier) → (p ≺ q) ⊎ ((p ≡ q) ⊎ (q ≺ p))
total p q = by (order_of p q) refl
  where
    by : (o : Ordering) → order_of p q ≡ o → (p ≺ q) ⊎ ((p ≡ q) ⊎ (q ≺ p))
    by Less e = inl e
    by Equal e = inr (inl (same_is p q e))
    by Greater e = inr (inr (above_under p q e))

-- The steps of `compare`: where one of the two has run out, and by the first identifiers and what remains.
pub both_out : (p q : List Identifier) → length p < 1 → length q < 1 → Equal ≡ order_of p q
unfolding order_of
both_out [] [] h k = refl
both_out [] (j ∷ q) h k = absurd (omega arith)
both_out (i ∷ p) q h k = absurd (omega arith)

pub first_out : (p q : List Identifier) → length p < 1 → 1 ≤ length q → Less ≡ order_of p q
unfolding order_of
first_out [] [] h k = absurd (omega arith)
first_out [] (j ∷ q) h k = refl
first_out (i ∷ p) q h k = absurd (omega arith)

pub second_out : (p q : List Identifier) → 1 ≤ length p → length q < 1 → Greater ≡ order_of p q
unfolding order_of
second_out [] q h k = absurd (omega arith)
second_out (i ∷ p) [] h k = refl
second_out (i ∷ p) (j ∷ q) h k = absurd (omega arith)

pub by_rest : (p q : List Identifier) (d : Identifier) → 1 ≤ length p → 1 ≤ length q → Equal ≡ identifier_order (get_or p 0 d) (get_or q 0 d)
    → order_of (take (length p - 1) (drop 1 p)) (take (length q - 1) (drop 1 q)) ≡ order_of p q
unfolding order_of
by_rest [] q d h k e = absurd (omega arith)
by_rest (i ∷ p) [] d h k e = absurd (omega arith)
by_rest (i ∷ p) (j ∷ q) d h k e = rw (take_rest (i ∷ p) 1, take_rest (j ∷ q) 1, ← e) refl

-- an answer that is not `Equal` decides, whatever the rest says
pub decided : (first rest : Ordering) → (first ≡ Equal → ⊥) → first ≡ then_by first rest
decided Less rest n = refl
decided Equal rest n = absurd (n refl)
decided Greater rest n = refl

pub by_first : (p q : List Identifier) (d : Identifier) (o : Ordering) → 1 ≤ length p → 1 ≤ length q → o ≡ identifier_order (get_or p 0 d) (get_or q 0 d) → (o ≡ Equal → ⊥)
    → o ≡ order_of p q
unfolding order_of
by_first [] q d o h k e n = absurd (omega arith)
by_first (i ∷ p) [] d o h k e n = absurd (omega arith)
by_first (i ∷ p) (j ∷ q) d o h k e n = rw (← e) (decided o (order_of p q) n)

pub ruleset steps = (both_out, first_out, second_out, by_rest, by_first, ltb-false)

then_assoc : (a b c : Ordering) → then_by (then_by a b) c ≡ then_by a (then_by b c)
then_assoc Less b c = refl
then_assoc Equal b c = refl
then_assoc Greater b c = refl

-- What a front and what is behind it decide: the front against as much of p, then the rest against
-- the rest of p.
pub front_first : (front rest p : List Identifier) → order_of (front ++ rest) p ≡ then_by (order_of front (take (length front) p)) (order_of rest (drop (length front) p))
unfolding order_of
front_first [] rest [] = refl
front_first [] rest (j ∷ p) = refl
front_first (i ∷ front) rest [] = refl
front_first (i ∷ front) rest (j ∷ p) =
    rw (front_first front rest p)
    (sym (then_assoc (identifier_order i j) (order_of front (take (length front) p)) (order_of rest (drop (length front) p))))

-- a position that runs out first is the smaller
pub runs_out : (p : List Identifier) (i : Identifier) (rest : List Identifier) → p ≺ p ++ (i ∷ rest)
unfolding order_of
runs_out [] i rest = refl
runs_out (j ∷ p) i rest = rw (tied_itself identifiers_ordered j) (runs_out p i rest)
