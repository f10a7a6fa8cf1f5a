-- A place made between two neighbours, each a line's position or an end, is a line's position, and
-- ends in the maker's site.
-- Assumes nothing.
use Prim.Native.Nat.{ℕ, zero, suc, ◌+◌, ◌-◌, ◌%◌, ◌≤◌, ◌<◌}
use native.Mathlib.Omega.{arith}
use native.Mathlib.Decide.{dec_lt}
use mathlib.Core.Path.{◌≡◌, refl, sym, ap, ◌∙◌, subst}
use mathlib.Core.Logic.{◌⊎◌, inl, inr, ⊎_elim, by_cases}
use mathlib.Core.Option.{some}
use mathlib.Core.List.{List, [], ◌∷◌, ◌++◌}
use lib.ListN.{length, take, get_or, replicate, length-append, length-take, get_or-replicate, get_or-append, get_or-eq_default}
use lib.Seq.{get_or-take, get_or_at, get_or-append-add}
use Rattle.position.specs.declared.Identifier.{Identifier}
use Rattle.std.specs.declared.cmp.Ordering.{Ordering}
use Rattle.std.specs.declared.cmp.Ordering.TheVariants.{Less, Equal, Greater}
use Rattle.position.specs.Positions.{identifier, pad, begin, end, Proper, last_of, author_of, LinePosition, Neighbour, a_line, the_begin, the_end}
use Rattle.position.specs.Order.{then_by, number_order, identifier_order, order_of, ◌≺◌}
use Rattle.position.specs.Place.{place_of}
use Rattle.position.specs.Rule.{padded, followed_by}
use Rattle.position.proofs.Ids.{padded_length}
use Rattle.position.proofs.Ordered.{never, below_less, less_below, irreflexive, transitive}
use Rattle.position.proofs.Made.{made, picked, made_between}

below_either : (a r : Ordering) → then_by a r ≡ Less → (a ≡ Less) ⊎ ((a ≡ Equal) × (r ≡ Less))
below_either Less r e = inl e
below_either Equal r e = inr (refl, e)
below_either Greater r e = inl e

not_under_none : (l : List Identifier) → order_of l [] ≡ Less → ⊥
unfolding order_of
not_under_none [] e = never (cc)
not_under_none (i ∷ l) e = never (cc)

-- Below the end stands what begins with an integer of at most 65,534, and nothing else.
under_end : (l : List Identifier) → l ≺ end → (get_or l 0 pad).integer ≤ 65534
unfolding order_of identifier_order
under_end [] e = omega arith
under_end (i ∷ l) e =
    ⊎_elim
    (λ first. ⊎_elim
    (λ less. let below : i.integer < 65535 = below_less i.integer 65535 less in omega arith)
    (λ same. let none-such : i.site < 0 = below_less i.site 0 same.1 in absurd (omega arith))
    (below_either (number_order i.integer 65535) (number_order i.site 0) first))
    (λ rest. absurd (not_under_none l rest.1))
    (below_either (then_by (number_order i.integer 65535) (number_order i.site 0)) (order_of l []) e)

first_under_end : (l : List Identifier) → 1 ≤ length l → (get_or l 0 pad).integer ≤ 65534 → l ≺ end
unfolding order_of identifier_order
first_under_end [] h k = absurd (omega arith)
first_under_end (i ∷ l) h k =
    let less : i.integer < 65535 = omega arith in
    rw (less_below less)

neighbour_under_end : (l : List Identifier) → Neighbour l → (l ≡ end) ⊎ (l ≺ end)
neighbour_under_end l (a_line h) = inr (first_under_end l h.least (omega (arith, h.first)))
neighbour_under_end l (the_begin e) = inr (subst (λ (m : List Identifier). m ≺ end) (sym e) (first_under_end begin (omega arith) (omega arith)))
neighbour_under_end l (the_end e) = inl e

pad_proper : Proper pad
pad_proper = record { pad_or_whole = inl refl; integer = omega arith; site = omega arith }

-- what a padded front has at k: p's identifier there, or the pad
padded_at : (p : List Identifier) (n k : ℕ) → k < n → get_or (padded p n) k pad ≡ get_or p k pad
unfolding padded
padded_at p n k h = by_cases (dec_lt k (length p)) inside outside
  where
    pads : List Identifier
    pads = replicate (n - length p) pad

    inside : k < length p → get_or (take n p ++ pads) k pad ≡ get_or p k pad
    inside l =
        let there : k < length (take n p) = omega (arith, length-take n p) in
        get_or-append (take n p) pads pad k there ∙ get_or-take n p k pad h

    outside : ¬ (k < length p) → get_or (take n p ++ pads) k pad ≡ get_or p k pad
    outside l =
        let own : length (take n p) ≡ length p = length-take n p ∙ omega arith in
        let there : k ≡ length (take n p) + (k - length p) = omega arith in
        ap (λ (m : ℕ). get_or (take n p ++ pads) m pad) there
        ∙ get_or-append-add (take n p) pads (k - length p) pad
        ∙ get_or-replicate (n - length p) (k - length p) pad pad (omega arith)
        ∙ sym (get_or-eq_default p pad (omega arith))

-- every identifier of a neighbour that is not the end, and the pad behind them
ids_proper : (p : List Identifier) → Neighbour p → (p ≡ end → ⊥) → (k : ℕ) → Proper (get_or p k pad)
ids_proper p (a_line h) not_end k = by_cases (dec_lt k (length p)) (h.proper k) outside
  where
    outside : ¬ (k < length p) → Proper (get_or p k pad)
    outside l =
        let out : length p ≤ k = omega arith in
        rw (get_or-eq_default p pad out) pad_proper
ids_proper p (the_begin e) not_end k = subst (λ (l : List Identifier). Proper (get_or l k pad)) (sym e) (one k)
  where
    one : (k : ℕ) → Proper (get_or begin k pad)
    one zero = pad_proper
    one (suc k) = pad_proper
ids_proper p (the_end e) not_end k = absurd (not_end e)

-- the identifiers of a candidate: the front's, then (x, s)
module _ (p : List Identifier) (n x s : ℕ) where
  candidate_length : length (followed_by (padded p n) x s) ≡ n + 1
  candidate_length = simp (length-append, padded_length)

  candidate_front : (k : ℕ) → k < n → get_or (followed_by (padded p n) x s) k pad ≡ get_or p k pad
  candidate_front k h =
      let there : k < length (padded p n) = omega (arith, padded_length p n) in
      get_or-append (padded p n) (identifier x s ∷ []) pad k there ∙ padded_at p n k h

  candidate_end : get_or (followed_by (padded p n) x s) n pad ≡ identifier x s
  candidate_end = get_or_at (padded p n) (identifier x s) [] pad n (padded_length p n)

  candidate_last : last_of (followed_by (padded p n) x s) ≡ identifier x s
  candidate_last =
      let back : length (followed_by (padded p n) x s) - 1 ≡ n = omega (arith, candidate_length) in
      ap (λ (k : ℕ). get_or (followed_by (padded p n) x s) k pad) back ∙ candidate_end

  -- a candidate whose front is proper, below the end, is a line's position
  candidate_line : n ≤ 7 → 1 ≤ x → x ≤ 65535 → 1 ≤ s → s ≤ 16 → ((k : ℕ) → Proper (get_or p k pad)) → followed_by (padded p n) x s ≺ end → LinePosition (followed_by (padded p n) x s)
  candidate_line short least most site site_most front under =
      record {
        least = omega (arith, candidate_length);
        most = omega (arith, candidate_length);
        proper = λ k h. by_cases (dec_lt k n)
            (λ l. rw (candidate_front k l) (front k))
            (λ l.
            let at-end : n ≡ k = omega (arith, candidate_length) in
            subst (λ (m : ℕ). Proper (get_or (followed_by (padded p n) x s) m pad)) at-end
            (rw candidate_end (record { pad_or_whole = inr (least, site); integer = most; site = site_most })));
        unpadded = λ e.
            let zero-x : x ≡ 0 = ap (λ (i : Identifier). i.integer) (sym candidate_last ∙ e) in
            omega arith;
        first = under_end (followed_by (padded p n) x s) under;
      }

-- What a place made between lines or ends is.
pub record MadeLine (place : List Identifier) (s : ℕ) : Type 0 where
  pub line : LinePosition place
  pub author : author_of place ≡ s

pub made_line : (p q : List Identifier) (s draw : ℕ) (place : List Identifier) → Neighbour p → Neighbour q → 1 ≤ s → s ≤ 16 → place_of p q s draw ≡ some place → MadeLine place s
made_line p q s draw place left right site site_most e =
    let r = made p q s draw place e in
    let between = made_between p q s draw place e in
    let under : place ≺ end = ⊎_elim
    (λ is. subst (λ (l : List Identifier). place ≺ l) is between.1)
    (λ below. transitive place q end between.1 below)
    (neighbour_under_end q right) in
    let not_end : p ≡ end → ⊥ = λ is.
    irreflexive end (transitive end place end (subst (λ (l : List Identifier). l ≺ place) is between.0) under) in
    let x = r.lo + draw % r.c in
    let within = picked p q s r in
    let n = r.d - 1 in
    subst (λ (l : List Identifier). MadeLine l s) (sym r.place_is)
    (record {
      line =
          candidate_line p n x s (omega (arith, r.up_to_8)) within.least within.most site site_most (ids_proper p left not_end)
          (subst (λ (l : List Identifier). l ≺ end) r.place_is under);
      author = ap (λ (i : Identifier). i.site) (candidate_last p n x s);
    })
