-- P1 to P11: every case of the table holds, by one test that is computed over the whole table.
-- Assumes nothing.
use Prim.Native.Nat.{ℕ, zero, suc, ◌+◌, ◌-◌, ◌%◌}
use mathlib.Core.Path.{◌≡◌, refl, sym, ap, ◌∙◌, subst}
use mathlib.Core.Logic.{⊎_elim}
use mathlib.Core.Bool.{Bool, true, false, ◌&&◌}
use mathlib.Core.Option.{Option, none, some}
use mathlib.Core.List.Memᴰ
use mathlib.Core.List.{List, [], ◌∷◌, Memᴰ}
use lib.Dec.{T, eqb, eqb→eq}
use Rattle.position.specs.declared.Identifier.{Identifier}
use Rattle.std.specs.declared.cmp.Ordering.{Ordering}
use Rattle.std.specs.declared.cmp.Ordering.TheVariants.{Less, Equal, Greater}
use Rattle.std.specs.Ordering.{ordering_index}
use Rattle.position.specs.Order.{number_order, identifier_order, order_of}
use Rattle.position.specs.Rule.{followed_by, padded}
use Rattle.position.specs.Place.{front_at, x_of, first_over, Room, room_at, room_from, room_of, place_of}
use Rattle.position.specs.Examples.{Case, against, run, drawn, nowhere, Holds, cases}
use Rattle.position.proofs.Ordered.{same_is}
use Rattle.position.proofs.Rooms.{place_in, place_none}

both_parts : (a b : Bool) → T (a && b) → T a × T b
both_parts true b t = (tt, t)
both_parts false b t = absurd t

-- the tests of equality that the cases need
abbrev ranked : ℕ → Ordering
ranked zero = Less
ranked (suc zero) = Equal
ranked (suc (suc n)) = Greater

ranked_rank : (o : Ordering) → ranked (ordering_index o) ≡ o
ranked_rank Less = refl
ranked_rank Equal = refl
ranked_rank Greater = refl

abbrev same_order : Ordering → Ordering → Bool
same_order a b = eqb (ordering_index a) (ordering_index b)

same_order_lem : (a b : Ordering) → T (same_order a b) → a ≡ b
same_order_lem a b t = sym (ranked_rank a) ∙ ap ranked (eqb→eq (ordering_index a) (ordering_index b) t) ∙ ranked_rank b

abbrev same_ids : List Identifier → List Identifier → Bool
same_ids a b = same_order (order_of a b) Equal

same_ids_lem : (a b : List Identifier) → T (same_ids a b) → a ≡ b
same_ids_lem a b t = same_is a b (same_order_lem (order_of a b) Equal t)

abbrev is_room : Option Room → List Identifier → ℕ → ℕ → Bool
is_room none front lo c = false
is_room (some room) front lo c = same_ids room.front front && (eqb room.lo lo && eqb room.c c)

abbrev is_place : Option (List Identifier) → List Identifier → Bool
is_place none place = false
is_place (some l) place = same_ids l place

abbrev is_none : Option Room → Bool
is_none none = true
is_none (some room) = false

abbrev test : Case → Bool
test (against p q order) = same_order (order_of p q) order
test (run p q s front lo last) = is_room (room_of p q s) front lo (last + 1 - lo)
test (drawn p q s draw place) = is_place (place_of p q s draw) place
test (nowhere p q s) = is_none (room_of p q s)

tested : (case : Case) → T (test case) → Holds case
unfolding x_of
tested (against p q order) t = same_order_lem (order_of p q) order t
tested (run p q s front lo last) t = by (room_of p q s) refl t
  where
    c : ℕ
    c = last + 1 - lo

    by : (o : Option Room) → room_of p q s ≡ o → T (is_room o front lo c) → (draw : ℕ) → place_of p q s draw ≡ some (followed_by front (lo + draw % c) s)
    by none e t draw = absurd t
    by (some room) e t draw =
        let parts = both_parts (same_ids room.front front) (eqb room.lo lo && eqb room.c c) t in
        let numbers = both_parts (eqb room.lo lo) (eqb room.c c) parts.1 in
        place_in p q s draw room e
        ∙ (λ d. some (followed_by (same_ids_lem room.front front parts.0 d) (eqb→eq room.lo lo numbers.0 d + draw % eqb→eq room.c c numbers.1 d) s))
tested (drawn p q s draw place) t = by (place_of p q s draw) t
  where
    by : (o : Option (List Identifier)) → T (is_place o place) → o ≡ some place
    by none t = absurd t
    by (some l) t = ap some (same_ids_lem l place t)
tested (nowhere p q s) t = λ draw. place_none p q s draw (by (room_of p q s) t)
  where
    by : (o : Option Room) → T (is_none o) → o ≡ none
    by none t = refl
    by (some room) t = absurd t

abbrev every : List Case → Bool
every [] = true
every (case ∷ rest) = test case && every rest

each : (l : List Case) → T (every l) → (case : Case) → Memᴰ case l → Holds case
each [] t case m = absurd (Memᴰ.not-nil m)
each (first ∷ rest) t case m =
    let parts = both_parts (test first) (every rest) t in
    ⊎_elim
    (λ is. subst Holds (sym is) (tested first parts.0))
    (λ later. each rest parts.1 case later)
    (Memᴰ.cases_cons m)

pub examples : (case : Case) → Memᴰ case cases → Holds case
unfolding number_order identifier_order order_of padded front_at x_of first_over room_at room_from room_of place_of
examples = each cases tt
