-- The search for room, one front at a time: the laws by which `place` and the rule use `room_from`,
-- `room_of` and `place_of`, and never their text.
-- Assumes nothing.
use Prim.Native.Nat.{ℕ, suc, ◌-◌, ◌≤◌, ◌<◌, min, max}
use native.Mathlib.Omega.{arith}
use mathlib.Core.Path.{◌≡◌, refl}
use mathlib.Core.Option.{none, some}
use mathlib.Core.List.{List}
use lib.ListN.{length}
use borrow.Author.Tests.{lt-ltb, le-ltb}
use Rattle.position.specs.declared.Identifier.{Identifier}
use Rattle.position.specs.Rule.{followed_by}
use Rattle.position.specs.declared.Position.{Position}
use Rattle.position.specs.Positions.{position_of}
use Rattle.position.specs.Place.{Front, front_at, x_of, first_over, Room, room_at, room_from, room_of, place_of}
use Rattle.position.proofs.Ids.{is_front, padded_length}

-- each of the fronts tried leaves room for one identifier more
pub front_short : (p q : List Identifier) (k : ℕ) → k < 8 → length (front_at p q k) < 8
unfolding front_at
front_short p q k h = rw (padded_length p k) h

-- the value of a front is one that the steps take
pub fronted : (p q : List Identifier) (k : ℕ) (f : Position) → f ≡ position_of (front_at p q k) → k < 8 → Front f
fronted p q k f e h = is_front f (front_at p q k) e (front_short p q k h)

module _ (p q : List Identifier) (s : ℕ) where
  -- no front is left
  pub room_none : (k : ℕ) → room_from p q s 0 k ≡ none
  unfolding room_from
  room_none k = refl

  -- the front k has room: it is the one
  pub room_here : (left k : ℕ) → 0 < (room_at p q s k).c → room_from p q s (suc left) k ≡ some (room_at p q s k)
  unfolding room_from
  room_here left k h = rw (lt-ltb 0 (room_at p q s k).c h)

  -- the front k has none: the search goes on behind it
  pub room_later : (left k : ℕ) → (room_at p q s k).c ≡ 0 → room_from p q s (suc left) k ≡ room_from p q s left (suc k)
  unfolding room_from
  room_later left k e = rw (le-ltb 0 (room_at p q s k).c (omega arith))

  pub room_starts : room_from p q s 8 0 ≡ room_of p q s
  unfolding room_of
  room_starts = refl

  -- the room behind a front, from its two bounds
  pub room_is : (k lo past : ℕ) (front : List Identifier) → front ≡ front_at p q k → lo ≡ max 1 (first_over 1 p front s) → past ≡ first_over 0 q front s → past ≤ 65536 → room_at p q s k ≡ record { front = front; lo = lo; c = past - lo }
  unfolding room_at
  room_is k lo past front is-front is-lo is-past most =
      let within : min 65536 (first_over 0 q front s) ≡ past = omega arith in
      rw (← is-front, ← is-lo, within)

  -- the place in the room found, and none where none is
  pub place_in : (draw : ℕ) (room : Room) → room_of p q s ≡ some room → place_of p q s draw ≡ some (followed_by room.front (x_of room.lo room.c draw) s)
  unfolding place_of
  place_in draw room e = rw e

  pub place_none : (draw : ℕ) → room_of p q s ≡ none → place_of p q s draw ≡ none
  unfolding place_of
  place_none draw e = rw e
