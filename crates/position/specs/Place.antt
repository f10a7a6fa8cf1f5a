-- The place of a new line, computed (01, 'A new place'; the report's definition 3, completed).
-- Rule.antt has the rule itself, and proofs/Made.antt that this is the rule.
-- Assumes nothing.
use Rattle.std.specs.Prelude.{ℕ, zero, suc, ◌+◌, ◌-◌, ◌%◌, ◌<◌, min, max, ◌≡◌, cond, List, ltb, length, take, get_or, Option as StdOption, None, Some}
use Rattle.std.proofs.Math.Option.{Option, none, some, map}
use Rattle.position.specs.declared.Identifier.{Identifier}
use Rattle.position.specs.declared.Position.{Position}
use Rattle.std.specs.declared.cmp.Ordering.{Ordering}
use Rattle.std.specs.declared.cmp.Ordering.TheVariants.{Less, Equal, Greater}
use Rattle.position.specs.Positions.{pad, ids_of, position_of}
use Rattle.position.specs.Order.{order_of}
use Rattle.position.specs.Rule.{padded, followed_by}

-- What may stand in front, numbered in the order of trying: front k is P's, of k identifiers, so
-- that a candidate behind it has length k + 1.
unfoldable pub front_at : List Identifier → List Identifier → ℕ → List Identifier
front_at p q k = padded p k

-- "The place has x = lo + (draw mod c)."
unfoldable pub x_of : ℕ → ℕ → ℕ → ℕ
x_of lo c draw = lo + draw % c

-- one of three numbers, by an order
abbrev pub by_order : Ordering → ℕ → ℕ → ℕ → ℕ
by_order Less below same above = below
by_order Equal below same above = same
by_order Greater below same above = above

-- the integer of the identifier that p has after its first n; 0 where it has none
abbrev pub next_integer : List Identifier → ℕ → ℕ
next_integer p n = (get_or p n pad).integer

-- Behind one front candidates rise with x, so one number says which of them lie over a neighbour:
-- the first x whose candidate does. Where the front is the neighbour's own first part, that is the
-- neighbour's next integer or the one after it; else the front alone decides, for no x up to 65,535
-- or for every x. A candidate that is the neighbour itself counts as over it with `own` 0, and as
-- not yet over it with `own` 1.
unfoldable pub first_over : ℕ → List Identifier → List Identifier → ℕ → ℕ
first_over own neighbour front s =
    let i = next_integer neighbour (length front) in
    by_order (order_of front (take (length front) neighbour)) 65536
    (by_order (order_of (followed_by front i s) neighbour) (i + 1) (i + own) i)
    0

-- what the steps take for a front: fewer than 8 identifiers, and pads behind them
pub record Front (f : Position) : Type 0 where
  pub short : f.used < 8
  pub pads : f ≡ position_of (ids_of f)

-- the candidates behind one front: their x are c numbers from lo on
pub record Room : Type 0 where
  pub front : List Identifier
  pub lo : ℕ
  pub c : ℕ

-- from the first x that is at least 1 and over p, to the last that is at most 65,535 and under q
unfoldable pub room_at : List Identifier → List Identifier → ℕ → ℕ → Room
room_at p q s k =
    let front = front_at p q k in
    let lo = max 1 (first_over 1 p front s) in
    record { front = front; lo = lo; c = min 65536 (first_over 0 q front s) - lo }

-- "Take the smallest d up to 8 that has candidates": the first front with room
unfoldable pub room_from : List Identifier → List Identifier → ℕ → ℕ → ℕ → Option Room
room_from p q s zero k = none
room_from p q s (suc left) k = cond (ltb 0 (room_at p q s k).c) (some (room_at p q s k)) (room_from p q s left (suc k))

unfoldable pub room_of : List Identifier → List Identifier → ℕ → Option Room
room_of p q s = room_from p q s 8 0

-- the place of a new line of site s between p and q, or none
unfoldable pub place_of : List Identifier → List Identifier → ℕ → ℕ → Option (List Identifier)
place_of p q s draw = map (λ room. followed_by room.front (x_of room.lo room.c draw) s) (room_of p q s)

-- the answer of `place`: the position made, or none
abbrev pub placed : Option (List Identifier) → StdOption Position
placed none = None
placed (some l) = Some (position_of l)
