-- The loop of `place`: the room found from front k on is the room found from the first front on.
use Rattle.std.proofs.Common.{◌-◌, ◌≡◌}
use Rattle.position.specs.Positions.{ids_of}
use Rattle.position.specs.Place.{room_from, room_of}
use Rattle.position.proofs.place.place.Given as goal

abbrev pub invariant-loop-k : goal.invariant-loop-k
invariant-loop-k l = room_from (ids_of l.p) (ids_of l.q) l.site (8 - l.k) l.k ≡ room_of (ids_of l.p) (ids_of l.q) l.site
