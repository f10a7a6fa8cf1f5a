-- The identifiers read so far stand behind the count, and are put in front of pads.
use Rattle.std.proofs.Common.{◌≡◌}
use Rattle.position.specs.Positions.{position_of}
use Rattle.reader.proofs.Repeated.{Turn}
use Rattle.reader.proofs.Placed.{identifiers}
use Rattle.reader.proofs.cursor.Cursor.place.Given as goal

abbrev pub invariant-loop-i : goal.invariant-loop-i
invariant-loop-i l = Turn identifiers (λ xs. l.ids ≡ (position_of xs).ids) l.initial.next.rest.now l.i 0 l.next.rest.now
