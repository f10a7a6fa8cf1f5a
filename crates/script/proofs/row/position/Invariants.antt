-- The identifiers read so far, then pads.
use Rattle.std.proofs.Common.{◌≡◌, ◌++◌, take, drop, replicate}
use Rattle.position.specs.Positions.{pad}
use Rattle.script.specs.Lines.{identifiers_of}
use Rattle.script.proofs.row.position.Given as goal

abbrev pub invariant-loop-i : goal.invariant-loop-i
invariant-loop-i l = l.ids ≡ take l.i (identifiers_of l.row) ++ drop l.i (replicate 8 pad)
