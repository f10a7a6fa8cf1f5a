-- The loop of `fmt`: the identifiers passed are written, each behind its comma.
use Rattle.std.proofs.Common.{take}
use Rattle.std.specs.Fmt.{HasWritten, IsPlainFormatter}
use Rattle.std.specs.List.{flat_map}
use Rattle.position.specs.Text.{next_text}
use Rattle.position.proofs.PositionDisplay.fmt.Given as goal

abbrev pub invariant-loop-next : goal.invariant-loop-next
invariant-loop-next g l =
    IsPlainFormatter l.initial.f → HasWritten g.W.Write.write_str_gives l.initial.f (flat_map next_text (take l.next-index l.rest)) l.f
