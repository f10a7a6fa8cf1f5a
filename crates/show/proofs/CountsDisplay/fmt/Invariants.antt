-- The loop of `fmt`: the counts passed are written.
use Rattle.std.proofs.Common.{take}
use Rattle.std.specs.Fmt.{HasWritten, IsPlainFormatter}
use Rattle.std.specs.List.{flat_map, enumerate_from}
use Rattle.show.specs.Text.{count_text}
use Rattle.show.proofs.CountsDisplay.fmt.Given as goal

abbrev pub invariant-loop-i : goal.invariant-loop-i
invariant-loop-i g l =
    IsPlainFormatter l.initial.f → HasWritten g.W.Write.write_str_gives l.initial.f (flat_map count_text (take l.i (enumerate_from 1 l.count-items))) l.f
