-- the faults so far are 0 exactly where each byte passed fits
use Rattle.std.proofs.Common.{◌≡◌, ◌↔◌}
use Rattle.rows.specs.Rows.{Upto}
use Rattle.sound.specs.Steps.{SlotFits}
use Rattle.sound.proofs.faults.slot_faults.Given as goal

abbrev pub invariant-loop-j : goal.invariant-loop-j
invariant-loop-j l = (l.faults ≡ 0) ↔ Upto l.j (SlotFits l.used l.row)
