-- Each turn puts in the next identifier: the first as it is, a later one behind a comma.
use Rattle.std.proofs.Common.{arith}
use Rattle.listed.proofs.Showing.{first_left, next_left, no_identifiers}
use Rattle.listed.proofs.Shown.{both_put, less_left, none_left, whole_left}
use Rattle.listed.proofs.output.Output.position_text.Goals as goal
use Rattle.listed.proofs.output.Output.position_text.Goals.{then-i-gt0, else-i-gt0}

pub loop-i-init : goal.loop-i-init
loop-i-init c = whole_left

pub loop-i-preserved : goal.loop-i-preserved
loop-i-preserved c =
    let ids = c.identifiers-id-items.result.now in
    let i = c.loop-i.i in
    elim c.if-i-gt0.branch [
      | then-i-gt0 w ↦
          less_left c.loop-i.invariant (next_left ids i (omega arith) (omega arith))
          (both_put w.put.ensures (rw w.self-is at c.identifier_text.ensures))
      | else-i-gt0 w ↦
          less_left c.loop-i.invariant (first_left ids i (omega arith) (omega arith)) (rw w.self-is at c.identifier_text.ensures)
    ]

pub returns : goal.returns
returns c =
    rw (← c.identifiers-id-items.ensures)
    (none_left c.loop-i.invariant (no_identifiers c.identifiers-id-items.result.now c.loop-i.i (omega arith)))
