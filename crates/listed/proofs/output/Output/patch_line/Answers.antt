-- Four calls put in the four parts of the line.
use Rattle.listed.specs.Text.{patch_line}
use Rattle.listed.proofs.Shown.{both_put}
use Rattle.listed.proofs.output.Output.patch_line.Goals as goal

pub returns : goal.returns
unfolding patch_line
returns c =
    rw (← c.number-answer.ensures)
    (both_put c.number.ensures (both_put c.put.ensures (both_put c.number-2.ensures c.put-2.ensures)))
