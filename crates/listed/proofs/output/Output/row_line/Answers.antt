-- Eight calls put in the eight parts of the line.
use Rattle.listed.specs.Text.{row_line}
use Rattle.listed.proofs.Shown.{both_put}
use Rattle.listed.proofs.output.Output.row_line.Goals as goal

pub returns : goal.returns
unfolding row_line
returns c =
    both_put c.number.ensures (
    both_put c.put.ensures (
    both_put c.position_text.ensures (
    both_put c.put-2.ensures (
    both_put c.number-2.ensures (
    both_put c.put-3.ensures (
    both_put c.put-4.ensures
    c.put-5.ensures))))))
