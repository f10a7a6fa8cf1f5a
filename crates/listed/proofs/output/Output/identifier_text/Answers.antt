-- Three calls put in the three parts of the text.
use Rattle.listed.specs.Text.{identifier_text}
use Rattle.listed.proofs.Shown.{both_put}
use Rattle.listed.proofs.output.Output.identifier_text.Goals as goal

pub returns : goal.returns
unfolding identifier_text
returns c = both_put c.number.ensures (both_put c.put.ensures c.number-2.ensures)
