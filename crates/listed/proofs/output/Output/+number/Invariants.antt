-- Each call is on a tenth of the number.
use Rattle.listed.proofs.output.Output.+number.Given as goal

abbrev pub decreases-number : goal.decreases-number
decreases-number l = l.n
