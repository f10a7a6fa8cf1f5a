-- What is left, put in from here, gives the whole.
use Rattle.listed.specs.Text.{position_text}
use Rattle.listed.proofs.Showing.{identifiers_left}
use Rattle.listed.proofs.Shown.{Still}
use Rattle.listed.proofs.output.Output.position_text.Given as goal

abbrev pub invariant-loop-i : goal.invariant-loop-i
invariant-loop-i l = Still (identifiers_left l.id-items l.i) (position_text l.id-items) l.fn.self l.self
