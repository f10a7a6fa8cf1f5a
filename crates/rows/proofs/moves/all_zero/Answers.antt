-- The bytes are or-ed together.
use Rattle.std.proofs.Common.{rules}
use Rattle.rows.proofs.Turns.{all_clear}
use Rattle.rows.proofs.moves.all_zero.Goals as goal

pub returns : goal.returns
returns c = all_clear c.args.s.now c.fold.result (search rules)
