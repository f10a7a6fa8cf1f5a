-- `count` meets its contract: a byte is a number of one byte.
-- Assumes nothing.
use Rattle.std.proofs.Common.{arith}
use Rattle.std.proofs.lemmas.Grind.{common_steps}
use Rattle.rows.specs.Numbers.{bytes_of}
use Rattle.rows.proofs.Digits.{bytes_length}
use Rattle.reader.specs.Steps.{Reads, Within}
use Rattle.reader.proofs.Composed.{too_short, byte_found, byte_unfit, handed}
use Rattle.reader.proofs.cursor.Cursor.count.Goals as goal

pub returns-in_err-value : goal.returns-in_err-value
returns-in_err-value c =
    rw c.from_residual.ensures (too_short 1 (λ v _. bytes_length 1 v) (omega (arith, c.in_err-value.ensures.cases)))

pub returns : goal.returns
returns c =
    let a = c.args in
    let here = c.in_ok-value.ensures.cases.0 in
    handed (Reads (bytes_of 1) (Within a.least a.most) a.self.rest.now) c.contains.result c.then_some.ensures
    (λ good. byte_found here a.least a.most (omega arith) (grind (arith, common_steps), grind (arith, common_steps)))
    (λ wrong. byte_unfit here a.least a.most (omega arith) (λ fits. grind (arith, common_steps)))
