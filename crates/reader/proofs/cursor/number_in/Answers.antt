-- `number_in` meets its contract: four bytes are those of the number that they are.
-- Assumes nothing.
use Rattle.std.proofs.Common.{◌∙◌, arith}
use Rattle.std.proofs.Math.Seq.{take_all}
use Rattle.rows.proofs.Digits.{bytes_back}
use Rattle.reader.proofs.cursor.number_in.Goals as goal

pub returns-clause-bytes : goal.returns-clause-bytes
returns-clause-bytes c =
    let s = c.args.bytes.now in
    rw c.read.ensures (bytes_back 4 0 s (λ i. (c.type_inv.bytes i).fits) (omega arith) ∙ take_all 4 s (omega arith))
