-- The last digit is put in as it is, behind what the call on a tenth puts in where there is one.
use Rattle.std.proofs.Common.{arith}
use Rattle.listed.proofs.Decimal.{decimal_digit, decimal_more}
use Rattle.listed.proofs.Shown.{both_put}
use Rattle.listed.proofs.output.Output.+number.Goals as goal
use Rattle.listed.proofs.output.Output.+number.Goals.{then-n-ge10, else-n-ge10}

pub returns : goal.returns
returns t c =
    let n = c.args.n in
    elim c.if-n-ge10.branch [
      | then-n-ge10 w ↦ rw (decimal_more n (omega arith)) (both_put w.number.ensures (rw (← w.self-is) c.put.ensures))
      | else-n-ge10 w ↦ rw (decimal_digit n (omega arith), ← w.self-is) c.put.ensures
    ]
