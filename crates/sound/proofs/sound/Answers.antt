-- Past the record's ranges the table decides.
use Rattle.std.proofs.Common.{arith}
use Rattle.sound.proofs.Decided.{decided}
use Rattle.sound.proofs.sound.Goals as goal
use Rattle.sound.proofs.sound.Goals.{then-table-eq-TABLE, else-table-eq-TABLE}

pub returns-then-record_fits : goal.returns-then-record_fits
returns-then-record_fits c =
    elim c.if-table-eq-TABLE.branch [
      | then-table-eq-TABLE w ↦
          let table = decided c.args.r c.args.table.now (λ i. (c.type_inv.table i).fits) in
          grind arith
      | else-table-eq-TABLE w ↦ grind arith
    ]
