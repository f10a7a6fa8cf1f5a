-- Where the rows do not fit, or the last does not, the table does not: its parts, as they are cut, are what is decided.
use Rattle.std.proofs.Common.{arith}
use Rattle.sound.proofs.Cut.{told}
use Rattle.sound.proofs.scan.table_fits.Goals as goal
use Rattle.sound.proofs.scan.table_fits.Goals.{then-rows_fit, else-rows_fit}

pub returns-else-last_fits : goal.returns-else-last_fits
returns-else-last_fits c =
    let a = c.args in
    let cut = c.split_at.ensures in
    let parts = told a.rows a.counts.now a.table.now _ _ _ c.requires.0 cut.front cut.back cut.front_len c.as_chunks.ensures.front in
    elim c.if-rows_fit.branch [ then-rows_fit w ↦ grind arith | else-rows_fit w ↦ grind arith ]
