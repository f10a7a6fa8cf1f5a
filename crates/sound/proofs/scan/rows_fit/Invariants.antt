-- the rows passed fit, and the words carried are those of the row before
use Rattle.std.proofs.Common.{◌≡◌}
use Rattle.rows.specs.Rows.{Upto}
use Rattle.sound.specs.Steps.{Fits, word, row_before}
use Rattle.sound.proofs.scan.rows_fit.Given as goal

abbrev pub invariant-loop-row : goal.invariant-loop-row
invariant-loop-row l = record {
  first : l.words.0 ≡ word (row_before l.rows l.row-index) 0;
  second : l.words.1 ≡ word (row_before l.rows l.row-index) 1;
  third : l.words.2 ≡ word (row_before l.rows l.row-index) 2;
  fits : Upto l.row-index (Fits l.counts l.rows);
}
