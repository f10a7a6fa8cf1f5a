-- What is left, put in from here, gives the whole.
use Rattle.script.specs.Lines.{decode_table}
use Rattle.listed.specs.Text.{rows_text}
use Rattle.listed.proofs.Showing.{rows_left}
use Rattle.listed.proofs.Shown.{Still}
use Rattle.listed.proofs.output.Output.show_rows.Given as goal

abbrev pub invariant-loop-k : goal.invariant-loop-k
invariant-loop-k l =
    let lines = decode_table l.script.replica.rows l.script.table.now in
    Still (rows_left lines l.k) (rows_text lines) l.fn.self l.self
