-- Each turn reads the next row and puts its line in.
use Rattle.std.proofs.Common.{refl, arith}
use Rattle.script.proofs.Scripts.{held_size, held_rows, held_text}
use Rattle.listed.proofs.Showing.{rows_whole, next_row, no_rows}
use Rattle.listed.proofs.Shown.{whole_left, less_left, none_left}
use Rattle.listed.proofs.output.Output.show_rows.Goals as goal

pub loop-k-init : goal.loop-k-init
loop-k-init c =
    let script = c.args.script in
    let rows = less_left whole_left (rows_whole script.replica.rows script.table.now) c.put.ensures in
    less_left (less_left rows refl c.number.ensures) refl c.put-2.ensures

pub text-requires : goal.text-requires
text-requires c =
    let sound = c.args.script.sound in
    (held_size sound, (omega (arith, held_rows sound), held_text sound c.loop-k.k c.loop-k-test.true))

pub loop-k-preserved : goal.loop-k-preserved
loop-k-preserved c =
    let script = c.args.script in
    less_left c.loop-k.invariant
    (next_row script.replica.rows c.loop-k.k script.table.now (omega arith) _ _ _
    c.position.ensures c.number-in-loop-k.ensures c.text.ensures)
    c.row_line.ensures

pub returns : goal.returns
returns c =
    let script = c.args.script in
    none_left c.loop-k.invariant (no_rows script.replica.rows c.loop-k.k script.table.now c.loop-k-test.false)
