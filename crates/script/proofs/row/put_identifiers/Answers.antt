-- Each turn writes the next identifier, its integer and then its site.
use Rattle.std.proofs.Common.{◌+◌, ◌*◌, get_or, ap, ◌∙◌, arith}
use Rattle.position.specs.Positions.{pad}
use Rattle.rows.specs.Numbers.{bytes_of}
use Rattle.rows.specs.Rows.{written}
use Rattle.script.proofs.Encoded.{identifier_written}
use Rattle.script.proofs.row.put_identifiers.Goals as goal

pub loop-i-preserved : goal.loop-i-preserved
loop-i-preserved c =
    let ids = c.args.ids.now in
    let at = c.loop-i in
    let id = get_or ids at.i pad in
    c.put-in-loop-i.ensures
    ∙ ap (written (3 + 3 * at.i) (bytes_of 1 id.site))
    (c.put.ensures ∙ ap (written (1 + 3 * at.i) (bytes_of 2 id.integer)) at.invariant)
    ∙ identifier_written ids at.i 1 (1 + 3 * at.i) (3 + 3 * at.i) c.args.part.now
    (omega arith) (omega arith) (omega arith) (omega arith)
