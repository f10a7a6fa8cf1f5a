-- The three numbers stand one behind the other.
use Rattle.std.proofs.Common.{◌+◌, Some, ap, ◌∙◌}
use Rattle.rows.specs.Numbers.{bytes_of}
use Rattle.rows.specs.Rows.{written}
use Rattle.replica.specs.Compare.{Lack, no_lack, lack_given}
use Rattle.host.proofs.Sites.{lack_written}
use Rattle.host.proofs.lacks.put_lack.Goals as goal

pub returns-in-None : goal.returns-in-None
returns-in-None c =
    let at = c.args.at in
    rw c.in-None.is
    (c.put-in-None-2.ensures
    ∙ ap (written (at + 5) (bytes_of 4 0)) (c.put-in-None.ensures ∙ ap (written (at + 1) (bytes_of 4 0)) c.put.ensures)
    ∙ lack_written no_lack at c.args.res.now c.requires)

pub returns-in-Some : goal.returns-in-Some
returns-in-Some c =
    let at = c.args.at in
    let lack : Lack = lack_given (Some c.in-Some.missing) in
    rw c.in-Some.is
    (c.put-in-Some-3.ensures
    ∙ ap (written (at + 5) (bytes_of 4 lack.last))
    (c.put-in-Some-2.ensures
    ∙ ap (written (at + 1) (bytes_of 4 lack.first))
    (c.put-in-Some.ensures ∙ ap (λ n. written at (bytes_of 1 n) c.args.res.now) c.from.ensures))
    ∙ lack_written lack at c.args.res.now c.requires)
