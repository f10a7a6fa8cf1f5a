-- `read_first` meets its contract: a section is not there, the fields do not agree, or the sections read are
-- the first patch.
-- Assumes nothing.
use Rattle.std.proofs.Common.{◌≡◌}
use Rattle.rows.proofs.Answers.{no_answer}
use Rattle.reader.specs.Read.{read_first, taken}
use Rattle.reader.proofs.Whole.{none_taken, without_head, without_before, without_place, without_line, agreed, disagreed}
use Rattle.reader.proofs.read_first.Goals as goal

pub returns-in_err-head : goal.returns-in_err-head
returns-in_err-head c =
    rw c.from_residual.ensures (none_taken (without_head (rw c.start.ensures at c.in_err-head.ensures)))

pub returns-in_err-before : goal.returns-in_err-before
returns-in_err-before c =
    rw c.from_residual-in_err-before.ensures
    (none_taken (without_before (rw c.start.ensures at c.in_ok-head.ensures) c.in_err-before.ensures))

pub returns-in_err-place : goal.returns-in_err-place
returns-in_err-place c =
    rw c.from_residual-in_err-place.ensures
    (none_taken (without_place (rw c.start.ensures at c.in_ok-head.ensures) c.in_ok-before.ensures c.in_err-place.ensures))

pub returns-in_err-line : goal.returns-in_err-line
returns-in_err-line c =
    rw c.from_residual-in_err-line.ensures
    (none_taken
    (without_line (rw c.start.ensures at c.in_ok-head.ensures) c.in_ok-before.ensures c.in_ok-place.ensures c.in_err-line.ensures))

pub returns-then-not-agrees : goal.returns-then-not-agrees
returns-then-not-agrees c =
    disagreed (rw c.start.ensures at c.in_ok-head.ensures) c.in_ok-before.ensures c.in_ok-place.ensures c.in_ok-line.ensures
    (λ agrees. no_answer c.agrees.result c.if-not-agrees.true (c.agrees.ensures.1 agrees))

pub returns : goal.returns
returns c =
    agreed (rw c.start.ensures at c.in_ok-head.ensures) c.in_ok-before.ensures c.in_ok-place.ensures c.in_ok-line.ensures
    (c.agrees.ensures.0 c.if-not-agrees.false)
