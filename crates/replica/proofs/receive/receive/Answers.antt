-- Past the checks of `receive` the replica takes the patch; and the answers that come last, behind all its tests.
-- Assumes nothing.
use Rattle.std.proofs.Common.{sym, ap, ◌∙◌, rules}
use Rattle.std.specs.Result.{result_ok}
use Rattle.format.specs.Answers.{first_of}
use Rattle.format.proofs.Checked.{Passed}
use Rattle.reader.specs.Read.{read_one}
use Rattle.reader.proofs.Taken.{some_taken}
use Rattle.replica.specs.Receive.{receive_checks, receive_call}
use Rattle.replica.proofs.Accepted.{accepted_takes}
use Rattle.replica.proofs.Tests.{decisions}
use Rattle.replica.proofs.receive.receive.Goals as goal

pub apply-requires : goal.apply-requires
unfolding receive_checks
apply-requires c =
    let read = some_taken (read_one c.args.bytes.now) _ (sym c.read_one.ensures ∙ c.ok_or.ensures.ok_part ∙ ap result_ok c.in_ok-reading.was) in
    let passed : Passed (receive_checks c.args.r c.args.table.now (read_one c.args.bytes.now)) = search (rules, decisions, read) in
    let accepted = accepted_takes _ _ _ passed in
    record { sound = accepted.0; takes = rw read.0 accepted.1; place = c.find-found.ensures }

pub returns-then-taken : goal.returns-then-taken
unfolding receive_call receive_checks first_of
returns-then-taken c = search (rules, decisions, some_taken)

pub returns-then-no_room : goal.returns-then-no_room
unfolding receive_call receive_checks first_of
returns-then-no_room c = search (rules, decisions, some_taken)

pub returns : goal.returns
unfolding receive_call receive_checks first_of
returns c = search (rules, decisions, some_taken)
