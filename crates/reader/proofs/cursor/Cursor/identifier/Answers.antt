-- `identifier` meets its contract: three bytes are tested.
-- Assumes nothing.
use Rattle.std.proofs.Common.{◌∙◌, arith}
use Rattle.position.specs.Positions.{Proper}
use Rattle.rows.proofs.Answers.{no_answer}
use Rattle.script.specs.Lines.{encode_identifier}
use Rattle.reader.specs.Steps.{Reads}
use Rattle.reader.proofs.Codes.{identifier_field}
use Rattle.reader.proofs.Composed.{too_short, unfit, cut, handed}
use Rattle.reader.proofs.cursor.Cursor.identifier.Goals as goal

pub returns-in_err-bytes : goal.returns-in_err-bytes
returns-in_err-bytes c =
    rw c.from_residual.ensures (too_short 3 (λ v _. identifier_field.width v) (omega (arith, c.in_err-bytes.ensures.cases)))

pub returns : goal.returns
returns c =
    let s = c.args.self.rest.now in
    let split = c.in_ok-bytes.ensures.cases in
    let value = c.identifier_in-value.ensures in
    handed (Reads encode_identifier Proper s) c.identifier_fits.result c.then_some.ensures
    (λ good. record { fits = c.identifier_fits.ensures.0 good; bytes = cut 3 s (value.bytes ∙ split.1) split.2 })
    (λ wrong. unfit identifier_field split.1 value.value (λ fits. no_answer c.identifier_fits.result wrong (c.identifier_fits.ensures.1 fits)))
