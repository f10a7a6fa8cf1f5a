-- `number` meets its contract: four bytes are tested.
-- Assumes nothing.
use Rattle.std.proofs.Common.{◌∙◌, arith}
use Rattle.rows.specs.Numbers.{bytes_of}
use Rattle.rows.proofs.Answers.{no_answer}
use Rattle.format.specs.WellFormed.{NumberFits}
use Rattle.reader.specs.Steps.{Reads}
use Rattle.reader.proofs.Codes.{count_field}
use Rattle.reader.proofs.Composed.{too_short, unfit, cut, handed}
use Rattle.reader.proofs.cursor.Cursor.number.Goals as goal

pub returns-in_err-bytes : goal.returns-in_err-bytes
returns-in_err-bytes c =
    rw c.from_residual.ensures (too_short 4 (λ v _. count_field.width v) (omega (arith, c.in_err-bytes.ensures.cases)))

pub returns : goal.returns
returns c =
    let s = c.args.self.rest.now in
    let split = c.in_ok-bytes.ensures.cases in
    let value = c.number_in-value.ensures in
    handed (Reads (bytes_of 4) NumberFits s) c.number_fits.result c.then_some.ensures
    (λ good. record { fits = c.number_fits.ensures.0 good; bytes = cut 4 s (value.bytes ∙ split.1) split.2 })
    (λ wrong. unfit count_field split.1 value.value (λ fits. no_answer c.number_fits.result wrong (c.number_fits.ensures.1 fits)))
