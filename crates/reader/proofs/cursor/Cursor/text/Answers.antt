-- `text` meets its contract: a length, then as many bytes, with zeros behind them.
-- Assumes nothing.
use Rattle.std.proofs.Common.{arith}
use Rattle.reader.proofs.Composed.{cut}
use Rattle.reader.proofs.Sections.{text_without_count, text_short, text_found}
use Rattle.reader.proofs.cursor.Cursor.text.Goals as goal

pub returns-in_err-count : goal.returns-in_err-count
returns-in_err-count c = rw c.from_residual.ensures (text_without_count c.in_err-count.ensures)

pub returns-in_err-bytes : goal.returns-in_err-bytes
returns-in_err-bytes c =
    rw c.from_residual-in_err-bytes.ensures
    (text_short c.in_ok-count.ensures (omega (arith, c.in_err-bytes.ensures.cases, c.from-length.ensures)))

pub returns : goal.returns
returns c =
    let split = c.in_ok-bytes.ensures.cases in
    rw c.from-length.ensures
    (text_found c.in_ok-count.ensures c.in_ok-bytes.bytes.now
    (cut c.from-length.result c.in_ok-count.count.next.rest.now split.1 split.2)
    (omega (arith, split.3, c.from-length.ensures)) c.copy_front.ensures)
