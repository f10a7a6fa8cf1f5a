-- `struck` meets its contract: the number is read behind its count byte.
-- Assumes nothing.
use Rattle.reader.proofs.Sections.{struck_found}
use Rattle.reader.proofs.cursor.Cursor.struck.Goals as goal

pub returns : goal.returns
returns c = struck_found c.in_ok-count.ensures c.in_ok-number.ensures
