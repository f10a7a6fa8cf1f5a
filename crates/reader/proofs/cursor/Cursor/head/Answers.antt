-- `head` meets its contract: kind, author and number are read one behind the other.
-- Assumes nothing.
use Rattle.reader.proofs.Sections.{head_found}
use Rattle.reader.proofs.cursor.Cursor.head.Goals as goal

pub returns : goal.returns
returns c = head_found c.in_ok-kind.ensures c.in_ok-author.ensures c.in_ok-number.ensures
