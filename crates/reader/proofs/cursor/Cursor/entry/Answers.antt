-- `entry` meets its contract: site and count are read one behind the other.
-- Assumes nothing.
use Rattle.reader.proofs.Sections.{entry_found}
use Rattle.reader.proofs.cursor.Cursor.entry.Goals as goal

pub returns : goal.returns
returns c = entry_found c.in_ok-site.ensures c.in_ok-count.ensures
