-- Where a position stands among the lines (01, 'Answer numbers': "a row has this position already",
-- "Rows count from 0").
-- Assumes nothing.
use Rattle.std.specs.Prelude.{suc, List, [], ◌∷◌}
use Rattle.position.specs.declared.Identifier.{Identifier}
use Rattle.std.specs.declared.cmp.Ordering.{Ordering}
use Rattle.std.specs.declared.cmp.Ordering.TheVariants.{Less, Equal, Greater}
use Rattle.position.specs.Order.{order_of}
use Rattle.script.specs.declared.table.Found.{Found}
use Rattle.script.specs.declared.table.Found.TheVariants.{Row, Gap}
use Rattle.script.specs.Lines.{Line}

-- one row further on
abbrev pub further : Found → Found
further (Row k) = Row (suc k)
further (Gap k) = Gap (suc k)

-- a line below: it stands further on; the same: here; above: it would stand here
abbrev pub against : Ordering → Found → Found
against Less rest = further rest
against Equal rest = Row 0
against Greater rest = Gap 0

-- the row that has the position; where none has, the row where it would stand
unfoldable pub find_in : List Identifier → List Line → Found
find_in p [] = Gap 0
find_in p (l ∷ ls) = against (order_of l.position p) (find_in p ls)
