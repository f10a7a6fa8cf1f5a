-- The lines below `low` are below the place, and line `high`, where there is one, is above it.
use Rattle.std.proofs.Common.{◌≡◌, ◌-◌, ◌≤◌, ◌<◌}
use Rattle.position.specs.Positions.{ids_of}
use Rattle.std.specs.declared.cmp.Ordering.TheVariants.{Greater}
use Rattle.position.specs.Order.{order_of}
use Rattle.script.specs.Lines.{decode_table}
use Rattle.script.proofs.Finding.{place_at, Under}
use Rattle.script.proofs.Script.find.Given as goal

abbrev pub invariant-loop-low : goal.invariant-loop-low
invariant-loop-low l = record {
  between : l.low ≤ l.high;
  inside : l.high ≤ l.fn.self.replica.rows;
  below : Under (ids_of l.place) l.low (decode_table l.fn.self.replica.rows l.fn.self.table.now);
  above : l.high < l.fn.self.replica.rows → order_of (place_at (decode_table l.fn.self.replica.rows l.fn.self.table.now) l.high) (ids_of l.place) ≡ Greater;
}

-- how many lines are left between
abbrev pub decreases-loop-low : goal.decreases-loop-low
decreases-loop-low l = l.high - l.low
