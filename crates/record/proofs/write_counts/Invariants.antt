-- The counts passed are written.
use Rattle.std.proofs.Common.{◌≡◌, take}
use Rattle.rows.specs.Numbers.{bytes_of}
use Rattle.rows.specs.Rows.{flat, written}
use Rattle.record.proofs.write_counts.Given as goal

abbrev pub invariant-loop-i : goal.invariant-loop-i
invariant-loop-i l = l.s ≡ written 3 (flat (bytes_of 4) (take l.i l.fn.counts)) l.fn.s
