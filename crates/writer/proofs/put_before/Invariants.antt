-- The entries of the counts passed are written.
-- Assumes nothing.
use Rattle.std.proofs.Common.{◌≡◌, ◌≤◌, length}
use Rattle.rows.specs.Rows.{flat, written}
use Rattle.format.specs.Patches.{encode_entry}
use Rattle.writer.proofs.Before.{entries_to}
use Rattle.writer.proofs.put_before.Given as goal

abbrev pub invariant-loop-i : goal.invariant-loop-i
invariant-loop-i l = record {
  few : l.entries ≤ l.i;
  number : l.entries ≡ length (entries_to l.i l.count-items);
  bytes : l.part ≡ written 1 (flat encode_entry (entries_to l.i l.count-items)) l.initial.part;
}
