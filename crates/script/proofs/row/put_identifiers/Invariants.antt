-- The identifiers passed are written.
use Rattle.std.proofs.Common.{◌≡◌, take}
use Rattle.rows.specs.Rows.{flat, written}
use Rattle.script.specs.Lines.{encode_identifier}
use Rattle.script.proofs.row.put_identifiers.Given as goal

abbrev pub invariant-loop-i : goal.invariant-loop-i
invariant-loop-i l = l.part ≡ written 1 (flat encode_identifier (take l.i l.ids)) l.initial.part
