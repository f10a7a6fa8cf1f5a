-- What is lacked of the sites passed is written.
use Rattle.std.proofs.Common.{◌≡◌, length, map, take}
use Rattle.rows.specs.Rows.{flat, written}
use Rattle.replica.specs.Compare.{lack_given}
use Rattle.host.specs.Calls.{lacks_size, lack_bytes}
use Rattle.host.proofs.lacks.write_lacks.Given as goal

abbrev pub invariant-loop-i : goal.invariant-loop-i
invariant-loop-i l = record {
  long : length l.res ≡ lacks_size;
  wrote : l.res ≡ written 0 (flat lack_bytes (take l.i (map lack_given l.fn.sites))) l.fn.res;
}
