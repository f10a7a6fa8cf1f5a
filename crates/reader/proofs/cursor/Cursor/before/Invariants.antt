-- The entries read so far stand behind the count, and their counts are put in.
use Rattle.std.proofs.Common.{◌≡◌, ◌≤◌, replicate}
use Rattle.reader.specs.Read.{entered}
use Rattle.reader.proofs.Repeated.{Turn}
use Rattle.reader.proofs.Counts.{entries}
use Rattle.reader.proofs.cursor.Cursor.before.Given as goal

abbrev pub invariant-loop : goal.invariant-loop
invariant-loop l =
    record {
      below : l.last ≤ 16;
      read : Turn entries (λ es. l.value ≡ entered (replicate 16 0) es) l.initial.next.rest.now l.counter l.last l.next.rest.now;
    }
