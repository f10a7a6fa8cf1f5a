-- Each call of the closure answers with the number at its place.
use Rattle.std.proofs.Common.{rules}
use Rattle.record.proofs.Counts.{counts_made}
use Rattle.record.proofs.read_counts.Goals as goal

pub returns : goal.returns
returns c = counts_made c.args.s.now c.from_fn.ensures.items (λ i y q call. search rules)
