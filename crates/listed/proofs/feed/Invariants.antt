-- What is left of the patches, from here, gives what the whole input gives.
use Rattle.std.proofs.Common.{◌+◌}
use Rattle.listed.specs.Steps.{patches_left}
use Rattle.listed.proofs.Feeding.{Left}
use Rattle.listed.proofs.feed.Given as goal

abbrev pub invariant-loop-k : goal.invariant-loop-k
invariant-loop-k l =
    let patches = l.k-iterator in
    Left l.input l.fn.out l.replica l.table (patches.count + 1) (patches_left patches.iter) l.out
