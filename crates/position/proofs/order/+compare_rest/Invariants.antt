-- The measure of `compare_rest`: the number of identifiers of p that are left.
use Rattle.std.proofs.Common.{length}
use Rattle.position.proofs.order.+compare_rest.Given as goal

abbrev pub decreases-compare_rest : goal.decreases-compare_rest
decreases-compare_rest l = length l.p.now
