-- What bytes the first patch has, where there is one.
use Rattle.std.proofs.Common.{rules}
use Rattle.listed.proofs.Cuts.{first_length}
use Rattle.listed.proofs.patches.first_in.Goals as goal

pub returns : goal.returns
returns c = first_length c.args.bytes.now c.map_or.result c.read_first.result _ c.read_first.ensures (λ x used. search rules) c.map_or.ensures
