-- Where bytes are left, the first patch is a front of them, and the rest is shorter.
use Rattle.std.proofs.Common.{◌<◌, length, ap, arith}
use Rattle.std.proofs.lemmas.Grind.{common_steps}
use Rattle.listed.proofs.Cuts.{no_patches, size_most, patches_from}
use Rattle.listed.proofs.patches.PatchesIterator.next.Goals as goal

pub returns-then-is_empty-clause-steps : goal.returns-then-is_empty-clause-steps
returns-then-is_empty-clause-steps c =
    let none = no_patches c.args.self.now.0.now (grind (arith, common_steps)) in (none, none)

pub split_at-requires : goal.split_at-requires
split_at-requires c = size_most _ _ c.first_in.ensures

pub returns-clause-steps : goal.returns-clause-steps
returns-clause-steps c =
    let some : 0 < length c.args.self.now.0.now = grind (arith, common_steps) in
    rw (c.split_at.ensures.front, c.split_at.ensures.back) (patches_from c.args.self.now.0.now c.first_in.result c.first_in.ensures some)

pub returns-clause-goes : goal.returns-clause-goes
returns-clause-goes c =
    let some : 0 < length c.args.self.now.0.now = grind (arith, common_steps) in
    let fewer = ap length (patches_from c.args.self.now.0.now c.first_in.result c.first_in.ensures some) in
    record { on = λ _. (tt, tt, rw c.split_at.ensures.back (omega (arith, fewer))); keeps = tt; rests = λ _. tt }
