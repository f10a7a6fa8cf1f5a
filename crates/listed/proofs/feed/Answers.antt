-- The next patch is received, and its line put out.
use Rattle.std.proofs.Common.{◌≡◌, inl, refl, arith, rules}
use Rattle.std.proofs.lemmas.Grind.{common_steps}
use Rattle.format.specs.Answers.{answer_number}
use Rattle.listed.proofs.Cuts.{patches_most}
use Rattle.listed.proofs.Feeding.{begins, not_refused, ends, goes_on, stops}
use Rattle.listed.proofs.feed.Goals as goal

pub unwrap-requires : goal.unwrap-requires
unwrap-requires c = not_refused _ _ c.start.result _ (search rules) c.start.ensures refl

-- there are few enough patches to count them
pub loop-k-init-derived : goal.loop-k-init-derived
loop-k-init-derived c =
    rw (c.into_iter-k-iterator.ensures.into_iter_gives, c.enumerate-k-items.ensures.source, c.enumerate-k-items.ensures.count)
    ((tt, tt, inl (omega (arith, patches_most c.args.input.now))), tt)

pub loop-k-init : goal.loop-k-init
loop-k-init c =
    rw (c.into_iter-k-iterator.ensures.into_iter_gives, c.enumerate-k-items.ensures.source, c.enumerate-k-items.ensures.count)
    (begins _ _ _ _ _ (search rules) c.start.ensures)

pub loop-k-preserved : goal.loop-k-preserved
loop-k-preserved c =
    let step = c.in-Some.ensures.steps in
    let other : answer_number c.receive-answer.result ≡ 2 → ⊥ = λ e. absurd (grind (arith, common_steps)) in
    rw step.2
    (goes_on c.loop-k.invariant step.0 c.receive-answer.ensures (rw step.1 at c.patch_line.ensures) other)

pub returns-in-None : goal.returns-in-None
returns-in-None c = ends c.loop-k.invariant c.in-None.ensures.steps.0.0

pub returns-then-eq : goal.returns-then-eq
returns-then-eq c =
    let step = c.in-Some.ensures.steps in
    let malformed : answer_number c.receive-answer.result ≡ 2 = grind (arith, common_steps) in
    stops c.loop-k.invariant step.0 c.receive-answer.ensures (rw step.1 at c.patch_line.ensures) malformed
