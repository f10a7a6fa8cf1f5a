-- What is behind the text is zero exactly where all of the rest is: a place of the text is one of the rest, counted
-- from the length on.
-- Assumes nothing.
use Rattle.std.proofs.Common.{rules, arith, ◌+◌, ◌-◌}
use Rattle.std.proofs.lemmas.Grind.{common_steps}
use Rattle.format.proofs.rules.text_fits.Goals as goal

pub returns-then-length-le-TEXT : goal.returns-then-length-le-TEXT
returns-then-length-le-TEXT c =
    let n = c.args.length in (
      λ clear. (
        omega arith,
        record {
          size = search rules;
          unused = λ j from below. grind (arith, common_steps, c.all_zero.ensures.0 clear (j - n));
        },
      ),
      λ fits. c.all_zero.ensures.1 (λ j inside. grind (arith, common_steps, fits.1.unused (j + n))),
    )
