-- The edit gives the rows, the table and the answer, and the author's count is one more.
-- Assumes nothing.
use Rattle.effect.specs.Effect.{effect}
use Rattle.effect.proofs.apply.Goals as goal

pub returns : goal.returns
unfolding effect
returns c =
    let left = c.edit_table-changed.ensures in
    λ d. record {
      answer = left.answer d;
      replica = record { site = c.args.r.site; rows = left.rows d; counts = c.raised.ensures d };
      table = left.bytes d;
    }
