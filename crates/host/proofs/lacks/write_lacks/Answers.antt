-- Each turn writes one site more.
use Rattle.std.proofs.Common.{◌∙◌, arith}
use Rattle.rows.specs.Rows.{flat}
use Rattle.rows.proofs.Bytes.{nothing_written}
use Rattle.host.proofs.Sites.{lack_more, all_lacks}
use Rattle.host.proofs.lacks.write_lacks.Goals as goal

pub loop-i-init : goal.loop-i-init
unfolding flat
loop-i-init c = record { long = c.requires; wrote = nothing_written 0 c.args.res.now }

pub loop-i-preserved : goal.loop-i-preserved
loop-i-preserved c =
    let at = c.loop-i in
    record {
      long = omega arith;
      wrote = c.put_lack.ensures
          ∙ lack_more c.args.sites (omega arith) at.i c.args.res.now at.res (omega arith) (omega arith) at.invariant.wrote;
    }

pub returns : goal.returns
returns c =
    c.loop-i.invariant.wrote ∙ all_lacks c.args.sites (omega arith) c.loop-i.i c.args.res.now (omega arith) c.requires
