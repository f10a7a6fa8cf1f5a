-- `identifier_in` meets its contract: three bytes are those of the identifier that they are.
-- Assumes nothing.
use Rattle.std.proofs.Common.{refl, ◌∙◌, arith}
use Rattle.std.proofs.Math.Seq.{take_all}
use Rattle.script.specs.Lines.{decode_identifier}
use Rattle.script.proofs.Encoded.{identifier_bytes}
use Rattle.reader.proofs.cursor.identifier_in.Goals as goal

pub returns : goal.returns
unfolding decode_identifier
returns c =
    let s = c.args.bytes.now in
    rw c.read.ensures
    (record {
      value = refl;
      bytes = identifier_bytes s (λ i. (c.type_inv.bytes i).fits) (omega arith) ∙ take_all 3 s (omega arith);
    })
