-- The sections stand one behind the other.
-- Assumes nothing.
use Rattle.std.proofs.Common.{arith}
use Rattle.format.specs.Patches.{kind_of, head_bytes}
use Rattle.writer.specs.Put.{Put}
use Rattle.writer.proofs.Behind.{put_behind, patch_parts, patch_most}
use Rattle.writer.proofs.put_patch.Goals as goal

pub returns : goal.returns
returns c =
    let a = c.args in
    let p = a.p in
    let most = patch_most p a.text.now c.requires.0 in
    let one : Put (head_bytes (kind_of p.edit) p.author p.number) a.buffer.now c.put_head-before_at.result c.put_head-before_at.new.part =
    rw c.kind.ensures at c.put_head-before_at.ensures in
    let two = put_behind _ _ _ _ _ _ _ (omega (arith, most, one.0)) one c.put_before.ensures in
    let three = put_behind _ _ _ _ _ _ _ (omega (arith, most, two.0)) two c.put_place.ensures in
    rw patch_parts (put_behind _ _ _ _ _ _ _ (omega (arith, most, three.0)) three c.put_line.ensures)
