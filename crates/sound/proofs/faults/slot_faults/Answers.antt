-- Each turn adds the faults of the identifier that starts there.
use Rattle.std.proofs.Common.{◌≡◌, ◌↔◌, ℕ, ◌+◌, ◌-◌, ◌*◌, ◌≤◌, ◌<◌, List, length, get_or, bit_and, bit_or, arith}
use borrow.Rule.Slice.PartMut.{mid_of}
use lib.Bits.{or_lt, and_le_l}
use Rattle.position.specs.Positions.{Proper, identifier}
use Rattle.rows.proofs.Turns.{more, or_clear}
use Rattle.sound.specs.Steps.{SlotFits}
use Rattle.sound.proofs.Masked.{behind_mask, start_mask, behind, at_starts}
use Rattle.sound.proofs.faults.slot_faults.Goals as goal

-- What a turn adds is 0 exactly where the identifier that starts there fits: one mask lets its faults
-- through, the other its site, where it is unused.
here : (row mask : List ℕ) (used j fault : ℕ) → mask ≡ behind_mask → used ≤ 8 → j < 32
    → fault < 256 → get_or row (j + 3) 0 < 256
    → (fault ≡ 0) ↔ Proper (identifier (get_or row (j + 1) 0 * 256 + get_or row (j + 2) 0) (get_or row (j + 3) 0))
    → (bit_and (bit_or fault (bit_and (get_or row (j + 3) 0) (get_or (mid_of (48 - 3 * used) (length mask - (48 - 3 * used)) mask) j 0))) (get_or start_mask j 0) ≡ 0)
    ↔ SlotFits used row j
here row mask used j fault m most less small small_site proper =
    let site = get_or row (j + 3) 0 in
    let tail = bit_and site (get_or (mid_of (48 - 3 * used) (length mask - (48 - 3 * used)) mask) j 0) in
    let unused = behind mask m site (3 * used) j small_site (omega arith) (omega arith) in
    let seen = at_starts (bit_or fault tail) j (or_lt 8 fault tail small (omega (arith, and_le_l))) less in
    grind (arith, or_clear)

pub loop-j-preserved : goal.loop-j-preserved
loop-j-preserved c =
    let a = c.args in
    let l = c.loop-j in
    let fits = here a.row.now _ a.used l.j _
    c.as_flattened.ensures.value c.requires (omega arith) (omega arith)
    (c.fits-row (l.j + 3)) c.slot_fault-fault.ensures in
    more l.faults _ l.j l.invariant fits
