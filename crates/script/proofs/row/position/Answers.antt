-- Each turn reads the next identifier.
use Rattle.std.proofs.Common.{◌≡◌, ℕ, ◌+◌, ◌-◌, ◌*◌, ◌++◌, List, length, take, drop, get_or, replicate, sym, ap, ◌∙◌, arith}
use lib.Seq.{take_all}
use Rattle.position.specs.Positions.{identifier, pad, position_of}
use Rattle.rows.proofs.Bytes.{copied_more, drop-replicate}
use Rattle.script.specs.Lines.{identifiers_of, used_of}
use Rattle.script.proofs.Identifiers.{identifiers_length, identifier_at}
use Rattle.script.proofs.row.position.Goals as goal

-- all are read
ids_all : (row : List ℕ) (i : ℕ) → i ≡ used_of row
    → take i (identifiers_of row) ++ drop i (replicate 8 pad) ≡ (position_of (identifiers_of row)).ids
ids_all row i e =
    let read = identifiers_of row in
    let all : take i read ≡ read = take_all i read (omega (arith, identifiers_length row)) in
    let pads : drop i (replicate 8 pad) ≡ replicate (8 - length read) pad =
    drop-replicate pad i 8 ∙ ap (λ (n : ℕ). replicate (8 - n) pad) (e ∙ sym (identifiers_length row)) in
    rw (all, pads)

pub loop-i-preserved : goal.loop-i-preserved
loop-i-preserved c =
    let row = c.args.row.now in
    let at = c.loop-i in
    let site = get_or row (3 + 3 * at.i) 0 in
    let id : identifier c.read.result site ≡ get_or (identifiers_of row) at.i pad =
    ap (λ (x : ℕ). identifier x site) c.read.ensures ∙ sym (identifier_at row at.i (omega arith)) in
    copied_more (identifiers_of row) (replicate 8 pad) at.i pad at.ids
    (identifier c.read.result site) (omega (arith, identifiers_length row)) (omega arith) at.invariant id

pub returns : goal.returns
returns c =
    let row = c.args.row.now in
    let ids : c.loop-i.ids ≡ (position_of (identifiers_of row)).ids =
    c.loop-i.invariant ∙ ids_all row c.loop-i.i (omega arith) in
    λ d. record { used = sym (identifiers_length row) d; ids = ids d }
