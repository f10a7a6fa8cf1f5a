-- `place` meets its contract: its identifiers are read one behind the other, and put in front of pads.
-- Assumes nothing.
use Rattle.std.proofs.Common.{◌≡◌, ℕ, ◌<◌, List, [], ◌∷◌, ◌++◌, length, refl, ap, subst, ◌∙◌, arith}
use Rattle.std.proofs.Math.ListN.{set}
use Rattle.position.specs.declared.Identifier.{Identifier}
use Rattle.position.specs.Positions.{pad, position_of}
use Rattle.position.proofs.Ids.{next_written}
use Rattle.reader.proofs.Repeated.{first_turn, turn_more, section_none, section_stops, section_ends}
use Rattle.reader.proofs.Placed.{identifiers, place_told}
use Rattle.reader.proofs.cursor.Cursor.place.Goals as goal

-- one identifier more
one_put : (ids : List Identifier) (i : Identifier) (k : ℕ) (xs : List Identifier) → k < 8 → length xs ≡ k → ids ≡ (position_of xs).ids
    → set ids k i ≡ (position_of (xs ++ (i ∷ []))).ids
one_put ids i k xs short e held =
    subst (λ (n : ℕ). set ids n i ≡ (position_of (xs ++ (i ∷ []))).ids) e
    (ap (λ (l : List Identifier). set l (length xs) i) held ∙ next_written xs i (omega arith))

pub returns-in_err-count : goal.returns-in_err-count
returns-in_err-count c = rw c.from_residual.ensures (section_none identifiers (omega arith) place_told c.in_err-count.ensures)

-- the default is the pad
is_pad : (i : Identifier) → (i.integer ≡ 0) × (i.site ≡ 0) → i ≡ pad
is_pad i zero = λ d. record { integer = zero.0 d; site = zero.1 d }

pub loop-i-init : goal.loop-i-init
loop-i-init c = first_turn (rw (is_pad c.default-ids.result c.default-ids.ensures) refl)

pub returns-in_err-id : goal.returns-in_err-id
returns-in_err-id c =
    rw c.from_residual-in_err-id.ensures
    (section_stops identifiers (omega arith) place_told c.in_ok-count.ensures c.loop-i.invariant
    (omega (arith, c.from-used.ensures, c.loop-i-test.true)) c.in_err-id.ensures)

pub bounds-ids-i : goal.bounds-ids-i
bounds-ids-i c = omega (arith, c.from-used.ensures, c.in_ok-count.ensures.fits.1, c.loop-i-test.true)

pub loop-i-preserved : goal.loop-i-preserved
loop-i-preserved c =
    let slot : c.loop-i.i < 8 = omega (arith, c.from-used.ensures, c.in_ok-count.ensures.fits.1, c.loop-i-test.true) in
    turn_more c.loop-i.invariant c.in_ok-id.ensures (λ xs. one_put c.loop-i.ids c.in_ok-id.id.value c.loop-i.i xs slot)

pub returns : goal.returns
returns c =
    section_ends identifiers (omega arith) place_told c.in_ok-count.ensures c.loop-i.invariant
    (omega (arith, c.from-used.ensures, c.loop-i-test.false))
    (λ xs held d. record { used = c.from-used.ensures d; ids = held d })
