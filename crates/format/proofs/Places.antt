-- The identifiers of a place that fits: as many as are used, where they stand, each proper, and pads
-- behind them.
-- Assumes nothing.
use Prim.Native.Nat.{ℕ, ◌-◌, ◌≤◌, ◌<◌}
use native.Mathlib.Decide.{dec_lt}
use native.Mathlib.Omega.{arith}
use mathlib.Core.Path.{◌≡◌, sym, ap, subst, ◌∙◌}
use mathlib.Core.Logic.{by_cases}
use lib.Dec.{ltb}
use lib.ListN.{length, get_or}
use borrow.Author.Tests.{lt-ltb, le-ltb}
use Rattle.position.specs.declared.Identifier.{Identifier}
use Rattle.position.specs.declared.Position.{Position}
use Rattle.position.specs.Positions.{pad, ids_of, last_of, Proper}
use Rattle.position.proofs.Ids.{ids_length, next_id}
use Rattle.format.specs.Steps.{SlotFits, PlaceFits}

-- a slot fits: proper where it is used, the pad where it is not
pub slot_fits : (i : Identifier) (k used : ℕ) → (k < used → Proper i) → (used ≤ k → i ≡ pad) → SlotFits i (ltb k used)
slot_fits i k used proper unused =
    by_cases (dec_lt k used)
    (λ inside. subst (SlotFits i) (sym (lt-ltb k used inside)) (proper inside))
    (λ outside.
    let from : used ≤ k = omega arith in
    subst (SlotFits i) (sym (le-ltb k used from)) (unused from))

module _ (p : Position) (fits : PlaceFits p) where
  -- it has as many identifiers as are used
  pub ids_used : length (ids_of p) ≡ p.used
  ids_used = ids_length p fits.size ∙ omega (arith, fits.most)

  -- each stands at its place
  pub id_at : (k : ℕ) → k < p.used → get_or (ids_of p) k pad ≡ get_or p.ids k pad
  id_at k used = next_id p k (omega (arith, ids_used))

  -- the first at the front
  pub first_at : get_or (ids_of p) 0 pad ≡ get_or p.ids 0 pad
  first_at = id_at 0 fits.least

  -- the last before what is unused
  pub last_at : last_of (ids_of p) ≡ get_or p.ids (p.used - 1) pad
  last_at =
      ap (λ (n : ℕ). get_or (ids_of p) (n - 1) pad) ids_used ∙ id_at (p.used - 1) (omega (arith, fits.least))

  -- what is used is proper
  pub used_proper : (k : ℕ) → k < p.used → Proper (get_or p.ids k pad)
  used_proper k used =
      subst (SlotFits (get_or p.ids k pad)) (lt-ltb k p.used used) (fits.slot k (omega (arith, fits.most)))

  -- what is unused is the pad
  pub unused_pad : (k : ℕ) → p.used ≤ k → k < 8 → get_or p.ids k pad ≡ pad
  unused_pad k from below = subst (SlotFits (get_or p.ids k pad)) (le-ltb k p.used from) (fits.slot k below)
