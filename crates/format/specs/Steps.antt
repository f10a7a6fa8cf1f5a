-- The rules of specs/WellFormed.antt in the two parts in which they are tested: each field by itself,
-- which the reader does as it goes, and the fields against each other. A law ties them to the whole in
-- proofs/Parts.antt.
-- Assumes nothing.
use Rattle.std.specs.Prelude.{ℕ, ◌-◌, ◌≤◌, ◌≡◌, Bool, true, false, List, ltb, length, get_or}
use Rattle.position.specs.declared.Identifier.{Identifier}
use Rattle.position.specs.declared.Position.{Position}
use Rattle.position.specs.Positions.{pad, ids_of, Proper}
use Rattle.rows.specs.Rows.{Upto}
use Rattle.record.specs.Records.{count_of}
use Rattle.format.specs.declared.Patch.{Patch}
use Rattle.format.specs.WellFormed.{HeadFits, BeforeFits, LineFits, EditAgrees}

-- an identifier of the place: proper where it is used, otherwise the pad
abbrev pub SlotFits : Identifier → Bool → Type 0
SlotFits i true = Proper i
SlotFits i false = i ≡ pad

-- the place by itself, slot by slot
pub record PlaceFits (p : Position) : Type 0 where
  pub least : 1 ≤ p.used
  pub most : p.used ≤ 8
  pub size : length p.ids ≡ 8
  pub slot : Upto 8 (λ k. SlotFits (get_or p.ids k pad) (ltb k p.used))

-- each field by itself
pub record FieldsFit (p : Patch) (text : List ℕ) : Type 0 where
  pub head : HeadFits p.author p.number
  pub before : BeforeFits p.before
  pub place : PlaceFits p.place
  pub line : LineFits p.edit text

-- the fields against each other, and what is left of the place by itself
pub record Agrees (p : Patch) : Type 0 where
  pub own_entry : count_of p.before p.author ≡ p.number - 1
  pub first : (get_or (ids_of p.place) 0 pad).integer ≤ 65534
  pub edit : EditAgrees p p.edit
