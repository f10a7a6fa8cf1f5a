-- A host's call made of three: the record is read, the operation made on it, and the record that is left
-- written back. So it gives what its definition says of the bytes.
-- Assumes nothing.
use Prim.Native.Nat.{ℕ}
use mathlib.Core.Path.{◌≡◌, ap, ◌∙◌}
use mathlib.Core.List.{List}
use Rattle.record.specs.declared.Replica.{Replica}
use Rattle.record.specs.Records.{record_read, record_written}
use Rattle.effect.specs.Held.{Outcome}
use Rattle.edits.specs.Own.{OwnOutcome}
use Rattle.host.specs.Calls.{called, own_called}

module _ (state : List ℕ) {after : List ℕ} {r : Replica} where
  pub is_called : (operation : Replica → Outcome) {o : Outcome} → r ≡ record_read state → o ≡ operation r
      → after ≡ record_written o.replica state
      → record { answer = o.answer; state = after; table = o.table } ≡ called state (operation (record_read state))
  is_called operation {o = o} read made back =
      ap (λ (s : List ℕ). record { answer = o.answer; state = s; table = o.table }) back
      ∙ ap (called state) (made ∙ ap operation read)

  -- the same of an own edit
  pub is_own_called : (operation : Replica → OwnOutcome) {o : OwnOutcome} → r ≡ record_read state → o ≡ operation r
      → after ≡ record_written o.replica state
      → record { answer = o.answer; state = after; table = o.table; patch = o.buffer; written = o.length }
      ≡ own_called state (operation (record_read state))
  is_own_called operation {o = o} read made back =
      ap (λ (s : List ℕ). record { answer = o.answer; state = s; table = o.table; patch = o.buffer; written = o.length }) back
      ∙ ap (own_called state) (made ∙ ap operation read)
