-- Reading a row: where it answers 0, record and table are sound, the row is in use, and its text is handed back.
-- Assumes nothing.
use Prim.Native.Nat.{ℕ, ◌<◌}
use mathlib.Core.Path.{◌≡◌, refl}
use mathlib.Core.List.{List, []}
use borrow.Author.Tests.{leb-false}
use Rattle.record.specs.declared.Replica.{Replica}
use Rattle.script.specs.Lines.{text_of, row_at}
use Rattle.script.specs.Sound.{Sound}
use Rattle.script.proofs.Decided.{sound?}
use Rattle.format.proofs.Checked.{answer_done}
use Rattle.replica.specs.Read.{TextRead, read_checks, read_call}
use Rattle.replica.proofs.Tests.{passed_is}

module _ (r : Replica) (table : List ℕ) (row : ℕ) where
  -- what the answer 0 tells
  pub record RowRead : Type 0 where
    pub sound : Sound r table
    pub inside : row < r.rows
    pub outcome : read_call r table row ≡ record { answer = 0; text = text_of (row_at table row) }

  pub read_done : (read_call r table row).answer ≡ 0 → RowRead
  unfolding read_call read_checks
  read_done answered =
      let told = answer_done (λ n. record { answer = n; text = [] }) (record { answer = 0; text = text_of (row_at table row) })
      (λ (o : TextRead). o.answer) (λ n. refl) 0 (read_checks r table row) refl answered in
      record {
        sound = passed_is (sound? r table) told.0.0;
        inside = leb-false r.rows row told.0.1.0;
        outcome = told.1;
      }
