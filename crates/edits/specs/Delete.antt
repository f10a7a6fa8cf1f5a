-- Deleting a row (01, 'Answer numbers').
-- Assumes nothing.
use Rattle.std.specs.Prelude.{ℕ, Bool, List, [], ◌∷◌, leb, replicate}
use Rattle.position.specs.Positions.{position_of}
use Rattle.record.specs.declared.Replica.{Replica}
use Rattle.script.specs.Lines.{Line, decode_row, row_at}
use Rattle.format.specs.declared.Edit.TheVariants.{Delete}
use Rattle.format.specs.Answers.{first_of}
use Rattle.replica.specs.Grounds.{unsound}
use Rattle.edits.specs.Own.{OwnOutcome, untouched, short, spent, own_patch, own_edit}

-- "Delete: 1, 10, 8, 11." 8: "no such row", "Rows count from 0"
unfoldable pub delete_checks : Replica → List ℕ → ℕ → List ℕ → List (Bool × ℕ)
delete_checks r table row buffer =
    (unsound r table, 1) ∷
    (short buffer, 10) ∷
    (leb r.rows row, 8) ∷
    (spent r, 11) ∷
    []

-- it strikes the line that stands in the row, by its position and its number
unfoldable pub delete_call : Replica → List ℕ → ℕ → List ℕ → OwnOutcome
delete_call r table row buffer =
    let l : Line = decode_row (row_at table row) in
    let p = own_patch r (position_of l.position) (Delete l.number) in
    first_of (delete_checks r table row buffer) (untouched r table buffer)
    (own_edit r table buffer p (replicate 48 0))
