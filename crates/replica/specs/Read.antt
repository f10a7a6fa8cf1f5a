-- Reading a row's text (01, 'Answer numbers').
-- Assumes nothing.
use Rattle.std.specs.Prelude.{ℕ, Bool, List, [], ◌∷◌, leb, Result, Ok, Err}
use Rattle.std.specs.Borrow.{Bor}
use Rattle.record.specs.declared.Replica.{Replica}
use Rattle.script.specs.Lines.{text_of, row_at}
use Rattle.format.specs.declared.answers.Refusal.{Refusal}
use Rattle.format.specs.Answers.{first_of, refusal_number}
use Rattle.replica.specs.Grounds.{unsound}

-- the answer, and the part of the table that is handed back
pub record TextRead : Type 0 where
  pub answer : ℕ
  pub text : List ℕ

-- "Read a row: 1, 8"
unfoldable pub read_checks : Replica → List ℕ → ℕ → List (Bool × ℕ)
read_checks r table row =
    (unsound r table, 1) ∷
    (leb r.rows row, 8) ∷
    []

-- "a refused read hands back an empty part"
unfoldable pub read_call : Replica → List ℕ → ℕ → TextRead
read_call r table row =
    first_of (read_checks r table row) (λ n. record { answer = n; text = [] })
    (record { answer = 0; text = text_of (row_at table row) })

-- what a read came to, as 01's number and part: refused, "an empty part"
abbrev pub text_read : Result (Bor (List ℕ)) Refusal → TextRead
text_read (Ok part) = record { answer = 0; text = part.now }
text_read (Err why) = record { answer = refusal_number why; text = [] }
