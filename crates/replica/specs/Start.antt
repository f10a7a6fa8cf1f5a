-- Starting a replica (01, 'Answer numbers').
-- Assumes nothing.
use Rattle.std.specs.Prelude.{ℕ, Bool, not, ◌&&◌, List, [], ◌∷◌, eqb, leb, length, replicate, Result, Ok, Err}
use Rattle.record.specs.declared.Replica.{Replica}
use Rattle.script.specs.Lines.{table_size}
use Rattle.format.specs.declared.answers.Refusal.{Refusal}
use Rattle.format.specs.Answers.{first_of, refusal_number}
use Rattle.effect.specs.Held.{Held, Outcome, unchanged, leaving}

-- "Start: 14, then 1 (lengths only)."
unfoldable pub start_checks : List ℕ → ℕ → List (Bool × ℕ)
start_checks table site =
    (not (leb 1 site && leb site 16), 14) ∷
    (not (eqb (length table) table_size), 1) ∷
    []

-- "Start sets the own site and zeroes rows in use, counts and table."
abbrev pub empty : ℕ → Held
empty site = record { site = site; counts = replicate 16 0; lines = [] }

unfoldable pub start_call : Replica → List ℕ → ℕ → Outcome
start_call r table site = first_of (start_checks table site) (unchanged r table) (leaving 0 (empty site))

-- what a start came to, and the table that it leaves, as 01's number, record and table: refused, the record is as
-- it was
abbrev pub started : Replica → Result Replica Refusal → List ℕ → Outcome
started r (Ok fresh) table = record { answer = 0; replica = fresh; table = table }
started r (Err why) table = record { answer = refusal_number why; replica = r; table = table }
