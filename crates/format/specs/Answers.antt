-- Answers (01, 'Answer numbers', 'Orders of checks'): the number of each, and a list of grounds for refusal,
-- each with its number, in the order in which they are looked at.
-- Assumes nothing.
use Rattle.std.specs.Prelude.{ℕ, Bool, true, false, List, [], ◌∷◌, Result, Ok, Err}
use Rattle.format.specs.declared.answers.Success.{Success}
use Rattle.format.specs.declared.answers.Success.TheVariants.{Done, Gone}
use Rattle.format.specs.declared.answers.Refusal.{Refusal}
use Rattle.format.specs.declared.answers.Refusal.TheVariants.{Unsound, Malformed, OwnAhead, Received, Early, PositionTaken, Full, NoRow, LongText, ShortBuffer, NumbersSpent, NoPlace, PlaceTaken, NoSite}

-- "0: done", "15: done: the struck line had gone before"
abbrev pub success_number : Success → ℕ
success_number Done = 0
success_number Gone = 15

-- the numbers of the refusals, in 01's order
abbrev pub refusal_number : Refusal → ℕ
refusal_number Unsound = 1
refusal_number Malformed = 2
refusal_number OwnAhead = 3
refusal_number Received = 4
refusal_number Early = 5
refusal_number PositionTaken = 6
refusal_number Full = 7
refusal_number NoRow = 8
refusal_number LongText = 9
refusal_number ShortBuffer = 10
refusal_number NumbersSpent = 11
refusal_number NoPlace = 12
refusal_number PlaceTaken = 13
refusal_number NoSite = 14

abbrev pub answer_number : Result Success Refusal → ℕ
answer_number (Ok done) = success_number done
answer_number (Err why) = refusal_number why

-- the number of an answer of which every success is 0, "done"
abbrev pub done_number : {A : Type 0} → Result A Refusal → ℕ
done_number (Ok x) = 0
done_number (Err why) = refusal_number why

-- "0 for each number that a done call would give": a length, where a call gives one
abbrev pub length_given : Result ℕ Refusal → ℕ
length_given (Ok n) = n
length_given (Err why) = 0

-- what a call comes to: the first ground that holds refuses it with its number; where none holds, it is
-- done
unfoldable pub first_of {ℓ} : {A : Type ℓ} → List (Bool × ℕ) → (ℕ → A) → A → A
first_of [] refused done = done
first_of ((true, n) ∷ checks) refused done = refused n
first_of ((false, n) ∷ checks) refused done = first_of checks refused done
