-- What the listing program writes (01, 'Listing program').
-- Assumes nothing.
use Rattle.std.specs.Prelude.{ℕ, zero, suc, cond, List, [], ◌∷◌, ◌++◌, eqb, ltb, length, take, drop}
use Rattle.script.specs.Lines.{Line, decode_table}
use Rattle.reader.specs.Read.{read_first}
use Rattle.effect.specs.Held.{Outcome, leaving}
use Rattle.replica.specs.Start.{empty}
use Rattle.replica.specs.Receive.{receive_call}
use Rattle.listed.specs.Text.{ascii, patch_line, from_place, rows_text}

-- "up to 65,536 bytes of patches"
abbrev pub most_input : ℕ
most_input = 65536

-- the bytes of the first patch; where they begin with none, all bytes, which answer 2
unfoldable pub first_in : List ℕ → List ℕ
first_in s = cond (eqb (read_first s).used 0) s (take (read_first s).used s)

-- the patches of an input, one behind the other: at most so many
unfoldable pub cut : ℕ → List ℕ → List (List ℕ)
cut zero s = []
cut (suc most) [] = []
cut (suc most) (b ∷ s) = first_in (b ∷ s) ∷ cut most (drop (length (first_in (b ∷ s))) (b ∷ s))

-- each has a byte at least
abbrev pub patches_in : List ℕ → List (List ℕ)
patches_in input = cut (length input) input

-- "a fresh replica of site 16"
abbrev pub fresh : Outcome
fresh = leaving 0 (empty 16)

-- what it comes to with each patch fed to it, "stopping after the first answer 2"
unfoldable pub fed : Outcome → List (List ℕ) → List Outcome
fed o [] = []
fed o (p ∷ ps) =
    let next : Outcome = receive_call o.replica o.table p in
    next ∷ cond (eqb next.answer 2) [] (fed next ps)

-- what it comes to in the end
unfoldable pub after_all : Outcome → List Outcome → Outcome
after_all o [] = o
after_all o (next ∷ rest) = after_all next rest

abbrev pub lines_in : Outcome → List Line
lines_in o = decode_table o.replica.rows o.table

-- a line for each patch, then the rows
unfoldable pub report : List Outcome → List ℕ
report outcomes =
    from_place (λ (place : ℕ) (o : Outcome). patch_line place o.answer) 1 outcomes ++
    rows_text (lines_in (after_all fresh outcomes))

-- "(longer: it writes `too long` and stops)"
unfoldable pub listing : List ℕ → List ℕ
listing input = cond (ltb most_input (length input)) (ascii "too long\n") (report (fed fresh (patches_in input)))
