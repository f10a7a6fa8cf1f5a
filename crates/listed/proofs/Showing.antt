-- What is left to show, from an identifier of a position on or from a row on: each turn puts in the next one,
-- and behind the last nothing is left.
-- Assumes nothing.
use Prim.Native.Nat.{ℕ, zero, suc, ◌+◌, ◌*◌, ◌<◌, ◌≤◌}
use native.Mathlib.Numerals.{add-one}
use native.Mathlib.Omega.{arith}
use mathlib.Core.Path.{◌≡◌, refl}
use mathlib.Core.List.{List, [], ◌∷◌, ◌++◌}
use lib.ListN.{length, drop, get_or, drop_of_length-le}
use lib.Seq.{drop-cons}
use Rattle.position.specs.declared.Identifier.{Identifier}
use Rattle.position.specs.declared.Position.{Position}
use Rattle.position.specs.Positions.{pad, ids_of, position_of}
use Rattle.position.proofs.Ids.{position_ids}
use Rattle.rows.specs.Rows.{flat}
use Rattle.rows.proofs.Bytes.{rest_lent}
use Rattle.script.specs.Lines.{Line, no_line, row_size, identifiers_of, number_of, text_of, decode_row, row_at, decode_table}
use Rattle.script.proofs.Tables.{line_at, lines_length}
use Rattle.script.proofs.Lent.{lent_row}
use Rattle.listed.specs.Text.{ascii, decimal, line_feed, identifier_text, position_text, row_line, from_place, rows_text}

-- The identifiers of a position.

abbrev comma : List ℕ
comma = ascii ","

-- what is left from identifier i on: a comma stands before each but the first
abbrev pub identifiers_left : List Identifier → ℕ → List ℕ
identifiers_left ids zero = position_text ids
identifiers_left ids (suc i) = flat (λ (j : Identifier). comma ++ identifier_text j) (drop (suc i) ids)

-- the first identifier, and what is left behind it
pub first_left : (ids : List Identifier) (i : ℕ) → i < length ids → i ≤ 0
    → identifiers_left ids i ≡ identifier_text (get_or ids i pad) ++ identifiers_left ids (i + 1)
unfolding position_text
first_left [] i inside first = absurd (omega arith)
first_left (x ∷ ids) zero inside first = refl
first_left (x ∷ ids) (suc i) inside first = absurd (omega arith)

-- a later one behind a comma, and what is left behind it
pub next_left : (ids : List Identifier) (i : ℕ) → i < length ids → 0 < i
    → identifiers_left ids i ≡ (comma ++ identifier_text (get_or ids i pad)) ++ identifiers_left ids (i + 1)
unfolding flat
next_left ids zero inside next = absurd (omega arith)
next_left ids (suc i) inside next = rw (add-one, drop-cons ids (suc i) pad inside)

-- behind the last, nothing
pub no_identifiers : (ids : List Identifier) (i : ℕ) → length ids ≤ i → identifiers_left ids i ≡ []
unfolding position_text flat
no_identifiers [] zero h = refl
no_identifiers (x ∷ ids) zero h = absurd (omega arith)
no_identifiers ids (suc i) h = rw (drop_of_length-le ids h)

-- The rows.

-- what is left from row k on
abbrev pub rows_left : List Line → ℕ → List ℕ
rows_left lines k = from_place row_line (suc k) (drop k lines)

-- all of it is the number of rows, and then the rows
pub rows_whole : (n : ℕ) (t : List ℕ) → let lines = decode_table n t in
    rows_text lines ≡ ascii "rows " ++ (decimal n ++ (line_feed ++ rows_left lines 0))
unfolding rows_text
rows_whole n t = rw (lines_length n t)

-- what is read of row k is line k
line_read : (n k : ℕ) (t : List ℕ) → k < n → (p : Position) (number : ℕ) (text : List ℕ)
    → p ≡ position_of (identifiers_of (lent_row t k)) → number ≡ number_of (lent_row t k) → text ≡ text_of (row_at t k)
    → record { position = ids_of p; number = number; text = text } ≡ get_or (decode_table n t) k no_line
unfolding decode_row
line_read n k t h p number text e f g =
    let lent : lent_row t k ≡ row_at t k = rest_lent (k * row_size) t in
    rw (line_at n k t h, e, f, g, lent, position_ids (identifiers_of (row_at t k)))

-- its line, and what is left behind it
pub next_row : (n k : ℕ) (t : List ℕ) → k < n → (p : Position) (number : ℕ) (text : List ℕ)
    → p ≡ position_of (identifiers_of (lent_row t k)) → number ≡ number_of (lent_row t k) → text ≡ text_of (row_at t k)
    → let lines = decode_table n t in
    rows_left lines k
    ≡ row_line (k + 1) (record { position = ids_of p; number = number; text = text }) ++ rows_left lines (k + 1)
unfolding from_place
next_row n k t h p number text e f g =
    rw (line_read n k t h p number text e f g, add-one, drop-cons (decode_table n t) k no_line (omega (arith, lines_length n t)))

-- behind the last row, nothing
pub no_rows : (n k : ℕ) (t : List ℕ) → n ≤ k → rows_left (decode_table n t) k ≡ []
unfolding from_place
no_rows n k t h =
    let none : length (decode_table n t) ≤ k = omega (arith, lines_length n t) in
    rw (drop_of_length-le (decode_table n t) none)
