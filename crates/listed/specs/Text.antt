-- Texts and numbers as bytes, and how 01's 'Listing program' writes a patch, a position and a row.
-- Assumes nothing.
use Rattle.std.specs.Prelude.{ℕ, zero, suc, ◌+◌, ◌/◌, ◌%◌, cond, List, [], ◌∷◌, ◌++◌, ltb, length}
use Prim.Native.Char.{code}
use Prim.Native.String.{String, len, char_at}
use Rattle.position.specs.declared.Identifier.{Identifier}
use Rattle.rows.specs.Rows.{flat}
use Rattle.script.specs.Lines.{Line}

-- the bytes of a text, from a place on
abbrev pub codes : ℕ → ℕ → String → List ℕ
codes zero at s = []
codes (suc n) at s = code (char_at s at) ∷ codes n (suc at) s

abbrev pub ascii : String → List ℕ
ascii s = codes (len s) 0 s

-- "One space parts the fields", "each line [..] ends in a line feed"
abbrev pub space : List ℕ
space = ascii " "

abbrev pub line_feed : List ℕ
line_feed = ascii "\n"

-- a digit is its number behind the code of `0`
abbrev pub digit : ℕ → List ℕ
digit n = (code "0" + n) ∷ []

-- a number in decimal: its last digit behind the digits of a tenth of it; at most so many digits
unfoldable pub digits_of : ℕ → ℕ → List ℕ
digits_of zero n = []
digits_of (suc most) n = cond (ltb n 10) (digit n) (digits_of most (n / 10) ++ digit (n % 10))

-- no number has more digits than one more than itself
unfoldable pub decimal : ℕ → List ℕ
decimal n = digits_of (suc n) n

-- "For each patch: its place in the input from 1, and its answer."
unfoldable pub patch_line : ℕ → ℕ → List ℕ
patch_line place answer = decimal place ++ (space ++ (decimal answer ++ line_feed))

-- "its position as integer.site joined by commas"
unfoldable pub identifier_text : Identifier → List ℕ
identifier_text i = decimal i.integer ++ (ascii "." ++ decimal i.site)

unfoldable pub position_text : List Identifier → List ℕ
position_text [] = []
position_text (i ∷ is) = identifier_text i ++ flat (λ (j : Identifier). ascii "," ++ identifier_text j) is

-- "each row: its place from 1, its position [..], its number, its text. One space parts the fields, also
-- before an empty text"
unfoldable pub row_line : ℕ → Line → List ℕ
row_line place l =
    decimal place ++ (space ++
    (position_text l.position ++ (space ++
    (decimal l.number ++ (space ++
    (l.text ++ line_feed))))))

-- the line of each, one behind the other, from a place on
unfoldable pub from_place {ℓ} : {A : Type ℓ} → (ℕ → A → List ℕ) → ℕ → List A → List ℕ
from_place line place [] = []
from_place line place (x ∷ xs) = line place x ++ from_place line (suc place) xs

-- "Then `rows` and the number. Then each row"
unfoldable pub rows_text : List Line → List ℕ
rows_text lines = ascii "rows " ++ (decimal (length lines) ++ (line_feed ++ from_place row_line 1 lines))
