-- What the programs write in the place of a `{}`: bytes in hexadecimal, and counts.
-- Assumes nothing.
use Rattle.std.specs.Prelude.{ℕ, ◌/◌, ◌%◌, true, cond, eqb, List, [], ◌∷◌, ◌++◌}
use Rattle.std.specs.Fmt.{decimal, digit_glyph}
use Rattle.std.specs.List.{flat_map, enumerate_from}

-- a byte: two digits, those above 9 capital
abbrev pub byte_text : ℕ → List ℕ
byte_text b = digit_glyph true (b / 16) ∷ digit_glyph true (b % 16) ∷ []

abbrev pub hex_text : List ℕ → List ℕ
hex_text bytes = flat_map byte_text bytes

-- a site with its count: nothing where the count is zero, else a space and site:count
abbrev pub count_text : ℕ × ℕ → List ℕ
count_text p = cond (eqb p.1 0) [] (32 ∷ (decimal p.0 ++ (58 ∷ decimal p.1)))

-- counts, that of site 1 first
abbrev pub counts_text : List ℕ → List ℕ
counts_text counts = flat_map count_text (enumerate_from 1 counts)
