-- The lines of the script and the bytes of the table (01, 'The record and the table').
-- Assumes nothing.
use Rattle.std.specs.Prelude.{ℕ, ◌+◌, ◌*◌, List, [], ◌++◌, length, take, drop, get_or}
use Rattle.position.specs.declared.Identifier.{Identifier}
use Rattle.rows.specs.Numbers.{num_at, bytes_of}
use Rattle.rows.specs.Rows.{filled, slots_of, rows_of}

-- "exactly 39,936 bytes (512 rows of 78)"
abbrev pub table_size : ℕ
table_size = 39936

abbrev pub row_size : ℕ
row_size = 78

-- "A line's identity is its position and the number of the patch that inserted it"; beside them its
-- text
pub record Line : Type 0 where
  pub position : List Identifier
  pub number : ℕ
  pub text : List ℕ

-- what is read where there is no line
abbrev pub no_line : Line
no_line = record { position = []; number = 0; text = [] }

-- "integer (2) and site (1)"
unfoldable pub encode_identifier : Identifier → List ℕ
encode_identifier i = bytes_of 2 i.integer ++ bytes_of 1 i.site

-- "A row: identifiers used (1), eight identifiers of integer (2) and site (1), number (4), text
-- length (1), text (48). What is unused is zero".
unfoldable pub encode_row : Line → List ℕ
encode_row l =
    bytes_of 1 (length l.position) ++
    (slots_of encode_identifier 24 l.position ++
    (bytes_of 4 l.number ++
    (bytes_of 1 (length l.text) ++
    filled 48 l.text)))

-- the rows one behind the other; what is unused is zero, "and so is every row after the last in use"
unfoldable pub encode_table : List Line → List ℕ
encode_table lines = slots_of encode_row table_size lines

-- The other way: what stands in a row. Each reads the bytes from the row's first on.

abbrev pub used_of : List ℕ → ℕ
used_of row = get_or row 0 0

unfoldable pub decode_identifier : List ℕ → Identifier
decode_identifier s = record { integer = num_at 2 s 0; site = get_or s 2 0 }

unfoldable pub identifiers_of : List ℕ → List Identifier
identifiers_of row = rows_of decode_identifier 3 (used_of row) (drop 1 row)

abbrev pub number_of : List ℕ → ℕ
number_of row = num_at 4 row 25

abbrev pub text_length_of : List ℕ → ℕ
text_length_of row = get_or row 29 0

abbrev pub text_of : List ℕ → List ℕ
text_of row = take (text_length_of row) (drop 30 row)

unfoldable pub decode_row : List ℕ → Line
decode_row row = record { position = identifiers_of row; number = number_of row; text = text_of row }

-- the table's bytes from row i on
abbrev pub row_at : List ℕ → ℕ → List ℕ
row_at table i = drop (i * row_size) table

-- where in the table the text of row i begins
abbrev pub text_start : ℕ → ℕ
text_start i = i * row_size + 30

-- the lines of the first n rows
unfoldable pub decode_table : ℕ → List ℕ → List Line
decode_table n table = rows_of decode_row row_size n table
