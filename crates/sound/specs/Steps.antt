-- What the steps of the scan decide, byte by byte. `sound` promises what script's specs/Sound.antt
-- says and nothing of this: the steps are tied to it in proofs/.
-- Assumes nothing.
use Rattle.std.specs.Prelude.{ℕ, zero, suc, ◌+◌, ◌-◌, ◌*◌, ◌%◌, ◌≤◌, ◌<◌, ◌≡◌, ◌⊎◌, List, [], length, take, get_or}
use Rattle.std.specs.Simd.{first_chunks}
use Rattle.position.specs.Positions.{Proper, identifier}
use Rattle.rows.specs.Numbers.{num_at}
use Rattle.rows.specs.Rows.{Upto, AllZero}
use Rattle.record.specs.Records.{count_of}
use Rattle.script.specs.Lines.{table_size, row_size, used_of, number_of, text_length_of, row_at}

-- an identifier that starts at byte j of the eight is proper, and has no site where it is unused
abbrev pub SlotFits : ℕ → List ℕ → ℕ → Type 0
SlotFits used row j =
    (j % 3 ≡ 0) × (j < 24) →
    Proper (identifier (get_or row (j + 1) 0 * 256 + get_or row (j + 2) 0) (get_or row (j + 3) 0)) ×
    (used * 3 ≤ j → get_or row (j + 3) 0 ≡ 0)

-- byte j of the text is zero where it is unused
abbrev pub TextFits : ℕ → List ℕ → ℕ → Type 0
TextFits used row j = used ≤ j → get_or row (j + 30) 0 ≡ 0

-- the site of the last identifier in use: the author
abbrev pub author_byte : List ℕ → ℕ
author_byte row = get_or row (3 * used_of row) 0

-- all that is decided of a row by itself. Its number is at most a count, and so in range; its first
-- integer is bounded by that of the last row.
pub record RowFits (counts row : List ℕ) : Type 0 where
  pub used_least : 1 ≤ used_of row
  pub used_most : used_of row ≤ 8
  pub text_length : text_length_of row ≤ 48
  pub slots : Upto 32 (SlotFits (used_of row) row)
  pub text : Upto 48 (TextFits (text_length_of row) row)
  pub author : 1 ≤ author_byte row
  pub number_least : 1 ≤ number_of row
  pub counted : number_of row ≤ count_of counts (author_byte row)

-- three words, the first deciding first
abbrev pub Rises : ℕ → ℕ → ℕ → ℕ → ℕ → ℕ → Type 0
Rises x y z x' y' z' = (x < x') ⊎ ((x ≡ x') × ((y < y') ⊎ ((y ≡ y') × (z < z'))))

-- the 24 bytes of the identifiers, as three words of 8
abbrev pub word : List ℕ → ℕ → ℕ
word row k = num_at 8 row (k * 8 + 1)

abbrev pub RowRises : List ℕ → List ℕ → Type 0
RowRises a b = Rises (word a 0) (word a 1) (word a 2) (word b 0) (word b 1) (word b 2)

-- the first n rows of a table, 78 bytes each
abbrev pub rows_in : ℕ → List ℕ → List (List ℕ)
rows_in n table = first_chunks row_size n (take (n * row_size) table)

-- row i; behind the last, a row of no bytes
abbrev pub row_of : List (List ℕ) → ℕ → List ℕ
row_of rows i = get_or rows i []

-- the row before row i; before the first, a row of no bytes, which is read as zeros
unfoldable pub row_before : List (List ℕ) → ℕ → List ℕ
row_before rows zero = []
row_before rows (suc i) = row_of rows i

-- all that is decided of row i in its turn
pub record Fits (counts : List ℕ) (rows : List (List ℕ)) (i : ℕ) : Type 0 where
  pub row : RowFits counts (row_of rows i)
  pub rises : RowRises (row_before rows i) (row_of rows i)

-- the first integer of the last row; those of the rows before it are not above it, since rows rise
abbrev pub LastFits : List (List ℕ) → Type 0
LastFits rows = 1 ≤ length rows → num_at 2 (row_of rows (length rows - 1)) 1 ≤ 65534

-- all that the scan decides of a table
pub record TableFits (rows : ℕ) (counts table : List ℕ) : Type 0 where
  pub size : length table ≡ table_size
  pub each : Upto rows (Fits counts (rows_in rows table))
  pub last : LastFits (rows_in rows table)
  pub unused : AllZero (row_at table rows)
