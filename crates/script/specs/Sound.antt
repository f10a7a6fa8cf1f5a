-- When record and table are sound (01, 'The record and the table', with the ranges of 'Numbers that
-- bound it'): the record by itself, then the table: its size, each row in use with its ranges, its
-- author's count and what is unused in it, the rows that are not in use, and that rows rise.
-- Assumes nothing.
use Rattle.std.specs.Prelude.{ℕ, suc, ◌+◌, ◌*◌, ◌≤◌, ◌<◌, ◌≡◌, List, length, get_or}
use Rattle.position.specs.Positions.{LinePosition, author_of}
use Rattle.position.specs.Order.{◌≺◌}
use Rattle.record.specs.declared.Replica.{Replica}
use Rattle.record.specs.Records.{count_of, SoundRecord}
use Rattle.script.specs.Lines.{table_size, row_size, Line, used_of, text_length_of, decode_row, row_at}

-- "all ranges hold" of a line: its position is a line's position, "Patch number, per site: 1 to
-- 1,000,000", "Text of a line: 0 to 48 bytes"; and "each line's number is at most the count of its
-- author"
pub record SoundLine (counts : List ℕ) (l : Line) : Type 0 where
  pub position : LinePosition l.position
  pub number_least : 1 ≤ l.number
  pub number_most : l.number ≤ 1000000
  pub text : length l.text ≤ 48
  pub counted : l.number ≤ count_of counts (author_of l.position)

-- the bytes of a row in use: a sound line, and "What is unused is zero". The length byte has its own
-- field: in the last row of the table one above 48 would still read as a text of 48 bytes.
pub record SoundRow (counts row : List ℕ) : Type 0 where
  pub line : SoundLine counts (decode_row row)
  pub text_length : text_length_of row ≤ 48
  pub unused_identifiers : (j : ℕ) → used_of row * 3 ≤ j → j < 24 → get_or row (1 + j) 0 ≡ 0
  pub unused_text : (j : ℕ) → text_length_of row ≤ j → j < 48 → get_or row (30 + j) 0 ≡ 0

-- "The record and table are sound when all ranges hold (a count is 0 to 1,000,000), all that must
-- be zero is zero, rows in use rise strictly by position, and each line's number is at most the
-- count of its author." "Table: exactly 39,936 bytes"
pub record Sound (r : Replica) (table : List ℕ) : Type 0 where
  pub own : SoundRecord r
  pub size : length table ≡ table_size
  pub row : (i : ℕ) → i < r.rows → SoundRow r.counts (row_at table i)
  pub unused_rows : (j : ℕ) → r.rows * row_size ≤ j → j < table_size → get_or table j 0 ≡ 0
  pub rising : (i : ℕ) → suc i < r.rows → (decode_row (row_at table i)).position ≺ (decode_row (row_at table (suc i))).position
