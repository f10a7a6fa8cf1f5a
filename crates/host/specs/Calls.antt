-- The calls of a host program, said of bytes (01, 'The record and the table': "Across the C boundary it is
-- 67 bytes"): each is the operation's own definition on the record that the bytes are, and what the
-- operation leaves is written back. Bytes of another length are no record: the operation is given that
-- of no host, which is never sound, and answers 1 (start: 14 first); and they stay as they were.
-- Assumes nothing.
use Rattle.std.specs.Prelude.{ℕ, cond, not, ◌&&◌, List, [], ◌∷◌, ◌++◌, eqb, length}
use Rattle.rows.specs.Numbers.{bytes_of}
use Rattle.rows.specs.Rows.{flat}
use Rattle.record.specs.Records.{record_size, counts_size, counts_of, record_read, record_written}
use Rattle.script.specs.Lines.{text_start}
use Rattle.format.specs.Answers.{first_of}
use Rattle.reader.specs.Read.{read_first}
use Rattle.effect.specs.Held.{Outcome}
use Rattle.replica.specs.Start.{start_call}
use Rattle.replica.specs.Receive.{receive_call}
use Rattle.replica.specs.Read.{TextRead, read_call}
use Rattle.replica.specs.Compare.{Lack, compare_checks, compare_call}
use Rattle.edits.specs.Own.{OwnOutcome}
use Rattle.edits.specs.Insert.{insert_call}
use Rattle.edits.specs.Delete.{delete_call}

-- what a call answers, and what the bytes of record and table then are
pub record Called : Type 0 where
  pub answer : ℕ
  pub state : List ℕ
  pub table : List ℕ

-- an operation's outcome, with the record written back over its bytes
abbrev pub called : List ℕ → Outcome → Called
called state o = record { answer = o.answer; state = record_written o.replica state; table = o.table }

-- "Start: 14, then 1 (lengths only)." Where the record's length is wrong, no table is lent: the answer is
-- that of a start with none, and record and table stay as they were.
unfoldable pub start_bytes : List ℕ → List ℕ → ℕ → Called
start_bytes state table site =
    let none : Outcome = start_call (record_read state) [] site in
    cond (eqb (length state) record_size) (called state (start_call (record_read state) table site))
    (record { answer = none.answer; state = state; table = table })

unfoldable pub receive_bytes : List ℕ → List ℕ → List ℕ → Called
receive_bytes state table patch = called state (receive_call (record_read state) table patch)

-- what an own edit answers, and what all that was lent then is
pub record OwnCalled : Type 0 where
  pub answer : ℕ
  pub state : List ℕ
  pub table : List ℕ
  pub patch : List ℕ
  pub written : ℕ

abbrev pub own_called : List ℕ → OwnOutcome → OwnCalled
own_called state o = record {
  answer = o.answer;
  state = record_written o.replica state;
  table = o.table;
  patch = o.buffer;
  written = o.length;
}

unfoldable pub insert_bytes : List ℕ → List ℕ → ℕ → List ℕ → ℕ → List ℕ → OwnCalled
insert_bytes state table row text draw patch = own_called state (insert_call (record_read state) table row draw text patch)

unfoldable pub delete_bytes : List ℕ → List ℕ → ℕ → List ℕ → OwnCalled
delete_bytes state table row patch = own_called state (delete_call (record_read state) table row patch)

-- "A row's text is handed back as a part of the table": where it begins, and its length
pub record TextAt : Type 0 where
  pub answer : ℕ
  pub start : ℕ
  pub len : ℕ

-- refused, both are 0
unfoldable pub row_text : List ℕ → List ℕ → ℕ → TextAt
row_text state table row =
    let read : TextRead = read_call (record_read state) table row in
    record { answer = read.answer; start = cond (eqb read.answer 0) (text_start row) 0; len = length read.text }

-- what comparing gives of a site: side (1), first (4), last (4)
unfoldable pub lack_bytes : Lack → List ℕ
lack_bytes l = bytes_of 1 l.more ++ (bytes_of 4 l.first ++ bytes_of 4 l.last)

abbrev pub lacks_size : ℕ
lacks_size = 144

pub record ComparedBytes : Type 0 where
  pub answer : ℕ
  pub result : List ℕ

-- any wrong length answers 1, as a count out of range does; refused, the result's bytes stay
unfoldable pub compare_bytes : List ℕ → List ℕ → List ℕ → ComparedBytes
compare_bytes first second result =
    let lengths = eqb (length first) counts_size && (eqb (length second) counts_size && eqb (length result) lacks_size) in
    first_of ((not lengths, 1) ∷ compare_checks (counts_of first) (counts_of second))
    (λ n. record { answer = n; result = result })
    (record { answer = 0; result = flat lack_bytes (compare_call (counts_of first) (counts_of second)).sites })

-- "says how many bytes it used; refused, 0": 2 where the bytes begin with no patch
pub record FirstPatch : Type 0 where
  pub answer : ℕ
  pub used : ℕ

unfoldable pub first_patch : List ℕ → FirstPatch
first_patch bytes = record { answer = cond (eqb (read_first bytes).used 0) 2 0; used = (read_first bytes).used }
