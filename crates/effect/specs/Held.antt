-- What a replica holds (01, 'The record and the table'): "the own site", "for each of the 16 sites a
-- count", and the lines of its script. Record and table are the bytes and numbers of just that.
-- Assumes nothing.
use Rattle.std.specs.Prelude.{ℕ, List, length, Result, Ok, Err}
use Rattle.record.specs.declared.Replica.{Replica}
use Rattle.script.specs.Lines.{Line, encode_table, decode_table}
use Rattle.format.specs.declared.answers.Refusal.{Refusal}
use Rattle.format.specs.Answers.{success_number, refusal_number}
use Rattle.effect.specs.declared.Done.{Done}

pub record Held : Type 0 where
  pub site : ℕ
  pub counts : List ℕ
  pub lines : List Line

-- what stands in a record and a table
abbrev pub held_in : Replica → List ℕ → Held
held_in r table = record { site = r.site; counts = r.counts; lines = decode_table r.rows table }

-- the record and the table that hold it: "The same table bytes come from the same lines."
abbrev pub record_holding : Held → Replica
record_holding h = record { site = h.site; rows = length h.lines; counts = h.counts }

abbrev pub table_holding : Held → List ℕ
table_holding h = encode_table h.lines

-- what a call answers, and what record and table then are
pub record Outcome : Type 0 where
  pub answer : ℕ
  pub replica : Replica
  pub table : List ℕ

-- refused: "the record and every lent buffer unchanged"
abbrev pub unchanged : Replica → List ℕ → ℕ → Outcome
unchanged r table n = record { answer = n; replica = r; table = table }

-- done: they hold this
abbrev pub leaving : ℕ → Held → Outcome
leaving n h = record { answer = n; replica = record_holding h; table = table_holding h }

-- what a call came to, and the table that it leaves, as 01's number, record and table: refused, the record is as
-- it was
abbrev pub came_to : Replica → Result Done Refusal → List ℕ → Outcome
came_to r (Ok done) table = record { answer = success_number done.success; replica = done.replica; table = table }
came_to r (Err why) table = record { answer = refusal_number why; replica = r; table = table }
