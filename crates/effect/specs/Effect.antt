-- What a patch does to a replica (01, 'Answer numbers', the paragraph on what is done). There is one
-- effect, for own edits and for patches received: "A local edit leaves what its patch would do on
-- arrival".
-- Assumes nothing.
use Rattle.std.specs.Prelude.{ℕ, suc, ◌-◌, ◌≤◌, ◌<◌, ◌≡◌, Bool, true, false, cond, List, eqb, length, take, get_or, set}
use Rattle.std.proofs.Math.Option.{Option, none, some}
use Rattle.position.specs.declared.Identifier.{Identifier}
use Rattle.position.specs.Positions.{ids_of}
use Rattle.rows.specs.Rows.{insert_at, remove_at, Upto}
use Rattle.record.specs.declared.Replica.{Replica}
use Rattle.record.specs.Records.{count_of}
use Rattle.script.specs.declared.table.Found.{Found}
use Rattle.script.specs.declared.table.Found.TheVariants.{Row, Gap}
use Rattle.script.specs.Lines.{Line, no_line, decode_table}
use Rattle.script.specs.Find.{find_in}
use Rattle.format.specs.declared.Edit.{Edit}
use Rattle.format.specs.declared.Edit.TheVariants.{Insert, Delete}
use Rattle.format.specs.declared.Patch.{Patch}
use Rattle.format.specs.WellFormed.{WellFormed}
use Rattle.effect.specs.Held.{Held, Outcome, held_in, leaving}

-- "In all of these the author's count rises by 1."
unfoldable pub raised : List ℕ → ℕ → List ℕ
raised counts site = set counts (site - 1) (suc (count_of counts site))

-- the row found, or the row where the position would stand
abbrev pub row_of : Found → ℕ
row_of (Row k) = k
row_of (Gap k) = k

-- whether a row has the position
abbrev pub is_row : Found → Bool
is_row (Row k) = true
is_row (Gap k) = false

-- "An accepted insert puts one row into the list and keeps the others in order": where its position
-- would stand
unfoldable pub put : Line → List Line → List Line
put l lines = insert_at (row_of (find_in l.position lines)) l lines

-- "the one row with that position and that number, or none": a row that has the position is looked at
-- for the number
abbrev pub numbered : ℕ → List Line → Found → Option ℕ
numbered number lines (Row k) = cond (eqb (get_or lines k no_line).number number) (some k) none
numbered number lines (Gap k) = none

unfoldable pub line_row : List Identifier → ℕ → List Line → Option ℕ
line_row place number lines = numbered number lines (find_in place lines)

-- "a delete takes out the one row [..] or none"
abbrev pub without : Option ℕ → List Line → List Line
without none lines = lines
without (some k) lines = remove_at k lines

unfoldable pub strike : List Identifier → ℕ → List Line → List Line
strike place number lines = without (line_row place number lines) lines

-- the lines after an edit. A line's identity is its place and the number of the patch that inserts it.
unfoldable pub edited : Patch → Edit → List ℕ → List Line → List Line
edited p (Insert n) text lines = put (record { position = ids_of p.place; number = p.number; text = take n text }) lines
edited p (Delete n) text lines = strike (ids_of p.place) n lines

-- "0: done", "15: done: the struck line had gone before"
abbrev pub struck_answer : Option ℕ → ℕ
struck_answer none = 15
struck_answer (some k) = 0

unfoldable pub done_answer : Patch → Edit → List Line → ℕ
done_answer p (Insert n) lines = 0
done_answer p (Delete n) lines = struck_answer (line_row (ids_of p.place) n lines)

-- what a patch with this text beside it does
unfoldable pub effect : Held → Patch → List ℕ → Held
effect h p text = record { site = h.site; counts = raised h.counts p.author; lines = edited p p.edit text h.lines }

-- a patch done on a record and a table: the answer, and what the two then are
abbrev pub done_by : Replica → List ℕ → Patch → List ℕ → Outcome
done_by r table p text = leaving (done_answer p p.edit (decode_table r.rows table)) (effect (held_in r table) p text)

-- no entry of this Before is above these counts ("early: some Before entry is above this replica's count")
abbrev pub Covers : List ℕ → List ℕ → Type 0
Covers counts before = Upto 16 (λ i. get_or before i 0 ≤ get_or counts i 0)

abbrev pub inserts : Edit → Bool
inserts (Insert n) = true
inserts (Delete n) = false

-- When a patch is done: it is well-formed, its author's next, and not early; and an insert finds no row
-- that has its position, and a row left.
pub record Takes (h : Held) (p : Patch) (text : List ℕ) : Type 0 where
  pub patch : WellFormed p text
  pub next : p.number ≡ suc (count_of h.counts p.author)
  pub before : Covers h.counts p.before
  pub free : inserts p.edit ≡ true → is_row (find_in (ids_of p.place) h.lines) ≡ false
  pub room : inserts p.edit ≡ true → length h.lines < 512
