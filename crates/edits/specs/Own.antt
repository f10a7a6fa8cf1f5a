-- Own edits (01, 'Answer numbers'): what insert and delete alike refuse, the patch that one makes, and what
-- it leaves.
-- Assumes nothing.
use Rattle.std.specs.Prelude.{ℕ, suc, Bool, List, eqb, ltb, length, Result, Ok, Err}
use Rattle.position.specs.declared.Position.{Position}
use Rattle.rows.specs.Rows.{written}
use Rattle.record.specs.declared.Replica.{Replica}
use Rattle.format.specs.declared.Edit.{Edit}
use Rattle.format.specs.declared.Patch.{Patch}
use Rattle.format.specs.declared.answers.Refusal.{Refusal}
use Rattle.format.specs.Answers.{refusal_number}
use Rattle.format.specs.Patches.{most_size, patch_bytes}
use Rattle.effect.specs.Held.{Held, held_in, record_holding, table_holding}
use Rattle.effect.specs.Effect.{effect}
use Rattle.replica.specs.Grounds.{own_count}
use Rattle.edits.specs.declared.Edited.{Edited}

-- what an own edit answers, and what record and table, the patch's length and the buffer then are
pub record OwnOutcome : Type 0 where
  pub answer : ℕ
  pub replica : Replica
  pub table : List ℕ
  pub length : ℕ
  pub buffer : List ℕ

-- refused: "the record and every lent buffer unchanged, and 0 for each number that a done call would give"
abbrev pub untouched : Replica → List ℕ → List ℕ → ℕ → OwnOutcome
untouched r table buffer n = record { answer = n; replica = r; table = table; length = 0; buffer = buffer }

-- grounds of both: 10, "patch buffer under 161 bytes, whether or not the patch would fit"
abbrev pub short : List ℕ → Bool
short buffer = ltb (length buffer) most_size

-- 11: "own count is 1,000,000"
abbrev pub spent : Replica → Bool
spent r = eqb (own_count r) 1000000

-- the patch: its author is the own site, its number the next one, and Before "is what the author had
-- received"
abbrev pub own_patch : Replica → Position → Edit → Patch
own_patch r place edit = record { author = r.site; number = suc (own_count r); before = r.counts; place = place; edit = edit }

-- "A local edit leaves what its patch would do on arrival, writes the patch at the front of the buffer
-- and gives its length [..]; the bytes after it stay."
unfoldable pub own_edit : Replica → List ℕ → List ℕ → Patch → List ℕ → OwnOutcome
own_edit r table buffer p text =
    let after : Held = effect (held_in r table) p text in
    let bytes = patch_bytes p text in
    record {
      answer = 0;
      replica = record_holding after;
      table = table_holding after;
      length = length bytes;
      buffer = written 0 bytes buffer;
    }

-- what an own edit came to, with the table and the buffer that it leaves, as 01's number, record and length: refused,
-- the record is as it was, and the length 0
abbrev pub own_outcome : Replica → Result Edited Refusal → List ℕ → List ℕ → OwnOutcome
own_outcome r (Ok done) table buffer = record { answer = 0; replica = done.replica; table = table; length = done.length; buffer = buffer }
own_outcome r (Err why) table buffer = untouched r table buffer (refusal_number why)
