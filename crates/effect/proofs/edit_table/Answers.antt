-- An insert's line is put in where its place was found to stand, and a delete strikes the line at its
-- place.
-- Assumes nothing.
use Rattle.std.proofs.Common.{◌≡◌, true, ◌≤◌, ◌<◌, ℕ, ◌+◌, ◌*◌, List, take, refl, ap, ◌∙◌, arith, rules}
use Rattle.position.specs.Positions.{ids_of}
use Rattle.rows.specs.Rows.{put_in, within}
use Rattle.rows.proofs.Digits.{Bytes}
use Rattle.rows.proofs.Moved.{insert_length}
use Rattle.record.specs.declared.Replica.{Replica}
use Rattle.script.specs.declared.table.Found.{Found}
use Rattle.script.specs.Lines.{Line, row_size, encode_row, decode_table}
use Rattle.script.proofs.Tables.{lines_length}
use Rattle.script.proofs.Kept.{put_bytes}
use Rattle.format.specs.declared.Edit.TheVariants.{Insert, Delete}
use Rattle.format.specs.declared.answers.Success.TheVariants.{Done}
use Rattle.format.specs.declared.Patch.{Patch}
use Rattle.effect.specs.declared.Changed.{Changed}
use Rattle.effect.specs.Effect.{row_of, is_row, put, numbered, line_row, without, strike, edited}
use Rattle.effect.specs.Effect.{struck_answer, done_answer, inserts}
use Rattle.effect.specs.Steps.{Ready, Leaves}
use Rattle.effect.proofs.Edits.{found_inside, row_inside}
use Rattle.effect.proofs.edit_table.Goals as goal

module _ {r : Replica} {t : List ℕ} {p : Patch} {text : List ℕ} {found : Found} (ready : Ready r t p text found) where
  abbrev lines : List Line
  lines = decode_table r.rows t

  -- the row found, or where it would stand
  inside : row_of found ≤ r.rows
  inside = rw ready.place (omega (arith, found_inside (ids_of p.place) lines, lines_length r.rows t))

  -- a row found is in use
  in_use : is_row found ≡ true → row_of found < r.rows
  in_use = rw ready.place (λ row. omega (arith, row_inside (ids_of p.place) lines row, lines_length r.rows t))

  -- the row behind those in use is there
  room : {n : ℕ} → p.edit ≡ Insert n → r.rows < 512
  room e = omega (arith, ready.takes.room (ap inserts e), lines_length r.rows t)

  -- the line of an insert is put in there
  line_put : {n k : ℕ} {row after : List ℕ} → Bytes t → p.edit ≡ Insert n → k ≡ row_of found
      → row ≡ encode_row (record { position = ids_of p.place; number = p.number; text = take n text })
      → after ≡ within ((r.rows + 1) * row_size) (put_in (k * row_size) row) t
      → Leaves (edited p p.edit text lines) (done_answer p p.edit lines)
      (record { rows = r.rows + 1; success = Done }) after
  unfolding edited put done_answer
  line_put {n} b e at bytes is =
      let l : Line = record { position = ids_of p.place; number = p.number; text = take n text } in
      rw (e, ← ready.place)
      (record {
        rows = omega (arith, insert_length (row_of found) l lines, lines_length r.rows t);
        answer = refl;
        bytes = is ∙ rw (at, bytes) (put_bytes r t b ready.sound (row_of found) l inside (room e));
      })

  -- what is left where the row found is struck is what a delete leaves
  line_struck : {n : ℕ} {c : Changed} {after : List ℕ} → p.edit ≡ Delete n
      → Leaves (without (numbered n lines found) lines) (struck_answer (numbered n lines found)) c after
      → Leaves (edited p p.edit text lines) (done_answer p p.edit lines) c after
  unfolding edited strike line_row done_answer
  line_struck e left = rw (e, ← ready.place) left

pub put_row-requires : goal.put_row-requires
put_row-requires c =
    (c.requires.sound.size, (room c.requires c.in-Insert.is, rw c.row_of.ensures (inside c.requires)))

pub strike-requires : goal.strike-requires
strike-requires c = (c.requires.sound, in_use c.requires)

pub returns-in-Insert : goal.returns-in-Insert
returns-in-Insert c =
    let b : Bytes c.args.table.now = λ i. search rules in
    line_put c.requires b c.in-Insert.is c.row_of.ensures c.encode-row.ensures c.put_row.ensures

pub returns-in-Delete : goal.returns-in-Delete
returns-in-Delete c = line_struck c.requires c.in-Delete.is c.strike.ensures
