-- A row found is taken out where it has the number; all stays as it was where it has another, or where
-- no row was found.
-- Assumes nothing.
use Rattle.std.proofs.Common.{◌≡◌, ℕ, ◌-◌, ◌*◌, ◌<◌, List, refl, sym, ap, ◌∙◌, arith, rules}
use mathlib.Core.Option.{none}
use Rattle.rows.specs.Rows.{take_out, within}
use Rattle.rows.proofs.Bytes.{rest_lent}
use Rattle.rows.proofs.Digits.{Bytes}
use Rattle.rows.proofs.Moved.{remove_length}
use Rattle.record.specs.declared.Replica.{Replica}
use Rattle.script.specs.declared.table.Found.{Found}
use Rattle.script.specs.declared.table.Found.TheVariants.{Row}
use Rattle.script.specs.Lines.{Line, row_size, number_of, row_at, decode_table}
use Rattle.script.specs.Sound.{Sound}
use Rattle.script.proofs.Tables.{lines_length, sound_encoded}
use Rattle.script.proofs.Kept.{out_bytes}
use Rattle.format.specs.declared.answers.Success.TheVariants.{Done, Gone}
use Rattle.effect.specs.declared.Changed.{Changed}
use Rattle.effect.specs.Effect.{numbered, without, struck_answer}
use Rattle.effect.specs.Steps.{Leaves}
use Rattle.effect.proofs.Edits.{same_number, other_number}
use Rattle.effect.proofs.strike.Goals as goal

module _ {r : Replica} {t : List ℕ} (b : Bytes t) (sound : Sound r t) (number : ℕ) (found : Found) where
  abbrev lines : List Line
  lines = decode_table r.rows t

  -- what the call is to leave
  abbrev Struck : Changed → List ℕ → Type 0
  Struck c after =
      let row = numbered number lines found in Leaves (without row lines) (struck_answer row) c after

  -- the row has the number
  row_taken : {k : ℕ} {after : List ℕ} → found ≡ Row k → k < r.rows → number_of (row_at t k) ≡ number
      → after ≡ within (r.rows * row_size) (take_out (k * row_size) row_size) t
      → Struck (record { rows = r.rows - 1; success = Done }) after
  row_taken {k} is there same out =
      let rows = lines_length r.rows t in
      rw (is, same_number number r.rows k t there same)
      (record {
        rows = omega (arith, remove_length k lines (omega arith), rows);
        answer = refl;
        bytes = out ∙ out_bytes r t b sound k there;
      })

  -- no row found has it
  nothing_taken : numbered number lines found ≡ none → Struck (record { rows = r.rows; success = Gone }) t
  nothing_taken gone =
      rw gone
      (record {
        rows = sym (lines_length r.rows t);
        answer = refl;
        bytes = sym (sound_encoded r t b sound);
      })

  -- the row found has another
  other_row : {k : ℕ} → found ≡ Row k → k < r.rows → (number_of (row_at t k) ≡ number → ⊥)
      → Struck (record { rows = r.rows; success = Gone }) t
  other_row {k} is there other = nothing_taken (rw is (other_number number r.rows k t there other))

pub returns-in-Row : goal.returns-in-Row
returns-in-Row c =
    let r = c.args.r in
    let t = c.args.table.now in
    let b : Bytes t = λ i. search rules in
    let read = c.number.ensures ∙ ap number_of (rest_lent (c.in-Row.k * row_size) t) in
    let in_use = (rw c.in-Row.is at c.requires.1) refl in
    row_taken b c.requires.0 c.args.number c.args.found c.in-Row.is in_use
    (sym read ∙ c.if-number.true) c.take_row.ensures

pub returns-in_default : goal.returns-in_default
returns-in_default c =
    let t = c.args.table.now in
    let b : Bytes t = λ i. search rules in
    let read = c.number.ensures ∙ ap number_of (rest_lent (c.in-Row.k * row_size) t) in
    let in_use = (rw c.in-Row.is at c.requires.1) refl in
    other_row b c.requires.0 c.args.number c.args.found c.in-Row.is in_use (λ same. c.if-number.false (read ∙ same))

pub returns-in_default-2 : goal.returns-in_default-2
returns-in_default-2 c =
    let b : Bytes c.args.table.now = λ i. search rules in
    nothing_taken b c.requires.0 c.args.number c.args.found (search rules)
