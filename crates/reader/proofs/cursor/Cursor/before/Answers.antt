-- `before` meets its contract: its entries are read one behind the other, and their counts are put in.
-- Assumes nothing.
use Rattle.std.proofs.Common.{◌≡◌, ℕ, ◌-◌, List, [], ◌∷◌, ◌++◌, refl, sym, ◌∙◌, arith}
use Rattle.std.proofs.Math.ListN.{set, replicate}
use Rattle.format.specs.declared.Entry.{Entry}
use Rattle.reader.specs.Read.{entered}
use Rattle.reader.proofs.Repeated.{first_turn, turn_more, section_none, section_stops, section_ends}
use Rattle.reader.proofs.Counts.{entries, entered_one, before_told}
use Rattle.reader.proofs.cursor.Cursor.before.Goals as goal

-- one entry more
one_entered : (counts : List ℕ) (site k : ℕ) (e : Entry) (es : List Entry) → site ≡ e.site → counts ≡ entered (replicate 16 0) es
    → set counts (site - 1) e.count ≡ entered (replicate 16 0) (es ++ (e ∷ []))
one_entered counts site k e es here held =
    (λ d. set (held d) (here d - 1) e.count) ∙ sym (entered_one (replicate 16 0) es e)

pub returns-in_err-entries : goal.returns-in_err-entries
returns-in_err-entries c = rw c.from_residual.ensures (section_none entries (omega arith) before_told c.in_err-entries.ensures)

pub loop-init : goal.loop-init
unfolding entered
loop-init c = record { below = omega arith; read = first_turn refl }

pub returns-in_err-entry : goal.returns-in_err-entry
returns-in_err-entry c =
    rw c.from_residual-in_err-entry.ensures
    (section_stops entries (omega arith) before_told c.in_ok-entries.ensures c.loop.invariant.read c.loop-test.true c.in_err-entry.ensures)

-- an entry that was read has its site above the last one, and at most 16
pub loop-preserved : goal.loop-preserved
loop-preserved c =
    record {
      below = c.in_ok-entry.ensures.fits.0.1;
      read =
          turn_more c.loop.invariant.read c.in_ok-entry.ensures
          (λ es _. one_entered c.loop.value c.from.result 0 c.in_ok-entry.entry.value es c.from.ensures);
    }

pub returns : goal.returns
returns c =
    section_ends entries (omega arith) before_told c.in_ok-entries.ensures c.loop.invariant.read (omega arith) (λ es held. held)
