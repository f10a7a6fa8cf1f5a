-- What the calls come to, beside what their definitions say of bytes.
-- Assumes nothing.
use Rattle.std.proofs.Common.{ℕ, ◌≡◌, ◌<◌, List, [], Result, Ok, None, Some, true, false, eqb, true≢false, refl, sym, ap, ◌∙◌, arith}
use Rattle.std.specs.Borrow.{Bor}
use borrow.Author.Tests.{eq-eqb, ne_eqb}
use Rattle.record.specs.declared.Replica.{Replica}
use Rattle.format.specs.declared.answers.Refusal.{Refusal}
use Rattle.format.specs.declared.answers.Refusal.TheVariants.{Unsound, Malformed, OwnAhead, Received, Early, PositionTaken, Full, NoRow, LongText, ShortBuffer, NumbersSpent, NoPlace, PlaceTaken, NoSite}
use Rattle.format.specs.Answers.{refusal_number}
use Rattle.format.proofs.Checked.{either_way}
use Rattle.reader.specs.declared.Reading.{Reading}
use Rattle.reader.specs.Read.{taken}
use Rattle.reader.proofs.Taken.{some_taken, none_taken}
use Rattle.effect.specs.Held.{Outcome, unchanged, leaving}
use Rattle.replica.specs.Start.{empty, start_checks, start_call}
use Rattle.replica.specs.Read.{TextRead, read_call, text_read}
use Rattle.replica.proofs.RowRead.{read_done}

-- a start with no table leaves none
pub no_table : (r : Replica) (site : ℕ) → (start_call r [] site).table ≡ []
unfolding start_call start_checks
no_table r site =
    either_way (unchanged r []) (leaving 0 (empty site)) (λ (o : Outcome). o.table ≡ []) (start_checks [] site)
    (λ n. refl) (λ passed. absurd (true≢false passed.1.0))

-- a row whose text was read is one of the table's
pub text_there : (r : Replica) (table : List ℕ) (row : ℕ) (read : Result (Bor (List ℕ)) Refusal) (part : Bor (List ℕ))
    → text_read read ≡ read_call r table row → read ≡ Ok part → row < 512
text_there r table row read part is ok =
    let answered = sym (ap (λ (o : TextRead). o.answer) is) ∙ ap (λ v. (text_read v).answer) ok in
    let row_read = read_done r table row answered in
    omega (arith, row_read.inside, row_read.sound.own.rows)

-- a patch was read: bytes were used
pub first_used : (reading first : Reading) → taken reading ≡ Some first
    → (eqb reading.used 0 ≡ false) × (reading.used ≡ first.used)
first_used reading first some =
    let both = some_taken reading first some in
    (ne_eqb reading.used 0 both.1, ap (λ (v : Reading). v.used) (sym both.0))

-- none was: no bytes were
pub none_used : (reading : Reading) → taken reading ≡ None → (eqb reading.used 0 ≡ true) × (reading.used ≡ 0)
none_used reading none =
    let used = none_taken reading none in (eq-eqb reading.used 0 used, used)

-- no refusal's number is that of a call that is done
pub refusal_not_0 : (why : Refusal) → refusal_number why ≡ 0 → ⊥
refusal_not_0 Unsound e = cc
refusal_not_0 Malformed e = cc
refusal_not_0 OwnAhead e = cc
refusal_not_0 Received e = cc
refusal_not_0 Early e = cc
refusal_not_0 PositionTaken e = cc
refusal_not_0 Full e = cc
refusal_not_0 NoRow e = cc
refusal_not_0 LongText e = cc
refusal_not_0 ShortBuffer e = cc
refusal_not_0 NumbersSpent e = cc
refusal_not_0 NoPlace e = cc
refusal_not_0 PlaceTaken e = cc
refusal_not_0 NoSite e = cc
