-- Refused calls of a host (01, 'Answer numbers': "Every other number returns with the record and every lent
-- buffer unchanged, and 0 for each number that a done call would give"), and bytes that are no record.
-- Assumes nothing.
use Prim.Native.Nat.{ℕ, ◌*◌, ◌≤◌}
use native.Mathlib.Decide.{ℕ_discrete}
use native.Mathlib.Omega.{arith}
use borrow.Author.Tests.{eq-eqb, ne_eqb, le-leb}
use mathlib.Core.Path.{◌≡◌, refl, sym, ap, ◌∙◌, subst}
use mathlib.Core.Bool.{Bool, true, false, true≢false, cond}
use mathlib.Core.Logic.{⊎_elim}
use mathlib.Core.List.{List, []}
use lib.Dec.{eqb}
use lib.ListN.{length, take, drop, take-append-drop}
use lib.Seq.{take_at, drop-drop}
use Rattle.rows.proofs.Digits.{Bytes}
use Rattle.record.specs.Records.{record_size, nobody, record_read, record_written}
use Rattle.record.proofs.RecordBack.{bytes_of_record}
use Rattle.script.specs.Lines.{row_size, text_length_of, text_of, row_at, decode_table}
use Rattle.script.proofs.Decided.{sound?}
use Rattle.format.specs.Answers.{first_of}
use Rattle.format.proofs.Checked.{refused_alike}
use Rattle.reader.specs.Read.{read_first, read_one}
use Rattle.effect.specs.Held.{Outcome, unchanged, leaving}
use Rattle.effect.specs.Effect.{done_by}
use Rattle.effect.proofs.Edits.{done_answers}
use Rattle.replica.specs.Grounds.{unsound}
use Rattle.replica.specs.Start.{empty, start_checks, start_call}
use Rattle.replica.specs.Receive.{receive_checks, receive_call}
use Rattle.replica.specs.Read.{TextRead, read_checks, read_call}
use Rattle.replica.proofs.RowRead.{read_done}
use Rattle.replica.proofs.Tests.{refusal_is}
use Rattle.edits.specs.Own.{OwnOutcome, untouched, own_edit}
use Rattle.edits.specs.Insert.{insert_checks, insert_call}
use Rattle.edits.specs.Delete.{delete_checks, delete_call}
use Rattle.host.specs.Calls.{Called, called, start_bytes, receive_bytes}
use Rattle.host.specs.Calls.{OwnCalled, own_called, insert_bytes, delete_bytes, TextAt, row_text, ComparedBytes, compare_bytes, first_patch}

-- the record, read and written back: its bytes stay as they were
pub record_stays : (state : List ℕ) → Bytes state → record_written (record_read state) state ≡ state
unfolding record_written record_read
record_stays state bytes = by (ℕ_discrete (length state) record_size)
  where
    by : Dec (length state ≡ record_size) → record_written (record_read state) state ≡ state
    by (yes size) = rw (eq-eqb (length state) record_size size) (bytes_of_record state bytes size)
    by (no wrong) = rw (ne_eqb (length state) record_size wrong)

module _ (state table : List ℕ) where
  -- an answer, beside record and table as they were
  abbrev pub stays : ℕ → Called
  stays n = record { answer = n; state = state; table = table }

  -- beside a patch's buffer too, and no length
  abbrev pub own_stays : List ℕ → ℕ → OwnCalled
  own_stays patch n = record { answer = n; state = state; table = table; patch = patch; written = 0 }

  module _ (bytes : Bytes state) where
    -- an operation on record and table
    outcome_refused : (checks : List (Bool × ℕ)) (done : Outcome)
        → let call = called state (first_of checks (unchanged (record_read state) table) done) in
        (call.answer ≡ done.answer → ⊥) → call ≡ stays call.answer
    outcome_refused checks done other =
        let refused = unchanged (record_read state) table in
        let n = (first_of checks refused done).answer in
        ap (called state) (refused_alike refused done (λ (o : Outcome). o.answer) (λ n. refl) refused done checks other)
        ∙ ap (λ (s : List ℕ). record { answer = n; state = s; table = table }) (record_stays state bytes)

    pub start_refused : (site : ℕ)
        → let call = start_bytes state table site in (call.answer ≡ 0 → ⊥) → call ≡ stays call.answer
    unfolding start_bytes start_call
    start_refused site = by (eqb (length state) record_size)
      where
        by : (b : Bool)
            → let r = record_read state in
            let call = cond b (called state (start_call r table site)) (stays (start_call r [] site).answer) in
            (call.answer ≡ 0 → ⊥) → call ≡ stays call.answer
        by true other = outcome_refused (start_checks table site) (leaving 0 (empty site)) other
        by false other = refl

    pub receive_refused : (patch : List ℕ)
        → let call = receive_bytes state table patch in
        (call.answer ≡ 0 → ⊥) → (call.answer ≡ 15 → ⊥) → call ≡ stays call.answer
    unfolding receive_bytes receive_call
    receive_refused patch not-0 not-15 =
        let r = record_read state in
        let reading = read_one patch in
        let answers = done_answers reading.patch reading.patch.edit (decode_table r.rows table) in
        outcome_refused (receive_checks r table reading) (done_by r table reading.patch reading.text)
        (λ e. ⊎_elim (λ is. not-0 (e ∙ is)) (λ is. not-15 (e ∙ is)) answers)

    -- an own edit
    own_refused : (patch : List ℕ) (checks : List (Bool × ℕ)) (done : OwnOutcome)
        → let call = own_called state (first_of checks (untouched (record_read state) table patch) done) in
        (call.answer ≡ done.answer → ⊥) → call ≡ own_stays patch call.answer
    own_refused patch checks done other =
        let refused = untouched (record_read state) table patch in
        let n = (first_of checks refused done).answer in
        ap (own_called state) (refused_alike refused done (λ (o : OwnOutcome). o.answer) (λ n. refl) refused done checks other)
        ∙ ap (λ (s : List ℕ). record { answer = n; state = s; table = table; patch = patch; written = 0 }) (record_stays state bytes)

    pub insert_refused : (row : ℕ) (text : List ℕ) (draw : ℕ) (patch : List ℕ)
        → let call = insert_bytes state table row text draw patch in
        (call.answer ≡ 0 → ⊥) → call ≡ own_stays patch call.answer
    unfolding insert_bytes insert_call own_edit
    insert_refused row text draw patch other = own_refused patch _ _ other

    pub delete_refused : (row : ℕ) (patch : List ℕ)
        → let call = delete_bytes state table row patch in
        (call.answer ≡ 0 → ⊥) → call ≡ own_stays patch call.answer
    unfolding delete_bytes delete_call own_edit
    delete_refused row patch other = own_refused patch _ _ other

-- the result's bytes stay
pub compare_refused : (first second result : List ℕ)
    → let call = compare_bytes first second result in
    (call.answer ≡ 0 → ⊥) → call ≡ record { answer = call.answer; result = result }
unfolding compare_bytes
compare_refused first second result other =
    let stay : ℕ → ComparedBytes = λ n. record { answer = n; result = result } in
    refused_alike stay _ (λ (c : ComparedBytes). c.answer) (λ n. refl) stay _ _ other

-- no patch, no bytes
pub first_refused : (bytes : List ℕ) → ((first_patch bytes).answer ≡ 0 → ⊥) → (first_patch bytes).used ≡ 0
unfolding first_patch
first_refused bytes other = by (ℕ_discrete (read_first bytes).used 0)
  where
    by : Dec ((read_first bytes).used ≡ 0) → (first_patch bytes).used ≡ 0
    by (yes unused) = unused
    by (no used) = absurd (other (rw (ne_eqb (read_first bytes).used 0 used)))

-- a front of a list is as much of the list as it is long
taken_again : (n : ℕ) (l : List ℕ) → take (length (take n l)) l ≡ take n l
taken_again n l =
    subst (λ (s : List ℕ). take (length (take n l)) s ≡ take n l) (take-append-drop n l)
    (take_at (take n l) (drop n l) (length (take n l)) refl)

module _ (state table : List ℕ) (row : ℕ) where
  abbrev text_at : TextAt
  text_at = row_text state table row

  -- refused, there is no text
  pub row_text_refused : (text_at.answer ≡ 0 → ⊥) → text_at ≡ record { answer = text_at.answer; start = 0; len = 0 }
  unfolding row_text read_call
  row_text_refused other =
      let read = read_call (record_read state) table row in
      let refused : ℕ → TextRead = λ n. record { answer = n; text = [] } in
      let done : TextRead = record { answer = 0; text = text_of (row_at table row) } in
      let empty-text : read ≡ refused read.answer =
      refused_alike refused done (λ (o : TextRead). o.answer) (λ n. refl) refused done (read_checks (record_read state) table row) other in
      rw (ne_eqb read.answer 0 other) (ap (λ (o : TextRead). record { answer = read.answer; start = 0; len = length o.text })
      empty-text)

  -- what stands at the place told is the row's text
  pub row_text_there : text_at.answer ≡ 0 → take text_at.len (drop text_at.start table) ≡ text_of (row_at table row)
  unfolding row_text
  row_text_there answered =
      rw ((read_done (record_read state) table row answered).outcome, ← drop-drop 30 (row * row_size) table)
      (taken_again (text_length_of (row_at table row)) (drop 30 (row_at table row)))

-- Bytes of a wrong length are no record: the record of no host is never sound.
module _ (state table : List ℕ) (wrong : length state ≡ record_size → ⊥) where
  never_sound : unsound (record_read state) table ≡ true
  unfolding record_read
  never_sound =
      rw (ne_eqb (length state) record_size wrong)
      (refusal_is (sound? nobody table) false (λ e. absurd (true≢false (sym e)), λ sound. absurd (omega (arith, sound.own.site_least))))

  pub wrong_length_receive : (patch : List ℕ) → (receive_bytes state table patch).answer ≡ 1
  unfolding receive_bytes receive_call receive_checks first_of
  wrong_length_receive patch = rw never_sound

  pub wrong_length_insert : (row : ℕ) (text : List ℕ) (draw : ℕ) (patch : List ℕ)
      → (insert_bytes state table row text draw patch).answer ≡ 1
  unfolding insert_bytes insert_call insert_checks first_of
  wrong_length_insert row text draw patch = rw never_sound

  pub wrong_length_delete : (row : ℕ) (patch : List ℕ) → (delete_bytes state table row patch).answer ≡ 1
  unfolding delete_bytes delete_call delete_checks first_of
  wrong_length_delete row patch = rw never_sound

  pub wrong_length_row_text : (row : ℕ) → (row_text state table row).answer ≡ 1
  unfolding row_text read_call read_checks first_of
  wrong_length_row_text row = rw never_sound

  -- start looks at the site first
  pub wrong_length_start : (site : ℕ) → 1 ≤ site → site ≤ 16 → (start_bytes state table site).answer ≡ 1
  unfolding start_bytes start_call start_checks first_of
  wrong_length_start site least most = rw (ne_eqb (length state) record_size wrong, le-leb 1 site least, le-leb site 16 most)
