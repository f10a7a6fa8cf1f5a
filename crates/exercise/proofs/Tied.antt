-- A host's calls over bytes, said of what the host holds: where record and table hold h, a call that is done
-- leaves bytes that hold the effect of its patch on h, and a refused one leaves them as they were. Here start
-- and own edits; receive is proofs/Received.antt.
-- Assumes nothing.
use Prim.Native.Nat.{ℕ, ◌≤◌}
use mathlib.Core.Path.{◌≡◌, refl, sym, ap, ap₂, subst, subst₂, ◌∙◌}
use mathlib.Core.Bool.{Bool, not}
use mathlib.Core.List.{List}
use lib.ListN.{length, take, replicate}
use borrow.Author.Tests.{le-leb, eq-eqb}
use Rattle.position.specs.declared.Position.{Position}
use Rattle.position.specs.Positions.{position_of}
use Rattle.position.proofs.Ids.{position_ids}
use Rattle.rows.specs.Rows.{filled}
use Rattle.record.specs.declared.Replica.{Replica}
use Rattle.record.specs.Records.{record_size, record_bytes, record_of, record_read, record_written}
use Rattle.record.proofs.RecordBack.{sound_fits, record_length, record_back}
use Rattle.script.specs.Lines.{Line, table_size, decode_row, row_at, decode_table}
use Rattle.script.specs.Sound.{Sound}
use Rattle.format.specs.declared.Edit.{Edit}
use Rattle.format.specs.declared.Edit.TheVariants.{Insert, Delete}
use Rattle.format.specs.declared.Patch.{Patch}
use Rattle.format.specs.Answers.{first_of}
use Rattle.format.specs.Patches.{patch_bytes}
use Rattle.format.proofs.Checked.{Passed, either_way, passed_done}
use Rattle.reader.specs.declared.Reading.{Reading}
use Rattle.reader.specs.Read.{reading_of, read_one}
use Rattle.reader.proofs.Readings.{one_reads_back}
use Rattle.effect.specs.Held.{Held, Outcome, held_in, record_holding, table_holding, unchanged, leaving}
use Rattle.effect.specs.Effect.{done_answer, effect, Takes}
use Rattle.effect.proofs.Keeps.{SoundHeld, held_sound, held_back}
use Rattle.replica.specs.Start.{empty, start_checks, start_call}
use Rattle.edits.specs.Own.{OwnOutcome, untouched, own_patch, own_edit}
use Rattle.edits.specs.Insert.{place_before, position_made, insert_checks, insert_call}
use Rattle.edits.specs.Delete.{delete_checks, delete_call}
use Rattle.edits.proofs.OwnDone.{OwnDone}
use Rattle.edits.proofs.Inserted.{insert_done}
use Rattle.edits.proofs.Deleted.{row_struck, delete_done}
use Rattle.host.specs.Calls.{Called, called, start_bytes, OwnCalled, insert_bytes, delete_bytes}
use Rattle.exercise.specs.Scripts.{patch_of, beside_of}

-- the bytes hold it
pub record Holding (h : Held) (state table : List ℕ) : Type 0 where
  pub record_is : state ≡ record_bytes (record_holding h)
  pub table_is : table ≡ table_holding h

-- an own patch, made by a host that holds h
pub record Made (h : Held) (b : List ℕ) : Type 0 where
  pub author : (patch_of b).author ≡ h.site
  pub before : (patch_of b).before ≡ h.counts
  -- a delete's line is there
  pub aims : done_answer (patch_of b) (patch_of b).edit h.lines ≡ 0
  -- its bytes are the patch's own
  pub written : b ≡ patch_bytes (patch_of b) (beside_of b)

-- What a host that held h tells with a patch that it made, where record and table then are these bytes.
pub record OwnTold (h : Held) (b state table : List ℕ) : Type 0 where
  pub takes : Takes h (patch_of b) (beside_of b)
  pub made : Made h b
  pub holds : Holding (effect h (patch_of b) (beside_of b)) state table

-- Bytes of a record's length are written over by those of any record.
module _ (state : List ℕ) (size : length state ≡ record_size) where
  pub written_back : (r : Replica) → record_written r state ≡ record_bytes r
  unfolding record_written
  written_back r = rw (eq-eqb (length state) record_size size)

  -- what a done operation leaves, the bytes hold
  pub left_holding : (h : Held) (r : Replica) (table : List ℕ) → r ≡ record_holding h → table ≡ table_holding h
      → Holding h (record_written r state) table
  left_holding h r table record-left table-left =
      record { record_is = written_back r ∙ ap record_bytes record-left; table_is = table-left }

-- Start with bytes of the two lengths and a site passes its checks,
start_passed : (table : List ℕ) (site : ℕ) → length table ≡ table_size → 1 ≤ site → site ≤ 16 → Passed (start_checks table site)
unfolding start_checks
start_passed table site size least most =
    (rw (le-leb 1 site least, le-leb site 16 most), (ap not (eq-eqb (length table) table_size size), tt))

-- and leaves bytes that hold an empty script.
pub start_holds : (state table : List ℕ) → length state ≡ record_size → length table ≡ table_size
    → (site : ℕ) → 1 ≤ site → site ≤ 16
    → let c = start_bytes state table site in (c.answer ≡ 0) × Holding (empty site) c.state c.table
unfolding start_bytes start_call
start_holds state table size table-size site least most =
    let r = record_read state in
    let o = start_call r table site in
    let done : o ≡ leaving 0 (empty site) =
    passed_done (unchanged r table) (leaving 0 (empty site)) (start_checks table site) (start_passed table site table-size least most) in
    let is : start_bytes state table site ≡ called state o = rw (eq-eqb (length state) record_size size) in
    subst (λ (c : Called). (c.answer ≡ 0) × Holding (empty site) c.state c.table) (sym is) (
      ap (λ (v : Outcome). v.answer) done,
      left_holding state size (empty site) o.replica o.table
          (ap (λ (v : Outcome). v.replica) done) (ap (λ (v : Outcome). v.table) done),
    )

-- A host that holds h.
module _ (h : Held) (sound : SoundHeld h) (state table : List ℕ) (holds : Holding h state table) where
  abbrev r : Replica
  r = record_read state

  pub state_size : length state ≡ record_size
  state_size = ap length holds.record_is ∙ record_length (record_holding h) sound.size

  -- its bytes read as what it holds
  pub read_back : record_read state ≡ record_holding h
  unfolding record_read
  read_back =
      let fits = sound_fits (record_holding h) sound.size (held_sound h sound).own in
      rw (eq-eqb (length state) record_size state_size) (ap record_of holds.record_is ∙ record_back (record_holding h) fits)

  pub held_read : held_in (record_read state) table ≡ h
  held_read = ap₂ held_in read_back holds.table_is ∙ held_back h sound

  pub sound_read : Sound (record_read state) table
  sound_read = subst₂ Sound (sym read_back) (sym holds.table_is) (held_sound h sound)

  -- there are sixteen counts
  counts_size_lem : length r.counts ≡ 16
  counts_size_lem = ap (λ (v : Replica). length v.counts) read_back ∙ sound.size

  -- the record, read and written back
  pub record_stays : record_written r state ≡ state
  record_stays = written_back state state_size r ∙ ap record_bytes read_back ∙ sym holds.record_is

  -- a done own edit: the bytes written read as the patch made
  own_told : (buffer : List ℕ) (place : Position) (edit : Edit) (text : List ℕ) (o : OwnOutcome)
      → let p = own_patch r place edit in
      OwnDone r table buffer p text o → done_answer p edit (decode_table r.rows table) ≡ 0
      → OwnTold h (take o.length o.buffer) (record_written o.replica state) o.table
  unfolding own_edit
  own_told buffer place edit text o done answers =
      let p = own_patch r place edit in
      let b = take o.length o.buffer in
      let now = held_in r table in
      let reads : reading_of p text ≡ read_one b = sym (ap read_one done.bytes ∙ one_reads_back p text done.takes.patch) in
      let left : Holding (effect now p text) (record_written o.replica state) o.table =
      left_holding state state_size (effect now p text) o.replica o.table
      (ap (λ (v : OwnOutcome). v.replica) done.outcome) (ap (λ (v : OwnOutcome). v.table) done.outcome) in
      subst (λ (k : Held). OwnTold k b (record_written o.replica state) o.table) held_read
      (record {
        takes = subst (λ (v : Reading). Takes now v.patch v.text) reads done.takes;
        made = record {
          author = ap (λ (v : Reading). v.patch.author) (sym reads);
          before = ap (λ (v : Reading). v.patch.before) (sym reads);
          aims = subst (λ (v : Reading). done_answer v.patch v.patch.edit now.lines ≡ 0) reads answers;
          written = done.bytes ∙ ap (λ (v : Reading). patch_bytes v.patch v.text) reads;
        };
        holds = subst (λ (v : Reading). Holding (effect now v.patch v.text) (record_written o.replica state) o.table) reads left;
      })

  -- a refused one: record and table stay
  own_stays : (buffer : List ℕ) (p : Patch) (text : List ℕ) (checks : List (Bool × ℕ))
      → let o = first_of checks (untouched r table buffer) (own_edit r table buffer p text) in
      (o.answer ≡ 0 → ⊥) → (record_written o.replica state ≡ state) × (o.table ≡ table)
  unfolding own_edit
  own_stays buffer p text checks =
      either_way (untouched r table buffer) (own_edit r table buffer p text)
      (λ (o : OwnOutcome). (o.answer ≡ 0 → ⊥) → (record_written o.replica state ≡ state) × (o.table ≡ table))
      checks (λ n other. (record_stays, refl)) (λ passed other. absurd (other refl))

  module _ (row : ℕ) (text : List ℕ) (draw : ℕ) (buffer : List ℕ) where
    abbrev inserted : OwnCalled
    inserted = insert_bytes state table row text draw buffer

    pub insert_tells : inserted.answer ≡ 0
        → OwnTold h (take inserted.written inserted.patch) inserted.state inserted.table
    unfolding insert_bytes done_answer
    insert_tells answered =
        own_told buffer (position_made (place_before r table row draw)) (Insert (length text)) (filled 48 text)
        (insert_call r table row draw text buffer) (insert_done r table row draw text buffer counts_size_lem answered).1 refl

    pub insert_stays : (inserted.answer ≡ 0 → ⊥) → (inserted.state ≡ state) × (inserted.table ≡ table)
    unfolding insert_bytes insert_call
    insert_stays =
        let made = place_before r table row draw in
        own_stays buffer (own_patch r (position_made made) (Insert (length text))) (filled 48 text) (insert_checks r table row text buffer made)

  module _ (row : ℕ) (buffer : List ℕ) where
    abbrev deleted : OwnCalled
    deleted = delete_bytes state table row buffer

    abbrev l : Line
    l = decode_row (row_at table row)

    abbrev p : Patch
    p = own_patch r (position_of l.position) (Delete l.number)

    pub delete_tells : deleted.answer ≡ 0
        → OwnTold h (take deleted.written deleted.patch) deleted.state deleted.table
    unfolding delete_bytes done_answer
    delete_tells answered =
        let told = delete_done r table row buffer counts_size_lem answered in
        let struck : done_answer p p.edit (decode_table r.rows table) ≡ 0 =
        rw (position_ids, row_struck r table row told.0.sound told.0.inside) in
        own_told buffer (position_of l.position) (Delete l.number) (replicate 48 0) (delete_call r table row buffer) told.1 struck

    pub delete_stays : (deleted.answer ≡ 0 → ⊥) → (deleted.state ≡ state) × (deleted.table ≡ table)
    unfolding delete_bytes delete_call
    delete_stays = own_stays buffer p (replicate 48 0) (delete_checks r table row buffer)
