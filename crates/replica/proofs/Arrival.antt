-- A patch that a sound replica takes, made elsewhere, is done on arrival: no check of receive refuses it.
-- Assumes nothing.
use Prim.Native.Nat.{ℕ, ◌<◌}
use native.Mathlib.Omega.{arith}
use borrow.Author.Tests.{lt-leb, ne_eqb}
use mathlib.Core.Path.{◌≡◌, refl, ap}
use mathlib.Core.Bool.{Bool, true, false, not, ◌&&◌}
use mathlib.Core.List.{List}
use lib.Dec.{ltb}
use lib.ListN.{length}
use Rattle.position.specs.Positions.{ids_of}
use Rattle.position.proofs.Decided.{decided_true}
use Rattle.record.specs.declared.Replica.{Replica}
use Rattle.record.specs.Records.{count_of}
use Rattle.script.specs.Lines.{decode_table}
use Rattle.script.specs.Sound.{Sound}
use Rattle.script.specs.Find.{find_in}
use Rattle.script.proofs.Decided.{sound?}
use Rattle.script.proofs.Tables.{lines_length}
use Rattle.format.specs.declared.Patch.{Patch}
use Rattle.format.specs.Patches.{patch_bytes}
use Rattle.format.proofs.Checked.{Passed, passed_done}
use Rattle.format.proofs.Sizes.{sizes}
use Rattle.reader.specs.Read.{reading_of}
use Rattle.reader.proofs.Readings.{one_reads_back}
use Rattle.effect.specs.Held.{held_in, unchanged}
use Rattle.effect.specs.Effect.{is_row, done_by, inserts, Takes}
use Rattle.effect.proofs.Decided.{covers?}
use Rattle.replica.specs.Grounds.{full, own_count}
use Rattle.replica.specs.Receive.{receive_checks, receive_call}

-- a ground that only an insert has
only_insert : (b ground : Bool) → (b ≡ true → ground ≡ false) → (b && ground) ≡ false
only_insert true ground passes = passes refl
only_insert false ground passes = refl

-- one check and those behind it
infixr 20 ◌also◌
◌also◌ : {A B : Type 0} → A → B → A × B
a also b = (a, b)

module _ (r : Replica) (table : List ℕ) (p : Patch) (text : List ℕ) (sound : Sound r table)
    (takes : Takes (held_in r table) p text) (other : p.author ≡ r.site → ⊥) where
  takes_passed : Passed (receive_checks r table (reading_of p text))
  unfolding receive_checks
  takes_passed =
      let count = count_of r.counts p.author in
      let some : length (patch_bytes p text) ≡ 0 → ⊥ = λ none. omega (arith, (sizes p text takes.patch).0) in
      let above : count < p.number = omega (arith, takes.next) in
      let left : inserts p.edit ≡ true → full r ≡ false =
      λ is. ne_eqb r.rows 512 (λ e. omega (arith, takes.room is, lines_length r.rows table)) in
      ap not (decided_true (sound? r table) sound) also
      ne_eqb (length (patch_bytes p text)) 0 some also
      ap (λ (b : Bool). b && ltb (own_count r) p.number) (ne_eqb p.author r.site other) also
      lt-leb p.number count above also
      ap not (decided_true (covers? r.counts p.before) takes.before) also
      only_insert (inserts p.edit) (is_row (find_in (ids_of p.place) (decode_table r.rows table))) takes.free also
      only_insert (inserts p.edit) (full r) left also
      tt

  pub takes_done : receive_call r table (patch_bytes p text) ≡ done_by r table p text
  unfolding receive_call
  takes_done =
      rw (one_reads_back p text takes.patch)
      (passed_done (unchanged r table) (done_by r table p text) (receive_checks r table (reading_of p text)) takes_passed)
