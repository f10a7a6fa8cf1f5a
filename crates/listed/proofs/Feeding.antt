-- Patches fed one by one: what is left, from here, gives what the whole input gives. It begins at a started
-- replica, each turn takes one patch, and it ends behind the last one or behind the first answer 2.
-- Assumes nothing.
use Prim.Native.Nat.{ℕ, ◌+◌}
use native.Mathlib.Numerals.{add-one}
use native.Mathlib.Omega.{arith}
use mathlib.Core.Path.{◌≡◌, refl, sym, ap, ◌∙◌, subst}
use mathlib.Core.Bool.{not}
use mathlib.Core.List.{List, [], ◌∷◌}
use borrow.Author.Tests.{eq-eqb, ne_eqb}
use lib.ListN.{length, length-replicate}
use Rattle.std.proofs.Common.{Result, Ok, Err, IsOk}
use Rattle.std.proofs.lemmas.Grind.{common_steps}
use Rattle.record.specs.declared.Replica.{Replica}
use Rattle.script.specs.Lines.{table_size}
use Rattle.script.specs.Sound.{Sound}
use Rattle.format.specs.declared.answers.Refusal.{Refusal}
use Rattle.format.specs.Answers.{refusal_number, done_number}
use Rattle.format.proofs.Checked.{passed_done}
use Rattle.effect.specs.Held.{Outcome, unchanged}
use Rattle.effect.proofs.Keeps.{held_sound}
use Rattle.replica.specs.Start.{empty, start_checks, start_call}
use Rattle.replica.specs.Receive.{receive_call}
use Rattle.replica.proofs.Received.{receive_sound, receive_counts}
use Rattle.replica.proofs.Started.{empty_sound}
use Rattle.listed.specs.declared.output.Output.{Output}
use Rattle.listed.specs.Text.{patch_line, from_place}
use Rattle.listed.specs.Listing.{patches_in, fresh, fed, after_all}
use Rattle.listed.specs.Steps.{Puts, Feeds, outcomes_of, patch_lines}
use Rattle.listed.proofs.Shown.{Still, whole_left, less_left, none_left}

-- What is fed is sound, and has sixteen counts.

pub record Good (o : Outcome) : Type 0 where
  pub sound : Sound o.replica o.table
  pub size : length o.replica.counts ≡ 16

pub fresh_good : Good fresh
fresh_good =
    record { sound = held_sound (empty 16) (empty_sound 16 (omega arith) (omega arith)); size = length-replicate {A = ℕ} 16 0 }

pub receive_good : (o : Outcome) (bytes : List ℕ) → Good o → Good (receive_call o.replica o.table bytes)
receive_good o bytes good =
    record {
      sound = receive_sound o.replica o.table bytes good.size good.sound;
      size = receive_counts o.replica o.table bytes good.size;
    }

-- What is still to come, and what has been put out.
pub record Rest (input : List ℕ) (was : Output) (o : Outcome) (outcomes : List Outcome) (place : ℕ) (is : Output) : Type 0 where
  pub last : after_all o outcomes ≡ after_all fresh (outcomes_of input)
  pub shown : Still (patch_lines place outcomes) (patch_lines 1 (outcomes_of input)) was is

module _ {input : List ℕ} {was : Output} {o : Outcome} {place : ℕ} {is : Output} where
  -- one comes, and its line is put out
  comes : {next : Outcome} {outcomes : List Outcome} {then : Output} → Rest input was o (next ∷ outcomes) place is
      → Puts (patch_line place next.answer) is then → Rest input was next outcomes (place + 1) then
  unfolding after_all from_place
  comes rest put = record { last = rest.last; shown = rw (add-one place) (less_left rest.shown refl put) }

  -- none comes
  all_come : Rest input was o [] place is → Good o → Feeds input o.replica o.table was is
  unfolding after_all from_place
  all_come rest good =
      record {
        replica = ap (λ (l : Outcome). l.replica) rest.last;
        held = ap (λ (l : Outcome). l.table) rest.last;
        sound = good.sound;
        put = none_left rest.shown refl;
      }

-- The same where a turn begins: record and table, the place of the next patch, the patches that are left, and what
-- has been put out.
pub record Left (input : List ℕ) (was : Output) (r : Replica) (table : List ℕ) (place : ℕ) (ps : List (List ℕ)) (is : Output) : Type 0 where
  -- how the patch before was answered
  pub answer : ℕ
  pub rest : let o : Outcome = record { answer = answer; replica = r; table = table } in
      Rest input was o (fed o ps) place is
  pub good : Good (record { answer = answer; replica = r; table = table })

-- a table of the right length is started
starts : (r : Replica) (table : List ℕ) → length table ≡ table_size → start_call r table 16 ≡ fresh
unfolding start_call start_checks
starts r table size =
    passed_done (unchanged r table) fresh (start_checks table 16) (refl, (ap not (eq-eqb (length table) table_size size), tt))

-- so the start is not refused
pub not_refused : {A : Type 0} (r : Replica) (table : List ℕ) (result : Result A Refusal) (o : Outcome) → length table ≡ table_size
    → o ≡ start_call r table 16 → o.answer ≡ done_number result → IsOk result
not_refused r table (Ok x) o size is answer = refl
not_refused r table (Err why) o size is answer =
    let none : refusal_number why ≡ 0 = sym answer ∙ ap (λ (l : Outcome). l.answer) (is ∙ starts r table size) in
    absurd (grind (arith, common_steps))

-- there nothing is put out yet, and the whole input is left
pub begins : (input : List ℕ) (was : Output) (r : Replica) (table : List ℕ) (o : Outcome) → length table ≡ table_size
    → o ≡ start_call r table 16 → Left input was o.replica o.table 1 (patches_in input) was
begins input was r table o size is =
    subst (λ (from : Outcome). Left input was from.replica from.table 1 (patches_in input) was) (sym (is ∙ starts r table size))
    (record { answer = 0; rest = record { last = refl; shown = whole_left }; good = fresh_good })

-- one patch fed, and the rest if it is not malformed
module _ (o next : Outcome) (p : List ℕ) (ps : List (List ℕ)) (is : next ≡ receive_call o.replica o.table p) where
  fed_on : (next.answer ≡ 2 → ⊥) → fed o (p ∷ ps) ≡ next ∷ fed next ps
  unfolding fed
  fed_on other = rw (← is, ne_eqb next.answer 2 other)

  fed_last : next.answer ≡ 2 → fed o (p ∷ ps) ≡ next ∷ []
  unfolding fed
  fed_last malformed = rw (← is, eq-eqb next.answer 2 malformed)

module _ {input : List ℕ} {was : Output} {r : Replica} {table : List ℕ} {place : ℕ} {is : Output} where
  -- behind the last patch
  pub ends : {ps : List (List ℕ)} → Left input was r table place ps is → ps ≡ [] → Feeds input r table was is
  unfolding fed
  ends left none = all_come (rw none at left.rest) left.good

  -- a patch is received, and its line put out
  module _ {p : List ℕ} {ps left_ps : List (List ℕ)} {next : Outcome} {then : Output} (left : Left input was r table place left_ps is)
      (first : left_ps ≡ p ∷ ps) (received : next ≡ receive_call r table p) (put : Puts (patch_line place next.answer) is then) where
    abbrev o : Outcome
    o = record { answer = left.answer; replica = r; table = table }

    coming : {outcomes : List Outcome} → fed o (p ∷ ps) ≡ outcomes → Rest input was o outcomes place is
    coming e = rw (← e, ← first) left.rest

    -- whatever it answers
    stays_good : Good next
    stays_good = rw received (receive_good o p left.good)

    -- the rest is left where it is not malformed, and else nothing is
    pub goes_on : (next.answer ≡ 2 → ⊥) → Left input was next.replica next.table (place + 1) ps then
    goes_on other =
        record { answer = next.answer; rest = comes (coming (fed_on o next p ps received other)) put; good = stays_good }

    pub stops : next.answer ≡ 2 → Feeds input next.replica next.table was then
    stops malformed = all_come (comes (coming (fed_last o next p ps received malformed)) put) stays_good
