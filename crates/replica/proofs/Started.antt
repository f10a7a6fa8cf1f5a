-- Start: a table that is cleared has no lines; where it answers 0, record and table are sound, the script is empty
-- and nothing is counted.
-- Assumes nothing.
use Prim.Native.Nat.{ℕ, ◌≤◌}
use native.Mathlib.Omega.{arith}
use mathlib.Core.Path.{◌≡◌, refl, sym, ap, ◌∙◌, subst}
use mathlib.Core.Bool.{Bool, true, false, true≢false, ◌&&◌}
use mathlib.Core.List.{List, []}
use borrow.Author.Tests.{leb-true, not-false}
use lib.Dec.{leb}
use native.Mathlib.Nat.{sub-zero}
use Rattle.rows.specs.Rows.{filled, flat, slots_of}
use Rattle.rows.proofs.Slots.{zeros, filled_is}
use Rattle.script.specs.Lines.{table_size, encode_table}
use lib.ListN.{length-replicate, get_or-replicate}
use Rattle.record.specs.declared.Replica.{Replica}
use Rattle.script.specs.Sound.{Sound}
use Rattle.format.proofs.Checked.{Passed, either_way, answer_done}
use Rattle.effect.specs.Held.{Outcome, held_in, unchanged, leaving}
use Rattle.effect.proofs.Keeps.{SoundHeld, held_sound, held_back}
use Rattle.replica.specs.Start.{empty, start_checks, start_call}

nothing_filled : (n : ℕ) → filled n [] ≡ zeros n
nothing_filled n = filled_is n [] (omega arith) ∙ rw (sub-zero n)

-- the table of no lines; its size stays a variable, as zeros of a literal number would be computed
pub no_lines : (n : ℕ) → n ≡ table_size → encode_table [] ≡ zeros n
unfolding encode_table slots_of flat
no_lines n size = subst (λ (k : ℕ). filled k [] ≡ zeros n) size (nothing_filled n)

pub empty_sound : (site : ℕ) → 1 ≤ site → site ≤ 16 → SoundHeld (empty site)
empty_sound site least most =
    record {
      site_least = least;
      site_most = most;
      size = length-replicate {A = ℕ} 16 0;
      counts = λ i h. rw (get_or-replicate {A = ℕ} 16 i 0 0 h) (omega arith);
      lines = record {
        most = omega arith;
        line = λ i h. absurd (omega arith);
        rising = λ i h. absurd (omega arith);
      };
    }

both : (a b : Bool) → (a && b) ≡ true → (a ≡ true) × (b ≡ true)
both true b e = (refl, e)
both false b e = absurd (true≢false (sym e))

pub site_range : (site : ℕ) → (leb 1 site && leb site 16) ≡ true → (1 ≤ site) × (site ≤ 16)
site_range site e =
    let tests = both (leb 1 site) (leb site 16) e in
    (leb-true 1 site tests.0, leb-true site 16 tests.1)

module _ (r : Replica) (table : List ℕ) (site : ℕ) where
  abbrev call : Outcome
  call = start_call r table site

  abbrev done : Outcome
  done = leaving 0 (empty site)

  -- where all checks have passed, the number is a site
  site_held : Passed (start_checks table site) → SoundHeld (empty site)
  unfolding start_checks
  site_held (is-site, _) =
      let range = site_range site (not-false (leb 1 site && leb site 16) is-site) in
      empty_sound site range.0 range.1

  pub start_sound : Sound r table → Sound call.replica call.table
  unfolding start_call
  start_sound sound =
      either_way (unchanged r table) done (λ (o : Outcome). Sound o.replica o.table) (start_checks table site)
      (λ n. sound) (λ passed. held_sound (empty site) (site_held passed))

  -- what the answer 0 tells
  pub record Started : Type 0 where
    pub sound : Sound call.replica call.table
    pub held : held_in call.replica call.table ≡ empty site

  pub start_done : call.answer ≡ 0 → Started
  unfolding start_call start_checks
  start_done answered =
      let checks = start_checks table site in
      let told = answer_done (unchanged r table) done (λ (o : Outcome). o.answer) (λ n. refl) 0 checks refl answered in
      let held = site_held told.0 in
      record {
        sound = subst (λ (o : Outcome). Sound o.replica o.table) (sym told.1) (held_sound (empty site) held);
        held = ap (λ (o : Outcome). held_in o.replica o.table) told.1 ∙ held_back (empty site) held;
      }
