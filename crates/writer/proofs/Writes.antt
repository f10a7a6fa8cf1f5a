-- What writing comes to, check by check.
-- Assumes nothing.
use Prim.Native.Nat.{ℕ, ◌≤◌, ◌<◌}
use native.Mathlib.Decide.{dec_lt}
use native.Mathlib.Omega.{arith}
use mathlib.Core.Path.{◌≡◌, ap}
use mathlib.Core.Logic.{by_cases}
use mathlib.Core.List.{List}
use lib.ListN.{length}
use borrow.Author.Tests.{lt-ltb, le-ltb}
use Rattle.position.proofs.Decided.{decided_true, decided_false}
use Rattle.rows.specs.Rows.{written}
use Rattle.format.specs.declared.Patch.{Patch}
use Rattle.format.specs.Patches.{most_size, patch_bytes}
use Rattle.format.specs.WellFormed.{WellFormed}
use Rattle.format.specs.Answers.{first_of}
use Rattle.format.proofs.Decided.{well_formed?}
use Rattle.writer.specs.Write.{Writing, write_checks, write_patch}

module _ (p : Patch) (text buffer : List ℕ) where
  -- 10: the buffer is too short
  pub too_short : length buffer < most_size → write_patch p text buffer ≡ record { answer = 10; length = 0; buffer = buffer }
  unfolding write_patch write_checks first_of
  too_short h = rw (lt-ltb (length buffer) most_size h)

  -- 2: the patch is malformed
  pub malformed : most_size ≤ length buffer → (WellFormed p text → ⊥) → write_patch p text buffer ≡ record { answer = 2; length = 0; buffer = buffer }
  unfolding write_patch write_checks first_of
  malformed h wrong = rw (le-ltb (length buffer) most_size h, decided_false (well_formed? p text) wrong)

  -- 0: it is written
  pub written_done : most_size ≤ length buffer → WellFormed p text
      → write_patch p text buffer ≡ record { answer = 0; length = length (patch_bytes p text); buffer = written 0 (patch_bytes p text) buffer }
  unfolding write_patch write_checks first_of
  written_done h good = rw (le-ltb (length buffer) most_size h, decided_true (well_formed? p text) good)

  -- what 0 tells
  pub answered : (write_patch p text buffer).answer ≡ 0 → (most_size ≤ length buffer) × WellFormed p text
  answered done =
      by_cases (dec_lt (length buffer) most_size)
      (λ short. absurd (omega (arith, done, ap (λ (w : Writing). w.answer) (too_short short))))
      (λ long.
      let room : most_size ≤ length buffer = omega arith in
      by_cases (well_formed? p text)
      (λ good. (room, good))
      (λ wrong. absurd (omega (arith, done, ap (λ (w : Writing). w.answer) (malformed room wrong)))))

pub ruleset steps = (too_short, malformed, written_done)
