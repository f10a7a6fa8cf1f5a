-- What the numbers of the answers tell: an answer of 0 is no refusal.
-- Assumes nothing.
use Prim.Native.Nat.{ℕ, ◌≤◌}
use native.Mathlib.Omega.{arith}
use mathlib.Core.Path.{◌≡◌, refl}
use Rattle.std.specs.Prelude.{Result, Ok, Err, IsOk}
use Rattle.format.specs.declared.answers.Refusal.{Refusal}
use Rattle.format.specs.Answers.{refusal_number, done_number}

-- no refusal has the number 0: what answers 0 is done
refusal_least : (why : Refusal) → 1 ≤ refusal_number why
refusal_least why = grind arith

pub done_ok : (o : Result ℕ Refusal) → done_number o ≡ 0 → IsOk o
done_ok (Ok n) done = refl
done_ok (Err why) done = absurd (omega (arith, done, refusal_least why))
