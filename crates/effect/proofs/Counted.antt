-- The counts after a patch: that of its author is one more, the others are as they were.
-- Assumes nothing.
use Prim.Native.Nat.{ℕ, suc, ◌-◌, ◌≤◌, ◌<◌}
use native.Mathlib.Omega.{arith}
use native.Mathlib.Decide.{ℕ_discrete}
use mathlib.Core.Path.{◌≡◌}
use mathlib.Core.Logic.{by_cases}
use mathlib.Core.List.{List}
use lib.ListN.{length, get_or, length-set}
use lib.Seq.{get_or-set_same, get_or-set_other}
use Rattle.record.specs.Records.{count_of, CountsFit}
use Rattle.script.proofs.Kept.{Risen}
use Rattle.effect.specs.Effect.{raised}

pub raised_length : (counts : List ℕ) (site : ℕ) → length (raised counts site) ≡ length counts
unfolding raised
raised_length counts site = length-set counts (site - 1) (suc (count_of counts site))

-- of sixteen counts
module _ (counts : List ℕ) (site : ℕ) (size : length counts ≡ 16) (least : 1 ≤ site) (most : site ≤ 16) where
  pub raised_own : count_of (raised counts site) site ≡ suc (count_of counts site)
  unfolding raised
  raised_own = get_or-set_same counts (site - 1) (suc (count_of counts site)) 0 (omega arith)

  pub raised_other : (i : ℕ) → (i ≡ site - 1 → ⊥) → get_or (raised counts site) i 0 ≡ get_or counts i 0
  unfolding raised
  raised_other i other = get_or-set_other counts (site - 1) i (suc (count_of counts site)) 0 other

  pub raised_risen : Risen counts (raised counts site)
  raised_risen i =
      by_cases (ℕ_discrete i (site - 1))
      (λ own. rw own (omega (arith, raised_own)))
      (λ other. omega (arith, raised_other i other))

  pub raised_fit : CountsFit counts → count_of counts site < 1000000 → CountsFit (raised counts site)
  raised_fit fit below i h =
      by_cases (ℕ_discrete i (site - 1))
      (λ own. rw own (omega (arith, raised_own)))
      (λ other. omega (arith, raised_other i other, fit i h))
