-- Whether counts cover a Before is decided.
-- Assumes nothing.
use Prim.Native.Nat.{ℕ}
use native.Mathlib.Decide.{dec_le}
use mathlib.Core.List.{List}
use lib.ListN.{get_or}
use Rattle.position.proofs.Decided.{each_below?}
use Rattle.effect.specs.Effect.{Covers}

pub covers? : (counts before : List ℕ) → Dec (Covers counts before)
covers? counts before = each_below? (λ i. dec_le (get_or before i 0) (get_or counts i 0)) 16
