-- A text of at most n bytes, copied over n zeros, is filled up with zeros.
-- Assumes nothing.
use Prim.Native.Nat.{ℕ, ◌≤◌}
use mathlib.Core.Path.{◌≡◌}
use mathlib.Core.List.{List, ◌++◌}
use lib.ListN.{length, take, drop, length-replicate}
use lib.Seq.{take_all}
use Rattle.rows.specs.Rows.{filled}
use Rattle.rows.proofs.Slots.{zeros, filled_is}
use Rattle.rows.proofs.Bytes.{drop-replicate}

pub copied_filled : (n : ℕ) (text : List ℕ) → length text ≤ n
    → filled n text ≡ take (length (zeros n)) text ++ drop (length text) (zeros n)
copied_filled n text h =
    rw (length-replicate {A = ℕ} n 0, take_all n text h, drop-replicate {A = ℕ} 0 (length text) n, filled_is n text h)
