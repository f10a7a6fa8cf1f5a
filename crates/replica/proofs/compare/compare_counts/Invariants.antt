-- The sites passed have been given what one side lacks.
use Rattle.std.proofs.Common.{ℕ, ◌≡◌, ◌<◌, None, length, get_or}
use Rattle.replica.specs.Compare.{lack_of, lack_given}
use Rattle.replica.proofs.compare.compare_counts.Given as goal

abbrev pub invariant-loop-i : goal.invariant-loop-i
invariant-loop-i l =
    (length l.sites ≡ 16)
    × ((k : ℕ) → k < l.i → lack_given (get_or l.sites k None) ≡ lack_of (get_or l.first k 0) (get_or l.second k 0))
