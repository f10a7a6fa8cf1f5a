-- Comparing two sets of sixteen counts (01, 'Answer numbers').
-- Assumes nothing.
use Rattle.std.specs.Prelude.{ℕ, suc, Bool, cond, not, ◌&&◌, ltb, replicate, map, Option, None, Some, Result, Ok, Err}
use Rattle.std.proofs.Math.Bool.{decide}
use mathlib.Core.List.{List, [], ◌∷◌, zip_with}
use Rattle.record.proofs.Decided.{counts_fit?}
use Rattle.format.specs.declared.answers.Refusal.{Refusal}
use Rattle.format.specs.Answers.{first_of, refusal_number}
use Rattle.replica.specs.declared.compare.Side.{Side}
use Rattle.replica.specs.declared.compare.Side.TheVariants.{First, Second}
use Rattle.replica.specs.declared.compare.Missing.{Missing}

-- What comparing gives of a site, in 01's numbers: "which side has more (0 none, 1 first, 2 second) and the first and
-- last number that the other side lacks".
pub record Lack : Type 0 where
  pub more : ℕ
  pub first : ℕ
  pub last : ℕ

-- the answer, and what it gives of each site
pub record Compared : Type 0 where
  pub answer : ℕ
  pub sites : List Lack

-- "0 none", "two zeros where equal"
abbrev pub no_lack : Lack
no_lack = record { more = 0; first = 0; last = 0 }

-- "which side has more (0 none, 1 first, 2 second) and the first and last number that the other side
-- lacks: smaller count plus 1 and larger count, or two zeros where equal"
unfoldable pub lack_of : ℕ → ℕ → Lack
lack_of a b =
    cond (ltb b a) (record { more = 1; first = suc b; last = a })
    (cond (ltb a b) (record { more = 2; first = suc a; last = b }) no_lack)

-- "refuses with 1 if a count is above 1,000,000"
unfoldable pub compare_checks : List ℕ → List ℕ → List (Bool × ℕ)
compare_checks first second =
    (not (decide (counts_fit? first) && decide (counts_fit? second)), 1) ∷
    []

-- "giving zeros only. Otherwise it gives for each site" what the other side lacks
unfoldable pub compare_call : List ℕ → List ℕ → Compared
compare_call first second =
    first_of (compare_checks first second) (λ n. record { answer = n; sites = replicate 16 no_lack })
    (record { answer = 0; sites = zip_with lack_of first second })

-- "which side has more (0 none, 1 first, 2 second)": the number of a side that has more
abbrev pub side_number : Side → ℕ
side_number First = 1
side_number Second = 2

-- a site at which one side lacks something, in 01's numbers; none, "two zeros where equal"
abbrev pub lack_given : Option Missing → Lack
lack_given None = no_lack
lack_given (Some m) = record { more = side_number m.more; first = m.first; last = m.last }

-- what comparing came to: refused, "giving zeros only"
abbrev pub compared : Result (List (Option Missing)) Refusal → Compared
compared (Ok sites) = record { answer = 0; sites = map lack_given sites }
compared (Err why) = record { answer = refusal_number why; sites = replicate 16 no_lack }
