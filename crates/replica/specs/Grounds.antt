-- What several operations refuse or look at (01, 'Answer numbers').
-- Assumes nothing.
use Rattle.std.specs.Prelude.{ℕ, Bool, not, List, eqb}
use Rattle.std.proofs.Math.Bool.{decide}
use Rattle.record.specs.declared.Replica.{Replica}
use Rattle.record.specs.Records.{count_of}
use Rattle.script.proofs.Decided.{sound?}

-- 1: "record or table not sound, or wrong length"
abbrev pub unsound : Replica → List ℕ → Bool
unsound r table = not (decide (sound? r table))

-- 7: "512 rows are in use"
abbrev pub full : Replica → Bool
full r = eqb r.rows 512

-- the own count
abbrev pub own_count : Replica → ℕ
own_count r = count_of r.counts r.site
