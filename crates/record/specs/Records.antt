-- The record and its bytes across the C boundary (01, 'The record and the table').
-- Assumes nothing.
use Rattle.std.specs.Prelude.{ℕ, ◌-◌, ◌≤◌, cond, List, ◌++◌, eqb, length, drop, get_or, replicate}
use Rattle.rows.specs.Numbers.{num_at, bytes_of}
use Rattle.rows.specs.Rows.{flat, rows_of, Upto}
use Rattle.record.specs.declared.Replica.{Replica}

-- "for each of the 16 sites a count": that of site 1 stands first
abbrev pub count_of : List ℕ → ℕ → ℕ
count_of counts site = get_or counts (site - 1) 0

-- "a count is 0 to 1,000,000"
abbrev pub CountsFit : List ℕ → Type 0
CountsFit counts = Upto 16 (λ i. get_or counts i 0 ≤ 1000000)

-- "all ranges hold" of the record: "Site: 1 to 16", "Rows: 0 to 512", "a count is 0 to 1,000,000"
pub record SoundRecord (r : Replica) : Type 0 where
  pub site_least : 1 ≤ r.site
  pub site_most : r.site ≤ 16
  pub rows : r.rows ≤ 512
  pub counts : CountsFit r.counts

-- "Across the C boundary it is 67 bytes: site (1), rows (2), sixteen counts (4 each)."
abbrev pub record_size : ℕ
record_size = 67

abbrev pub counts_size : ℕ
counts_size = 64

unfoldable pub record_bytes : Replica → List ℕ
record_bytes r = bytes_of 1 r.site ++ (bytes_of 2 r.rows ++ flat (bytes_of 4) r.counts)

-- the number at the front
abbrev pub count_first : List ℕ → ℕ
count_first s = num_at 4 s 0

-- the "sixteen counts" at the front
abbrev pub counts_of : List ℕ → List ℕ
counts_of s = rows_of count_first 4 16 s

-- the record of 67 bytes
unfoldable pub record_of : List ℕ → Replica
record_of s = record { site = get_or s 0 0; rows = num_at 2 s 1; counts = counts_of (drop 3 s) }

-- the record of no host: site 0, so it is never sound
abbrev pub nobody : Replica
nobody = record { site = 0; rows = 0; counts = replicate 16 0 }

-- what is read: any other length has no record
unfoldable pub record_read : List ℕ → Replica
record_read s = cond (eqb (length s) record_size) (record_of s) nobody

-- what stands in a lent slice after the record is written into it: any other length stays as it was
unfoldable pub record_written : Replica → List ℕ → List ℕ
record_written r s = cond (eqb (length s) record_size) (record_bytes r) s
