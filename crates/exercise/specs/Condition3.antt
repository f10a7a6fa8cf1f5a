-- Condition 3, and the two facts that hold under its premises (01, 'Answer numbers'), of an exercise as it stands.
-- All is said of the bytes of records, tables and patches, and of the calls' own definitions.
-- Assumes nothing.
use Rattle.std.specs.Prelude.{ℕ, ◌+◌, ◌-◌, ◌≤◌, ◌≡◌, ◌↔◌, ◌⊎◌, length, drop, get_or}
use mathlib.Core.List.{List, Memᴰ}
use Rattle.rows.specs.Rows.{flat}
use Rattle.record.specs.Records.{count_of, record_read}
use Rattle.script.specs.Lines.{Line, decode_table}
use Rattle.replica.specs.Compare.{Lack, no_lack, compare_call}
use Rattle.host.specs.Calls.{lacks_size, lack_bytes, receive_bytes, compare_bytes}
use Rattle.exercise.specs.World.{Host, World, Site, host_of}
use Rattle.exercise.specs.Scripts.{patch_of, Script}
use Rattle.exercise.specs.Tally.{struck_in, inserts_in}
use Rattle.exercise.specs.Offered.{answers}

-- the counts of a host's record, and the lines of its table
abbrev pub counts_at : Host → List ℕ
counts_at h = (record_read h.state).counts

abbrev pub lines_at : Host → List Line
lines_at h = decode_table (record_read h.state).rows h.table

-- a patch is number n of site a
abbrev pub Is : ℕ → ℕ → List ℕ → Type 0
Is a n b = ((patch_of b).author ≡ a) × ((patch_of b).number ≡ n)

-- a host has received number n of site a
abbrev pub Has : Host → ℕ → ℕ → Type 0
Has h a n = (b : List ℕ) × (Memᴰ b h.received × Is a n b)

-- "patches 1 to that count of that site have been received": exactly these
abbrev pub Counted : Host → Type 0
Counted h = (a : Site) (n : ℕ) → Has h a.number n ↔ ((1 ≤ n) × (n ≤ count_of (counts_at h) a.number))

-- "where counts differ, they name exactly the patches that one has and the other lacks": what comparing the counts
-- of two records gives for each site
abbrev pub lacks_of : Host → Host → List Lack
lacks_of h k = (compare_call (counts_at h) (counts_at k)).sites

-- it says of number n of site a that this side has it and the other lacks it
abbrev pub Says : Host → Host → ℕ → Site → ℕ → Type 0
Says h k side a n =
    let l = get_or (lacks_of h k) (a.number - 1) no_lack in
    (l.more ≡ side) × ((l.first ≤ n) × (n ≤ l.last))

pub record Named (h k : Host) : Type 0 where
  -- a host's call, on the counts as they stand in the records, gives just that
  pub compared : (result : List ℕ) → length result ≡ lacks_size
      → compare_bytes (drop 3 h.state) (drop 3 k.state) result ≡ record { answer = 0; result = flat lack_bytes (lacks_of h k) }
  pub first : (a : Site) (n : ℕ) → Says h k 1 a n ↔ (Has h a.number n × (Has k a.number n → ⊥))
  pub second : (a : Site) (n : ℕ) → Says h k 2 a n ↔ (Has k a.number n × (Has h a.number n → ⊥))

-- the patch is taken, or there is no room
abbrev pub Moves : ℕ → Type 0
Moves n = (n ≡ 0) ⊎ ((n ≡ 15) ⊎ (n ≡ 7))

-- the answers that no patch of the exercise gets
abbrev pub Strange : ℕ → Type 0
Strange n = (n ≡ 1) ⊎ ((n ≡ 2) ⊎ ((n ≡ 3) ⊎ (n ≡ 6)))

pub record Condition3 (w : World) : Type 0 where
  -- "given only each other's patches": what is received was made, and over all hosts a number of a site is one patch
  pub made : (s : Site) (b : List ℕ) → Memᴰ b (host_of w s).received → Memᴰ b w.made
  pub one_patch : (a n : ℕ) (b c : List ℕ) → Memᴰ b w.made → Memᴰ c w.made → Is a n b → Is a n c → b ≡ c
  -- "Each script is then exactly the lines whose insert it has received and whose delete it hasn't, in position order."
  pub script : (s : Site) → Script (host_of w s).received (lines_at (host_of w s))
  -- "patches 1 to that count of that site have been received"
  pub counted : (s : Site) → Counted (host_of w s)
  -- "Two replicas with equal received-counts hold equal tables"
  pub together : (s t : Site) → counts_at (host_of w s) ≡ counts_at (host_of w t) → (host_of w s).table ≡ (host_of w t).table
  pub named : (s t : Site) → Named (host_of w s) (host_of w t)
  -- "rows held plus different lines struck equals inserts done"
  pub tally : (s : Site) → length (lines_at (host_of w s)) + length (struck_in (host_of w s).received) ≡ inserts_in (host_of w s).received
  -- "If B lacks patches that A holds and is offered all of them once in any order, B takes at least one of them unless
  -- it answers 7."
  pub progress : (a b : Site) → let has = (host_of w a).received in let h = host_of w b in
      (p : List ℕ) → Memᴰ p has → (Memᴰ p h.received → ⊥)
      → (offered : List (List ℕ)) → ((c : List ℕ) → Memᴰ c has → (Memᴰ c h.received → ⊥) → Memᴰ c offered)
      → (n : ℕ) × (Memᴰ n (answers h.state h.table offered) × Moves n)
  -- record and table stay sound, no patch is malformed, none is ahead of its own site, and no place is taken twice
  pub never : (s : Site) (b : List ℕ) → Memᴰ b w.made
      → let h = host_of w s in Strange (receive_bytes h.state h.table b).answer → ⊥
