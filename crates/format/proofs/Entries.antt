-- The entries of Before, of counts that stand behind others.
-- Assumes nothing.
use Prim.Native.Nat.{ℕ, zero, suc, ◌+◌, ◌<◌}
use native.Mathlib.Nat.{add-zero, add-suc, suc-add}
use native.Mathlib.Numerals.{add-one}
use native.Mathlib.Omega.{arith}
use mathlib.Core.Path.{◌≡◌, refl, ap, ◌∙◌}
use mathlib.Core.List.{List, [], ◌∷◌, ◌++◌, append-nil}
use lib.ListN.{length, take, get_or}
use lib.Seq.{take-suc, length-take-le}
use Rattle.format.specs.declared.Entry.{Entry}
use Rattle.format.specs.Patches.{entries_from}

-- the entries of counts behind others are behind theirs
entries_append : (site : ℕ) (counts more : List ℕ)
    → entries_from site (counts ++ more) ≡ entries_from site counts ++ entries_from (site + length counts) more
unfolding entries_from
entries_append site [] more = rw add-zero
entries_append site (zero ∷ counts) more = rw (add-suc, ← suc-add) (entries_append (suc site) counts more)
entries_append site (suc n ∷ counts) more =
    rw (add-suc, ← suc-add)
    (ap (λ (l : List Entry). record { site = site; count = suc n } ∷ l) (entries_append (suc site) counts more))

-- a count that is not zero has one entry, in front of those behind it
pub entries_first : (site count : ℕ) (counts : List ℕ) → 0 < count
    → entries_from site (count ∷ counts) ≡ record { site = site; count = count } ∷ entries_from (suc site) counts
unfolding entries_from
entries_first site zero counts h = absurd (omega arith)
entries_first site (suc n) counts h = refl

-- The entries of one count more: those there were, and its own where it is not zero.
module _ (site i : ℕ) (counts : List ℕ) (inside : i < length counts) where
  entries_next : entries_from site (take (i + 1) counts) ≡ entries_from site (take i counts) ++ entries_from (site + i) (get_or counts i 0 ∷ [])
  entries_next =
      let passed : length (take i counts) ≡ i = length-take-le i counts (omega arith) in
      rw (add-one, take-suc counts i 0 inside) (rw passed at (entries_append site (take i counts) (get_or counts i 0 ∷ [])))

  pub no_entry_more : get_or counts i 0 ≡ 0 → entries_from site (take (i + 1) counts) ≡ entries_from site (take i counts)
  unfolding entries_from
  no_entry_more zero-there = rw zero-there at entries_next ∙ append-nil (entries_from site (take i counts))

  pub entry_more : 0 < get_or counts i 0
      → entries_from site (take (i + 1) counts) ≡ entries_from site (take i counts) ++ (record { site = site + i; count = get_or counts i 0 } ∷ [])
  unfolding entries_from
  entry_more some = rw (entries_first (site + i) (get_or counts i 0) [] some) at entries_next
