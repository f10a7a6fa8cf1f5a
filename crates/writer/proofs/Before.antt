-- Writing Before: after some counts, their entries are written, with one byte left in front of them for how
-- many they are.
-- Assumes nothing.
use Prim.Native.Nat.{ℕ, ◌+◌, ◌*◌, ◌≤◌, ◌<◌}
use native.Mathlib.Omega.{arith}
use mathlib.Core.Path.{◌≡◌, refl, sym}
use mathlib.Core.List.{List, [], ◌∷◌, append-nil}
use lib.ListN.{length, take, get_or, length-append}
use lib.Seq.{take_all}
use Rattle.rows.specs.Numbers.{bytes_of}
use Rattle.rows.specs.Rows.{flat, written}
use Rattle.rows.proofs.Digits.{bytes_length}
use Rattle.rows.proofs.Slots.{flat_append, flat_length}
use Rattle.rows.proofs.Bytes.{nothing_written}
use Rattle.format.specs.declared.Entry.{Entry}
use Rattle.format.specs.Patches.{encode_entry, entries_from, before_bytes}
use Rattle.format.proofs.Entries.{no_entry_more, entry_more}
use Rattle.format.proofs.Sections.{section_counted}
use Rattle.format.proofs.Sizes.{entry_length, before_length}
use Rattle.writer.proofs.Behind.{written_three}

-- the entries of the first i counts
abbrev pub entries_to : ℕ → List ℕ → List Entry
entries_to i counts = entries_from 1 (take i counts)

-- before the first count nothing is written
pub none_written : (s : List ℕ) → written 1 (flat encode_entry (entries_from 1 [])) s ≡ s
unfolding flat entries_from
none_written s = sym (nothing_written 1 s)

pub none_counted : length (entries_from 1 []) ≡ 0
unfolding entries_from
none_counted = refl

-- one entry more, its site and then its count
module _ (counts : List ℕ) (i : ℕ) (inside : i < length counts) (some : 0 < get_or counts i 0) where
  abbrev own : Entry
  own = record { site = 1 + i; count = get_or counts i 0 }

  pub one_counted : length (entries_to (i + 1) counts) ≡ length (entries_to i counts) + 1
  one_counted = rw (entry_more 1 i counts inside some) (length-append (entries_to i counts) (own ∷ []))

  pub one_written : (at end site : ℕ) (s : List ℕ) → at ≡ 1 + 5 * length (entries_to i counts) → end ≡ at + 1 → site ≡ i + 1 → end ≤ length s
      → written end (bytes_of 4 (get_or counts i 0)) (written at (bytes_of 1 site) (written 1 (flat encode_entry (entries_to i counts)) s))
      ≡ written 1 (flat encode_entry (entries_to (i + 1) counts)) s
  unfolding encode_entry flat
  one_written at end site s n e third room =
      let passed = entries_to i counts in
      let own_site : site ≡ 1 + i = omega arith in
      rw (own_site, entry_more 1 i counts inside some, flat_append, append-nil)
      (written_three 1 at end (flat encode_entry passed) (bytes_of 1 (1 + i)) (bytes_of 4 (get_or counts i 0)) s
      (omega (arith, flat_length encode_entry 5 entry_length passed)) (omega (arith, bytes_length 1 (1 + i))) room)

-- all counts passed, and the number of their entries written in front of them
module _ (counts : List ℕ) (i n : ℕ) (all : length counts ≤ i) (number : n ≡ length (entries_to i counts)) where
  pub all_counted : length (before_bytes counts) ≡ 1 + 5 * n
  all_counted = omega (arith, rw (take_all i counts all) at number, before_length counts)

  pub all_written : (s : List ℕ) → 1 ≤ length s → written 0 (bytes_of 1 n) (written 1 (flat encode_entry (entries_to i counts)) s) ≡ written 0 (before_bytes counts) s
  unfolding before_bytes
  all_written s room = rw (number, take_all i counts all) (section_counted (length (entries_from 1 counts)) (flat encode_entry (entries_from 1 counts)) 0 s room)

pub ruleset steps = (none_written, none_counted, one_written, one_counted, no_entry_more, all_written, all_counted)
