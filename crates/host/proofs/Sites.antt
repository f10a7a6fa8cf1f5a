-- The three numbers of a site stand one behind the other, and so do the sites.
-- Assumes nothing.
use Rattle.std.proofs.Common.{ℕ, ◌+◌, ◌*◌, ◌≤◌, ◌≡◌, ap, ◌∙◌, arith, List, [], ◌∷◌, ◌++◌, append_assoc, length, take, get_or, map, length-append, refl, suc, zero}
use Rattle.std.proofs.lemmas.List.{length-map}
use Rattle.std.proofs.Common.{Option, None}
use lib.Seq.{take_all}
use Rattle.rows.specs.Numbers.{bytes_of}
use Rattle.rows.specs.Rows.{flat, written}
use Rattle.rows.proofs.Digits.{bytes_length}
use Rattle.rows.proofs.Bytes.{all_written, written_both, element_written}
use Rattle.rows.proofs.Slots.{flat_length}
use Rattle.replica.specs.declared.compare.Missing.{Missing}
use Rattle.replica.specs.Compare.{Lack, no_lack, lack_given}
use Rattle.host.specs.Calls.{lacks_size, lack_bytes}

lack_length : (l : Lack) → length (lack_bytes l) ≡ 9
unfolding lack_bytes
lack_length l = simp (length-append, bytes_length)

-- the three numbers of a site, one behind the other
pub lack_written : (l : Lack) (at : ℕ) (s : List ℕ) → at + 9 ≤ length s
    → written (at + 5) (bytes_of 4 l.last) (written (at + 1) (bytes_of 4 l.first) (written at (bytes_of 1 l.more) s))
    ≡ written at (lack_bytes l) s
unfolding lack_bytes
lack_written l at s room =
    let more = bytes_of 1 l.more in
    let first = bytes_of 4 l.first in
    let last = bytes_of 4 l.last in
    let front : length (more ++ first) ≡ 5 = simp (length-append, bytes_length) in
    ap (written (at + 5) last) (written_both at (at + 1) more first s (omega (arith, bytes_length 1 l.more)) (omega arith))
    ∙ written_both at (at + 5) (more ++ first) last s (omega arith) (omega arith)
    ∙ ap (λ (bytes : List ℕ). written at bytes s) (append_assoc more first last)

-- what is given of a site
given_at : (sites : List (Option Missing)) (i : ℕ) → get_or (map lack_given sites) i no_lack ≡ lack_given (get_or sites i None)
given_at [] i = refl
given_at (x ∷ sites) zero = refl
given_at (x ∷ sites) (suc i) = given_at sites i

module _ (sites : List (Option Missing)) (size : length sites ≡ 16) where
  abbrev lacks : List Lack
  lacks = map lack_given sites

  -- one site more
  pub lack_more : (i : ℕ) (s t : List ℕ) → i ≤ 15 → length s ≡ lacks_size → t ≡ written 0 (flat lack_bytes (take i lacks)) s
      → written (i * 9) (lack_bytes (lack_given (get_or sites i None))) t ≡ written 0 (flat lack_bytes (take (i + 1) lacks)) s
  lack_more i s t inside long e =
      rw (e, ← given_at sites i)
      (element_written lack_bytes 9 lack_length lacks i no_lack (omega (arith, length-map sites lack_given)) 0 (i * 9) s (omega arith) (omega arith))

  -- every site passed
  pub all_lacks : (i : ℕ) (s : List ℕ) → i ≡ 16 → length s ≡ lacks_size
      → written 0 (flat lack_bytes (take i lacks)) s ≡ flat lack_bytes lacks
  all_lacks i s end long =
      let all : take i lacks ≡ lacks = take_all i lacks (omega (arith, length-map sites lack_given)) in
      let bytes : length (flat lack_bytes lacks) ≡ length lacks * 9 = flat_length lack_bytes 9 lack_length lacks in
      rw all (all_written (flat lack_bytes lacks) s (omega (arith, length-map sites lack_given)))
