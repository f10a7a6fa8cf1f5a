-- A record by its parts: what is read of each part is the record, and what is written of each its bytes.
-- Assumes nothing.
use Prim.Native.Nat.{ℕ, ◌-◌, ◌<◌}
use native.Mathlib.Omega.{arith}
use mathlib.Core.Path.{◌≡◌, sym, ap, ◌∙◌}
use mathlib.Core.List.{List, ◌++◌, append_assoc}
use borrow.Author.Tests.{eq-eqb, ne_eqb}
use borrow.Rule.Slice.PartMut.{mid_of}
use lib.ListN.{length, get_or-replicate, length-append, replicate}
use lib.Seq.{ext_get_or}
use Rattle.std.specs.Array.{AllOfLen}
use Rattle.rows.specs.Numbers.{num_at, bytes_of}
use Rattle.rows.specs.Rows.{flat, written}
use Rattle.rows.proofs.Digits.{num_one, bytes_length}
use Rattle.rows.proofs.Slots.{flat_length}
use Rattle.rows.proofs.Bytes.{rest_lent, written_both, all_written}
use Rattle.record.specs.declared.Replica.{Replica}
use Rattle.record.specs.Records.{counts_of, record_of, record_read, record_bytes, record_written}

-- the site, the rows and the counts, each read where it stands
pub parts_read : (s counts : List ℕ) (site rows : ℕ) → length s ≡ 67 → site ≡ num_at 1 s 0 → rows ≡ num_at 2 s 1
    → counts ≡ counts_of (mid_of 3 (length s - 3) s)
    → ◌≡◌ {A = Replica} (record { site = site; rows = rows; counts = counts }) (record_read s)
unfolding record_read record_of
parts_read s counts site rows h site-is rows-is counts-are =
    rw (eq-eqb (length s) 67 h) (λ d. record {
      site = (site-is ∙ num_one 0 s) d;
      rows = rows-is d;
      counts = (counts-are ∙ ap counts_of (rest_lent 3 s)) d;
    })

-- where there is no record, the default is read
pub none_read : (s : List ℕ) (r : Replica) → (length s ≡ 67 → ⊥) → r.site ≡ 0 → r.rows ≡ 0
    → AllOfLen (λ count. count ≡ 0) r.counts 16 → r ≡ record_read s
unfolding record_read
none_read s r other site rows zero =
    let counts : r.counts ≡ replicate 16 0 =
    ext_get_or 0 r.counts (replicate 16 0) zero.long (λ i b.
    let inside : i < 16 = omega (arith, zero.long) in
    zero.at i 0 inside ∙ sym (get_or-replicate 16 i 0 0 inside)) in
    rw (ne_eqb (length s) 67 other) (λ d. record { site = site d; rows = rows d; counts = counts d })

-- the site, the rows and the counts written behind one another are all the bytes
pub parts_written : (r : Replica) (s : List ℕ) → length s ≡ 67 → length r.counts ≡ 16
    → written 3 (flat (bytes_of 4) r.counts)
    (written 1 (bytes_of 2 r.rows) (written 0 (bytes_of 1 r.site) s))
    ≡ record_written r s
unfolding record_written record_bytes
parts_written r s h k =
    let site = bytes_of 1 r.site in
    let rows = bytes_of 2 r.rows in
    let counts = flat (bytes_of 4) r.counts in
    let front : length (site ++ rows) ≡ 3 = simp (length-append, bytes_length) in
    let behind : length counts ≡ 64 = omega (arith, flat_length (bytes_of 4) 4 (bytes_length 4) r.counts) in
    let whole : length s ≡ length ((site ++ rows) ++ counts) = rw length-append (omega arith) in
    ap (written 3 counts) (written_both 0 1 site rows s (omega (arith, bytes_length 1 r.site)) (omega arith))
    ∙ written_both 0 3 (site ++ rows) counts s (omega arith) (omega arith)
    ∙ all_written ((site ++ rows) ++ counts) s whole
    ∙ rw (eq-eqb (length s) 67 h) (append_assoc site rows counts)
