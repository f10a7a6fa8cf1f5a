-- The record and its 67 bytes give each other back.
-- Assumes nothing.
use Prim.Native.Nat.{ℕ, ◌-◌, ◌*◌, ◌^◌, ◌<◌}
use native.Mathlib.Omega.{arith}
use mathlib.Core.Path.{◌≡◌, refl, ap, ◌∙◌}
use mathlib.Core.List.{List, [], ◌++◌, append-nil}
use lib.ListN.{length, take, drop, length-append, length-drop}
use lib.Seq.{take_all, take-add, drop-drop}
use Rattle.rows.specs.Numbers.{bytes_of}
use Rattle.rows.specs.Rows.{flat, rows_of}
use Rattle.rows.proofs.Digits.{Bytes, bytes_drop, read_on, bytes_length}
use Rattle.rows.proofs.Digits.{num_back, num_there, bytes_back, byte_there, byte_back}
use Rattle.rows.proofs.Slots.{Each, flat_length, rows_back, rows_bytes}
use Rattle.record.specs.declared.Replica.{Replica}
use Rattle.record.specs.Records.{SoundRecord, record_bytes, count_first, record_of}

-- a record that its bytes can hold
pub record FittingRecord (r : Replica) : Type 0 where
  pub site : r.site < 256
  pub rows : r.rows < 65536
  pub sites : length r.counts ≡ 16
  pub counts : Each 0 (λ count. count < 256 ^ 4) r.counts

-- a sound record fits
pub sound_fits : (r : Replica) → length r.counts ≡ 16 → SoundRecord r → FittingRecord r
sound_fits r sites sound =
    record {
      site = omega (arith, sound.site_most);
      rows = omega (arith, sound.rows);
      sites = sites;
      counts = λ i h. omega (arith, sound.counts i (omega arith));
    }

pub record_length : (r : Replica) → length r.counts ≡ 16 → length (record_bytes r) ≡ 67
unfolding record_bytes
record_length r h = simp (length-append, bytes_length, flat_length (bytes_of 4) 4 (bytes_length 4), h)

pub record_back : (r : Replica) → FittingRecord r → record_of (record_bytes r) ≡ r
unfolding record_bytes record_of
record_back r fits =
    let site = bytes_of 1 r.site in
    let rows = bytes_of 2 r.rows in
    let counts = flat (bytes_of 4) r.counts in
    let all = site ++ (rows ++ counts) in
    let from_1 : drop 1 all ≡ rows ++ counts =
    read_on 0 1 all site (rows ++ counts) refl (bytes_length 1 r.site) in
    let from-3 : drop 3 all ≡ counts = read_on 1 2 all rows counts from_1 (bytes_length 2 r.rows) in
    let counts-back : rows_of count_first 4 16 (drop 3 all) ≡ r.counts =
    rw from-3
    (rw (append-nil, fits.sites) at (rows_back (bytes_of 4) 4 (bytes_length 4) (λ v. v < 256 ^ 4) count_first
    (λ v h rest. num_back 4 v rest h) 0 r.counts fits.counts [])) in
    λ d. record {
      site = byte_there r.site 0 all (rows ++ counts) fits.site refl d;
      rows = num_there 2 r.rows 1 all counts fits.rows from_1 d;
      counts = counts-back d;
    }

pub bytes_of_record : (s : List ℕ) → Bytes s → length s ≡ 67 → record_bytes (record_of s) ≡ s
unfolding record_bytes record_of
bytes_of_record s b h =
    let counts = drop 3 s in
    let long : length counts ≡ 64 = length-drop 3 s ∙ ap (λ (n : ℕ). n - 3) h in
    let counts-back : flat (bytes_of 4) (rows_of count_first 4 16 counts) ≡ take 64 counts =
    rows_bytes count_first 4 (bytes_of 4) 16 counts (λ i to.
    bytes_back 4 0 (drop (i * 4) counts) (bytes_drop (i * 4) counts (bytes_drop 3 s b))
    (rw length-drop (omega arith))) in
    let parts : take 67 s ≡ take 1 s ++ (take 2 (drop 1 s) ++ take 64 counts) =
    rw (take-add 1 66 s, take-add 2 64 (drop 1 s), drop-drop 2 1 s) in
    rw (byte_back 0 s b (omega arith), bytes_back 2 1 s b (omega arith), counts-back, ← parts)
    (take_all 67 s (omega arith))
