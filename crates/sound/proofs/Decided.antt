-- The scan decides soundness: beside a sound record, a table is sound exactly where it fits.
-- Assumes nothing.
use Prim.Native.Nat.{ℕ, zero, suc, ◌+◌, ◌*◌, ◌-◌, ◌≤◌, ◌<◌}
use native.Mathlib.Omega.{arith}
use mathlib.Core.Path.{◌≡◌, refl, sym, subst}
use mathlib.Core.Logic.{◌↔◌}
use mathlib.Core.List.{List, []}
use lib.ListN.{length, drop, get_or, length-drop}
use lib.Seq.{get_or-drop}
use Rattle.rows.specs.Numbers.{num_at}
use Rattle.rows.proofs.Digits.{Bytes, bytes_drop}
use Rattle.record.specs.declared.Replica.{Replica}
use Rattle.record.specs.Records.{SoundRecord}
use Rattle.script.specs.Lines.{decode_row, row_at}
use Rattle.script.specs.Sound.{Sound}
use Rattle.sound.specs.Steps.{RowFits, word, RowRises, rows_in, row_of, row_before, TableFits}
use Rattle.sound.proofs.Cut.{Same, same_first, same_fits, same_rises, rows_count, row_same}
use Rattle.sound.proofs.OneNumber.{RowPosition}
use Rattle.sound.proofs.Words.{first_integer}
use Rattle.sound.proofs.FitRow.{row_position, fits_row, row_fits, first_most}
use Rattle.sound.proofs.Rising.{rises_below, below_rises, first_rises, rises_first, last_highest}

module _ (r : Replica) (t : List ℕ) (bytes : Bytes t) where
  row_bytes : (i : ℕ) → Bytes (row_at t i)
  row_bytes i = bytes_drop (i * 78) t bytes

  position_at : (i : ℕ) → RowFits r.counts (row_at t i) → RowPosition (row_at t i)
  position_at i h = row_position r.counts (row_at t i) h (row_bytes i)

  -- the rows in use, as the scan has them
  abbrev rows : List (List ℕ)
  rows = rows_in r.rows t

  same_at : (i : ℕ) → i < r.rows → Same (row_of rows i) (row_at t i)
  same_at i l = row_same r.rows t i l

  at_same : (i : ℕ) → i < r.rows → Same (row_at t i) (row_of rows i)
  at_same i l j m = sym (same_at i l j m)

  module _ (h : TableFits r.rows r.counts t) where
    fits_here : (i : ℕ) → i < r.rows → RowFits r.counts (row_at t i)
    fits_here i l = same_fits (row_of rows i) (row_at t i) (same_at i l) r.counts (h.each i l).row

    rises_here : (i : ℕ) → suc i < r.rows → RowRises (row_at t i) (row_at t (suc i))
    unfolding row_before
    rises_here i l =
        let next = h.each (suc i) l in
        same_rises _ _ _ _ (same_at i (omega arith)) (same_at (suc i) l) next.rises

    -- rows rise, so the bound of the last row's first integer is that of every row's
    first_at : (i : ℕ) → i < r.rows → num_at 2 (row_at t i) 1 ≤ 65534
    first_at i l =
        let n = r.rows - 1 in
        let up : (j : ℕ) → j < n → word (row_at t j) 0 ≤ word (row_at t (suc j)) 0 =
        λ j k. rises_first (row_at t j) (row_at t (suc j)) (rises_here j (omega arith)) in
        let highest = last_highest (λ j. word (row_at t j) 0) n up i (omega arith) in
        let bound : num_at 2 (row_at t n) 1 ≤ 65534 =
        rw (← same_first (row_of rows n) (row_at t n) (same_at n (omega arith))) (rw (rows_count r.rows t) at h.last (omega arith)) in
        let last = (first_integer (row_at t n) (row_bytes n)).1 (omega arith) in
        omega (arith, (first_integer (row_at t i) (row_bytes i)).0 (omega arith))

    unused_row : (j : ℕ) → r.rows * 78 ≤ j → j < 39936 → get_or t j 0 ≡ 0
    unused_row j l m =
        let n = r.rows * 78 in
        let at : n + (j - n) ≡ j = omega arith in
        let inside : j - n < length (drop n t) = omega (arith, length-drop n t, h.size) in
        subst (λ (i : ℕ). get_or t i 0 ≡ 0) at (rw get_or-drop at (h.unused (j - n) inside))

    pub fits_sound : SoundRecord r → Sound r t
    unfolding decode_row
    fits_sound own =
        record {
          own = own;
          size = h.size;
          row = λ i l. fits_row r.counts (row_at t i) (fits_here i l) own.counts (first_at i l);
          unused_rows = unused_row;
          rising = λ i l.
              let here = position_at i (fits_here i (omega arith)) in
              let next = position_at (suc i) (fits_here (suc i) l) in
              rises_below (row_at t i) (row_at t (suc i)) here next (rises_here i l);
        }

  module _ (h : Sound r t) where
    fits_at : (i : ℕ) → i < r.rows → RowFits r.counts (row_at t i)
    fits_at i l = row_fits r.counts (row_at t i) (h.row i l)

    rises_at : (i : ℕ) → i < r.rows → RowRises (row_before rows i) (row_of rows i)
    unfolding decode_row row_before
    rises_at zero l =
        let fits = fits_at 0 l in
        same_rises [] [] _ _ (λ j m. refl) (at_same 0 l) (first_rises (row_at t 0) (position_at 0 fits) fits.used_least)
    rises_at (suc i) l =
        let before : i < r.rows = omega arith in
        let here = position_at i (fits_at i before) in
        let next = position_at (suc i) (fits_at (suc i) l) in
        same_rises _ _ _ _ (at_same i before) (at_same (suc i) l) (below_rises (row_at t i) (row_at t (suc i)) here next (h.rising i l))

    pub sound_fits : TableFits r.rows r.counts t
    sound_fits =
        let n = r.rows * 78 in
        record {
          size = h.size;
          each = λ i l. record { row = same_fits _ _ (at_same i l) r.counts (fits_at i l); rises = rises_at i l };
          last = rw (rows_count r.rows t) (λ l.
              let i = r.rows - 1 in
              let m : i < r.rows = omega arith in
              rw (same_first _ _ (same_at i m)) (first_most r.counts (row_at t i) (h.row i m)));
          unused = λ j l.
              let inside : n + j < 39936 = omega (arith, length-drop n t, h.size) in
              rw (get_or-drop n t j 0) (h.unused_rows (n + j) (omega arith) inside);
        }

pub decided : (r : Replica) (t : List ℕ) → Bytes t → SoundRecord r →
    Sound r t ↔ TableFits r.rows r.counts t
decided r t bytes own = (sound_fits r t bytes, λ h. fits_sound r t bytes h own)
