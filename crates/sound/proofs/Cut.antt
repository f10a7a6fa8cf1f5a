-- The rows of a table as the scan has them, cut to 78 bytes each: what is decided of one is what is decided of
-- the table's bytes from its first on.
-- Assumes nothing.
use Prim.Native.Nat.{ℕ, zero, suc, ◌+◌, ◌*◌, ◌/◌, ◌≤◌, ◌<◌}
use native.Mathlib.Nat.{zero-mul}
use native.Mathlib.Omega.{arith}
use mathlib.Core.Path.{◌≡◌, refl, sym, ap, ◌∙◌}
use mathlib.Core.Logic.{◌↔◌}
use mathlib.Core.List.{List, []}
use lib.ListN.{length, take, drop, get_or}
use lib.Seq.{get_or-drop, drop-drop}
use Rattle.std.specs.Simd.{first_chunks}
use Rattle.std.proofs.lemmas.List.{get_or-take}
use Rattle.rows.specs.Numbers.{num_at}
use Rattle.rows.specs.Rows.{Upto, AllZero}
use Rattle.script.specs.Lines.{table_size, used_of, row_at}
use Rattle.sound.specs.Steps.{RowFits, word, RowRises, rows_in, row_of, Fits, LastFits, TableFits}

-- two rows with the same 78 bytes
abbrev pub Same : List ℕ → List ℕ → Type 0
Same a b = Upto 78 (λ j. get_or a j 0 ≡ get_or b j 0)

module _ (a b : List ℕ) (same : Same a b) where
  num_same : (n at : ℕ) → at + n ≤ 78 → num_at n a at ≡ num_at n b at
  unfolding num_at
  num_same zero at h = refl
  num_same (suc n) at h = rw (num_same n at (omega arith), same (at + n) (omega arith))

  pub same_word : (k : ℕ) → k < 3 → word a k ≡ word b k
  same_word k h = num_same 8 (k * 8 + 1) (omega arith)

  pub same_first : num_at 2 a 1 ≡ num_at 2 b 1
  same_first = num_same 2 1 (omega arith)

  pub same_fits : (counts : List ℕ) → RowFits counts a → RowFits counts b
  same_fits counts h =
      let used = same 0 (omega arith) in
      let length = same 29 (omega arith) in
      let author = same (3 * used_of a) (omega (arith, h.used_most)) in
      let number = num_same 4 25 (omega arith) in
      record {
        used_least = rw used at h.used_least;
        used_most = rw used at h.used_most;
        text_length = rw length at h.text_length;
        slots = λ j l.
            rw (← used, ← same (j + 1) (omega arith), ← same (j + 2) (omega arith), ← same (j + 3) (omega arith)) (h.slots j l);
        text = λ j l. rw (← length, ← same (j + 30) (omega arith)) (h.text j l);
        author = rw (← used, ← author) h.author;
        number_least = rw number at h.number_least;
        counted = rw (← number, ← used, ← author) h.counted;
      }

-- where two rows rise, so do two with the same bytes
pub same_rises : (a b c d : List ℕ) → Same a b → Same c d → RowRises a c → RowRises b d
same_rises a b c d h k l =
    rw (
      ← same_word a b h 0 (omega arith),
      ← same_word a b h 1 (omega arith),
      ← same_word a b h 2 (omega arith),
      ← same_word c d k 0 (omega arith),
      ← same_word c d k 1 (omega arith),
      ← same_word c d k 2 (omega arith),
    )
    l

chunk_at : (n k i : ℕ) (s : List ℕ) → i < k → get_or (first_chunks n k s) i [] ≡ take n (drop (i * n) s)
chunk_at n (suc k) zero s h = rw zero-mul refl
chunk_at n (suc k) (suc i) s h =
    let next : n + i * n ≡ suc i * n = omega arith in
    chunk_at n k i (drop n s) (omega arith) ∙ ap (take n) (drop-drop (i * n) n s ∙ ap (λ (m : ℕ). drop m s) next)
chunk_at n zero i s h = absurd (omega arith)

chunk_count : (n k : ℕ) (s : List ℕ) → length (first_chunks n k s) ≡ k
chunk_count n zero s = refl
chunk_count n (suc k) s = ap suc (chunk_count n k (drop n s))

module _ (n : ℕ) (t : List ℕ) where
  pub rows_count : length (rows_in n t) ≡ n
  rows_count = chunk_count 78 n (take (n * 78) t)

  pub row_same : (i : ℕ) → i < n → Same (row_of (rows_in n t) i) (row_at t i)
  row_same i h j l =
      ap (λ (s : List ℕ). get_or s j 0) (chunk_at 78 n i (take (n * 78) t) h)
      ∙ get_or-take 78 (drop (i * 78) (take (n * 78) t)) j 0 l
      ∙ get_or-drop (i * 78) (take (n * 78) t) j 0
      ∙ get_or-take (n * 78) t (i * 78 + j) 0 (omega arith)
      ∙ sym (get_or-drop (i * 78) t j 0)

-- What the scan decides, of the parts of a table as they are cut.
pub told : (n : ℕ) (counts t used unused : List ℕ) (rows : List (List ℕ)) → length t ≡ table_size
    → used ≡ take (n * 78) t → unused ≡ row_at t n → length used ≡ n * 78 → rows ≡ first_chunks 78 (length used / 78) used
    → TableFits n counts t ↔ (Upto (length rows) (Fits counts rows) × (LastFits rows × AllZero unused))
told n counts t used unused rows size front behind long cut = (
  λ h. rw (is, behind) (rw (rows_count n t) h.each, (h.last, h.unused)),
  λ h.
      let parts : Upto (length (rows_in n t)) (Fits counts (rows_in n t)) × (LastFits (rows_in n t) × AllZero (row_at t n)) =
      rw (is, behind) at h in
      record { size = size; each = rw (rows_count n t) at parts.0; last = parts.1.0; unused = parts.1.1 },
)
  where
    count : length used / 78 ≡ n
    count = omega arith

    is : rows ≡ rows_in n t
    is = cut ∙ ap (λ (k : ℕ). first_chunks 78 k used) count ∙ ap (first_chunks 78 n) front
