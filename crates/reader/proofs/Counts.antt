-- Before as entries and as sixteen counts: each gives the other back, so Before is read by its entries and
-- bytes begin with at most one.
-- Assumes nothing.
use Prim.Native.Nat.{ℕ, zero, suc, ◌+◌, ◌-◌, ◌≤◌, ◌<◌, suc-le-suc}
use native.Mathlib.Nat.{add-zero, add-suc, suc-add, zero-lt-suc}
use native.Mathlib.Omega.{arith}
use mathlib.Core.Path.{◌≡◌, refl, sym, ap, subst, ◌∙◌}
use mathlib.Core.List.{List, [], ◌∷◌, ◌++◌, append-nil, append_assoc}
use lib.ListN.{length, get_or, set, replicate, length-append, length-set, length-replicate, get_or-replicate, replicate-append-replicate}
use lib.Seq.{set_at, append_snoc}
use Rattle.rows.proofs.Slots.{Each, zeros}
use Rattle.format.specs.declared.Entry.{Entry}
use Rattle.format.specs.Patches.{encode_entry, entries_from, before_bytes}
use Rattle.format.specs.WellFormed.{BeforeFits}
use Rattle.format.proofs.Entries.{entries_first}
use Rattle.format.proofs.Sizes.{entries_most}
use Rattle.reader.specs.Read.{entered}
use Rattle.reader.specs.Steps.{Within, EntryAbove}
use Rattle.reader.proofs.Codes.{Unique, Retold}
use Rattle.reader.proofs.Sections.{unique_entry}
use Rattle.reader.proofs.Repeated.{Elements, Behind, encode_counted, CountedFit, unique_section}
use Rattle.reader.proofs.Repeated.Behind.{none, next}

-- "sites rising strictly"
abbrev pub entries : Elements Entry
entries = record { encode = encode_entry; mark = λ e. e.site; After = EntryAbove; unique = unique_entry }

-- entries that rise, the first above `last`, with counts in range
abbrev pub Rising : ℕ → List Entry → Type 0
Rising = Behind entries

-- "a count is 0 to 1,000,000"
abbrev Fitting : ℕ → Type 0
Fitting n = n ≤ 1000000

-- the entries of counts in range rise
entries_rise : (site last : ℕ) (counts : List ℕ) → last < site → site + length counts ≤ 17 → Each 0 Fitting counts
    → Rising last (entries_from site counts)
unfolding entries_from
entries_rise site last [] above short fit = none
entries_rise site last (zero ∷ counts) above short fit =
    entries_rise (suc site) last counts (omega arith) (omega arith) (λ i h. fit (suc i) (suc-le-suc h))
entries_rise site last (suc n ∷ counts) above short fit =
    let most : suc n ≤ 1000000 = fit zero (zero-lt-suc (length counts)) in
    let here : EntryAbove last (record { site = site; count = suc n }) = omega arith in
    next here (entries_rise (suc site) site counts (omega arith) (omega arith) (λ i h. fit (suc i) (suc-le-suc h)))

-- so those of Before do
pub before_rises : (counts : List ℕ) → BeforeFits counts → Rising 0 (entries_from 1 counts)
before_rises counts fits =
    let size = fits.size in
    entries_rise 1 0 counts (omega arith) (omega arith) (λ i inside. fits.most i (omega arith))

-- Entries put in.

-- one entry more
pub entered_one : (counts : List ℕ) (es : List Entry) (e : Entry)
    → entered counts (es ++ (e ∷ [])) ≡ set (entered counts es) (e.site - 1) e.count
unfolding entered
entered_one counts [] e = refl
entered_one counts (f ∷ es) e = entered_one (set counts (f.site - 1) f.count) es e

-- there are as many counts as before
entered_length : (counts : List ℕ) (es : List Entry) → length (entered counts es) ≡ length counts
unfolding entered
entered_length counts [] = refl
entered_length counts (e ∷ es) =
    entered_length (set counts (e.site - 1) e.count) es ∙ length-set counts (e.site - 1) e.count

-- each count stays in range
set_fits : (counts : List ℕ) (k n i : ℕ) → Fitting n → Fitting (get_or counts i 0) → Fitting (get_or (set counts k n) i 0)
set_fits [] k n i new old = old
set_fits (m ∷ counts) zero n zero new old = new
set_fits (m ∷ counts) zero n (suc i) new old = old
set_fits (m ∷ counts) (suc k) n zero new old = old
set_fits (m ∷ counts) (suc k) n (suc i) new old = set_fits counts k n i new old

entered_fits : {last : ℕ} {es : List Entry} (counts : List ℕ) (i : ℕ) → Rising last es → Fitting (get_or counts i 0)
    → Fitting (get_or (entered counts es) i 0)
unfolding entered
entered_fits counts i none fit = fit
entered_fits counts i (next {x = e} above later) fit =
    entered_fits (set counts (e.site - 1) e.count) i later (set_fits counts (e.site - 1) e.count i above.1.1 fit)

-- what entries that rise make fits as Before
before_fits : {es : List Entry} → Rising 0 es → BeforeFits (entered (replicate 16 0) es)
before_fits {es} rising =
    record {
      size = entered_length (replicate 16 0) es;
      most = λ i inside. entered_fits (replicate 16 0) i rising (omega (arith, get_or-replicate {A = ℕ} 16 i 0 0 inside));
    }

-- Counts from their entries.

-- one count further on
further : (front counts : List ℕ) (n : ℕ)
    → (let all = front ++ (n ∷ []) in entered (all ++ zeros (length counts)) (entries_from (suc (length all)) counts) ≡ all ++ counts)
    → entered (front ++ (n ∷ zeros (length counts))) (entries_from (suc (suc (length front))) counts) ≡ front ++ (n ∷ counts)
further front counts n later =
    let longer : length (front ++ (n ∷ [])) ≡ suc (length front) = omega (arith, length-append front (n ∷ [])) in
    rw (longer, append_snoc front n (zeros (length counts)), append_snoc front n counts) at later

-- the entries of counts, put in behind those in front, are the counts
entered_behind : (front counts : List ℕ)
    → entered (front ++ zeros (length counts)) (entries_from (suc (length front)) counts) ≡ front ++ counts
unfolding entered entries_from
entered_behind front [] = refl
entered_behind front (zero ∷ counts) = further front counts 0 (entered_behind (front ++ (0 ∷ [])) counts)
entered_behind front (suc n ∷ counts) =
    let site = suc (length front) in
    ap (λ (l : List ℕ). entered l (entries_from (suc site) counts))
    (set_at front 0 (zeros (length counts)) (suc n) (site - 1) (omega arith))
    ∙ further front counts (suc n) (entered_behind (front ++ (suc n ∷ [])) counts)

-- so sixteen counts come back from their entries
pub entered_entries : (counts : List ℕ) → length counts ≡ 16 → entered (replicate 16 0) (entries_from 1 counts) ≡ counts
entered_entries counts e = subst (λ (n : ℕ). entered (zeros n) (entries_from 1 counts) ≡ counts) e (entered_behind [] counts)

-- Entries from the counts that they make.

-- zeros have no entries
entries_zeros : (site n : ℕ) (counts : List ℕ) → entries_from site (zeros n ++ counts) ≡ entries_from (site + n) counts
unfolding entries_from
entries_zeros site zero counts = rw add-zero
entries_zeros site (suc n) counts = rw (add-suc, ← suc-add) (entries_zeros (suc site) n counts)

-- What entries that are put in behind the counts in front make there.
record Made (front : List ℕ) (es : List Entry) : Type 0 where
  rest : List ℕ
  all : entered (front ++ zeros (16 - length front)) es ≡ front ++ rest
  back : entries_from (suc (length front)) rest ≡ es

-- one entry more in front of them
module _ (front : List ℕ) (e : Entry) (es : List Entry) (above : EntryAbove (length front) e) where
  abbrev gap : ℕ
  gap = e.site - suc (length front)

  abbrev upto : List ℕ
  upto = (front ++ zeros gap) ++ (e.count ∷ [])

  upto_site : length upto ≡ e.site
  upto_site = simp (length-append, length-replicate) (omega arith)

  put_in_lem : set (front ++ zeros (16 - length front)) (e.site - 1) e.count ≡ upto ++ zeros (16 - length upto)
  put_in_lem =
      let behind = 16 - e.site in
      let many : 16 - length front ≡ gap + suc behind = omega arith in
      let split : zeros (16 - length front) ≡ zeros gap ++ (0 ∷ zeros behind) =
      ap zeros many ∙ sym (replicate-append-replicate gap (suc behind) 0) in
      let here : length (front ++ zeros gap) ≡ e.site - 1 = simp (length-append, length-replicate) (omega arith) in
      rw (split, ← append_assoc, upto_site)
      (set_at (front ++ zeros gap) 0 (zeros behind) e.count (e.site - 1) here
      ∙ sym (append_snoc (front ++ zeros gap) e.count (zeros behind)))

  made_one : Made upto es → Made front (e ∷ es)
  unfolding entered
  made_one later =
      let counted = e.count ∷ later.rest in
      let here : suc (length front) + gap ≡ e.site = omega arith in
      record {
        rest = zeros gap ++ counted;
        all =
            ap (λ (l : List ℕ). entered l es) put_in_lem ∙ later.all
            ∙ append_snoc (front ++ zeros gap) e.count later.rest ∙ append_assoc front (zeros gap) counted;
        back =
            entries_zeros (suc (length front)) gap counted ∙ ap (λ (n : ℕ). entries_from n counted) here
            ∙ entries_first e.site e.count later.rest above.1.0
            ∙ ap (λ (l : List Entry). e ∷ l) (rw upto_site at later.back);
      }

-- all of them
made : {last : ℕ} {es : List Entry} (front : List ℕ) → length front ≡ last → Rising last es → Made front es
unfolding entered entries_from
made front here none =
    let left = 16 - length front in
    let site = suc (length front) in
    record {
      rest = zeros left;
      all = refl;
      back = ap (entries_from site) (sym (append-nil (zeros left))) ∙ entries_zeros site left [];
    }
made front here (next {x = e} {xs = es} above later) =
    let above-front : EntryAbove (length front) e = subst (λ (n : ℕ). EntryAbove n e) (sym here) above in
    made_one front e es above-front (made (upto front e es above-front) (upto_site front e es above-front) later)

-- so entries that rise come back from the counts that they make
entries_entered : {es : List Entry} → Rising 0 es → entries_from 1 (entered (replicate 16 0) es) ≡ es
entries_entered rising = let whole = made [] refl rising in ap (entries_from 1) whole.all ∙ whole.back

-- Before is told by how many entries it has, and these.
pub before_told : Retold (λ p. entered (replicate 16 0) p.1) (λ counts. (length (entries_from 1 counts), entries_from 1 counts))
    (encode_counted entries) (CountedFit entries 0 16) before_bytes BeforeFits
unfolding before_bytes
before_told =
    record {
      fits_to = λ p fits. before_fits fits.1.1;
      fits_from = λ counts fits.
          let within : Within 0 16 (length (entries_from 1 counts)) = omega (arith, entries_most 1 counts, fits.size) in
          (within, (refl, before_rises counts fits));
      back = λ counts fits. entered_entries counts fits.size;
      bytes = λ p fits. rw (entries_entered fits.1.1, fits.1.0);
    }

-- bytes begin with at most one Before
pub unique_before : Unique before_bytes BeforeFits
unique_before = unique_section entries (omega arith) before_told
