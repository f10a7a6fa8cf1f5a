-- Elements read one behind the other, as many as a count in front of them says: at most one such list is told by
-- the bytes, what a loop that reads them has after each turn, and the section that is told by the count and the
-- list. Of any element; whether one fits may depend on the one before it.
-- Assumes nothing.
use Prim.Native.Nat.{ℕ, ◌+◌, ◌<◌}
use native.Mathlib.Nat.{le_of_suc-le-suc, suc_inj}
use native.Mathlib.Omega.{arith}
use mathlib.Core.Path.{◌≡◌, refl, sym, ap, subst, ◌∙◌}
use mathlib.Core.List.{List, [], ◌∷◌, ◌++◌, append-nil, append_assoc}
use lib.ListN.{length, length-append}
use Rattle.rows.specs.Numbers.{bytes_of}
use Rattle.rows.specs.Rows.{flat}
use Rattle.rows.proofs.Slots.{flat_append}
use Rattle.reader.specs.Steps.{Found, Missing, Within}
use Rattle.reader.proofs.Codes.{Unique, unique_byte, encode_both, FitBoth, unique_both, Retold, unique_retold}
use Rattle.reader.proofs.Composed.{found_both, missing_first, missing_second, found_retold, missing_retold}

-- What is read: `After last x` says that x fits behind an element whose mark is `last`.
pub record Elements (A : Type 0) : Type 1 where
  pub encode : A → List ℕ
  pub mark : A → ℕ
  pub After : ℕ → A → Type 0
  pub unique : (last : ℕ) → Unique encode (After last)

-- each element fits behind the one before it
pub data Behind {A : Type 0} (E : Elements A) : ℕ → List A → Type 0 where
  none : {last : ℕ} → Behind E last []
  next : {last : ℕ} {x : A} {xs : List A} → E.After last x → Behind E (E.mark x) xs → Behind E last (x ∷ xs)

-- n elements, the first behind 0
abbrev pub ListFits : {A : Type 0} → Elements A → ℕ → List A → Type 0
ListFits E n xs = (length xs ≡ n) × Behind E 0 xs

-- the mark of the last element, or what stands before the first
unfoldable pub last_mark : {A : Type 0} → Elements A → ℕ → List A → ℕ
last_mark E last [] = last
last_mark E last (x ∷ xs) = last_mark E (E.mark x) xs

-- One element more.

module _ {A : Type 0} (E : Elements A) (x : A) where
  mark_more : (last : ℕ) (xs : List A) → last_mark E last (xs ++ (x ∷ [])) ≡ E.mark x
  unfolding last_mark
  mark_more last [] = refl
  mark_more last (y ∷ xs) = mark_more (E.mark y) xs

  behind_more : {last : ℕ} {xs : List A} → Behind E last xs → E.After (last_mark E last xs) x
      → Behind E last (xs ++ (x ∷ []))
  unfolding last_mark
  behind_more none fits = next fits none
  behind_more (next first later) fits = next first (behind_more later fits)

  bytes_more : (xs : List A) → flat E.encode (xs ++ (x ∷ [])) ≡ flat E.encode xs ++ E.encode x
  unfolding flat
  bytes_more xs = rw (flat_append, append-nil)

module _ {A : Type 0} (E : Elements A) where
  -- the first elements of lists with the same bytes are one
  first_same : {last : ℕ} {x y : A} (xs ys : List A) (s t : List ℕ) → E.After last x → E.After last y
      → flat E.encode (x ∷ xs) ++ s ≡ flat E.encode (y ∷ ys) ++ t
      → (x ≡ y) × (flat E.encode xs ++ s ≡ flat E.encode ys ++ t)
  unfolding flat
  first_same {last} {x} {y} xs ys s t here its e =
      (E.unique last).only x y (flat E.encode xs ++ s) (flat E.encode ys ++ t) here its
      (sym (append_assoc (E.encode x) (flat E.encode xs) s) ∙ e ∙ append_assoc (E.encode y) (flat E.encode ys) t)

  -- bytes begin with at most one list of as many
  same_list : {last : ℕ} {xs ys : List A} (s t : List ℕ) → length xs ≡ length ys → Behind E last xs → Behind E last ys
      → flat E.encode xs ++ s ≡ flat E.encode ys ++ t → (xs ≡ ys) × (s ≡ t)
  unfolding flat
  same_list s t size none none e = (refl, e)
  same_list s t size none (next its behind) e = absurd (omega (arith, size))
  same_list s t size (next here later) none e = absurd (omega (arith, size))
  same_list s t size (next {x = x} {xs = xs} here later) (next {x = y} {xs = ys} its behind) e =
      let one = first_same xs ys s t here its e in
      let behind-x = subst (λ (z : A). Behind E (E.mark z) ys) (sym one.0) behind in
      let rest = same_list s t (suc_inj size) later behind-x one.1 in
      (λ i. one.0 i ∷ rest.0 i, rest.1)

  unique_list : (n : ℕ) → Unique (flat E.encode) (ListFits E n)
  unique_list n =
      record { only = λ xs ys s t fits-x fits-y. same_list s t (fits-x.0 ∙ sym fits-y.0) fits-x.1 fits-y.1 }

  -- where no element that fits is behind xs, no longer list is there
  none_longer : {last : ℕ} {xs ys : List A} (s t : List ℕ) → length xs < length ys → Behind E last xs → Behind E last ys
      → flat E.encode xs ++ s ≡ flat E.encode ys ++ t → Missing E.encode (E.After (last_mark E last xs)) s → ⊥
  unfolding flat last_mark
  none_longer s t less none none e missing = omega (arith, less)
  none_longer s t less none (next {x = y} {xs = ys} its behind) e missing =
      missing.none y (flat E.encode ys ++ t)
      (record { fits = its; bytes = e ∙ append_assoc (E.encode y) (flat E.encode ys) t })
  none_longer s t less (next here later) none e missing = omega (arith, less)
  none_longer s t less (next {x = x} {xs = xs} here later) (next {x = y} {xs = ys} its behind) e missing =
      let one = first_same xs ys s t here its e in
      let behind-x = subst (λ (z : A). Behind E (E.mark z) ys) (sym one.0) behind in
      none_longer s t (le_of_suc-le-suc less) later behind-x one.1 missing

-- What a loop that reads from bytes s on has after i turns: i elements, the mark of the last, and what is left of
-- the bytes. `Held` is what it keeps of the elements.
pub record Turn {A : Type 0} (E : Elements A) (Held : List A → Type 0) (s : List ℕ) (i last : ℕ) (left : List ℕ) : Type 0 where
  pub xs : List A
  pub size : length xs ≡ i
  pub fits : Behind E 0 xs
  pub mark : last_mark E 0 xs ≡ last
  pub held : Held xs
  pub bytes : s ≡ flat E.encode xs ++ left

module _ {A : Type 0} {E : Elements A} {Held : List A → Type 0} where
  -- before the first turn
  pub first_turn : {s : List ℕ} → Held [] → Turn E Held s 0 0 s
  unfolding flat last_mark
  first_turn held = record { xs = []; size = refl; fits = none; mark = refl; held = held; bytes = refl }

  -- one turn more
  pub turn_more : {Held' : List A → Type 0} {s : List ℕ} {i last : ℕ} {left : List ℕ} {x : A} {end : List ℕ}
      → Turn E Held s i last left → Found E.encode (E.After last) left x end
      → ((xs : List A) → length xs ≡ i → Held xs → Held' (xs ++ (x ∷ [])))
      → Turn E Held' s (i + 1) (E.mark x) end
  turn_more {x = x} {end} turn found keep =
      let xs = turn.xs in
      record {
        xs = xs ++ (x ∷ []);
        size = length-append xs (x ∷ []) ∙ ap (λ (n : ℕ). n + 1) turn.size;
        fits = behind_more E x turn.fits (subst (λ (n : ℕ). E.After n x) (sym turn.mark) found.fits);
        mark = mark_more E x 0 xs;
        held = keep xs turn.size turn.held;
        bytes =
            turn.bytes ∙ ap (λ (l : List ℕ). flat E.encode xs ++ l) found.bytes
            ∙ sym (append_assoc (flat E.encode xs) (E.encode x) end)
            ∙ ap (λ (l : List ℕ). l ++ end) (sym (bytes_more E x xs));
      }

-- A section: a count, then as many elements.

abbrev pub encode_counted : {A : Type 0} → Elements A → ℕ × List A → List ℕ
encode_counted E = encode_both (bytes_of 1) (λ _. flat E.encode)

abbrev pub CountedFit : {A : Type 0} → Elements A → ℕ → ℕ → ℕ × List A → Type 0
CountedFit E least most = FitBoth (Within least most) (ListFits E)

-- and the value that is told by both
module _ {A B : Type 0} (E : Elements A) {least most : ℕ} (small : most < 256) {to : ℕ × List A → B} {from : B → ℕ × List A}
    {encodeB : B → List ℕ} {Fits : B → Type 0} (told : Retold to from (encode_counted E) (CountedFit E least most) encodeB Fits) where
  -- bytes begin with at most one
  pub unique_section : Unique encodeB Fits
  unique_section = unique_retold told (unique_both (unique_byte least most small) (λ _. flat E.encode) (ListFits E) (λ n _. unique_list E n))

  -- the count is not there
  pub section_none : {s : List ℕ} → Missing (bytes_of 1) (Within least most) s → Missing encodeB Fits s
  section_none missing = missing_retold told (missing_first (λ _. flat E.encode) (ListFits E) missing)

  module _ {Held : List A → Type 0} {s t left : List ℕ} {n i last : ℕ}
      (count : Found (bytes_of 1) (Within least most) s n t) (turn : Turn E Held t i last left) where
    -- the loop stops before it has as many
    pub section_stops : i < n → Missing E.encode (E.After last) left → Missing encodeB Fits s
    section_stops less missing =
        let nothing = subst (λ (m : ℕ). Missing E.encode (E.After m) left) (sym turn.mark) missing in
        missing_retold told
        (missing_second (λ _. flat E.encode) (ListFits E) (unique_byte least most small) count
        (record {
          none = λ ys rest found.
              none_longer E left rest (omega (arith, turn.size, found.fits.0, less)) turn.fits found.fits.1
              (sym turn.bytes ∙ found.bytes) nothing;
        }))

    -- it has as many
    pub section_ends : {v : B} → i ≡ n → ((xs : List A) → Held xs → v ≡ to (n, xs)) → Found encodeB Fits s v left
    section_ends all same =
        subst (λ (v : B). Found encodeB Fits s v left) (sym (same turn.xs turn.held))
        (found_retold told
        (found_both (λ _. flat E.encode) (ListFits E) count
        (record { fits = (turn.size ∙ all, turn.fits); bytes = turn.bytes })))
