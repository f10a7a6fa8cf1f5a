-- Rows of one width in a slice of fixed size: elements that are written are read back, and bytes that
-- are read are written back. Of any element, encoding, decoding, width and size.
-- Assumes nothing.
use Prim.Native.Nat.{ℕ, zero, suc, ◌-◌, ◌*◌, ◌≤◌, ◌<◌, suc-le-suc}
use native.Mathlib.Nat.{add_comm, suc-mul, zero-mul, le_of_suc-le-suc, zero-lt-suc}
use native.Mathlib.Decide.{dec_lt}
use native.Mathlib.Omega.{arith}
use mathlib.Core.Path.{◌≡◌, refl, sym, ap, ◌∙◌}
use mathlib.Core.Logic.{by_cases}
use mathlib.Core.List.{List, [], ◌∷◌, ◌++◌, append_assoc}
use lib.ListN.{length, take, drop, get_or, replicate, length-append, length-take, length-replicate}
use lib.ListN.{take-append-drop, get_or-eq_default}
use lib.Seq.{length-take-le, take_all, take_at, drop_at, get_or-take, take-add, drop-drop, split_at}
use Rattle.std.proofs.lemmas.Grind.{elements}
use Rattle.rows.specs.Rows.{filled, flat, slots_of, rows_of}

-- every element, by its place; d is what is read behind the end
abbrev pub Each {ℓ κ} : {A : Type ℓ} → A → (A → Type κ) → List A → Type κ
Each d P xs = (i : ℕ) → i < length xs → P (get_or xs i d)

-- Filled up with zeros.

abbrev pub zeros : ℕ → List ℕ
zeros n = replicate n 0

pub filled_length : (n : ℕ) (l : List ℕ) → length (filled n l) ≡ n
unfolding filled
filled_length n l = simp (length-take, length-append, length-replicate) (omega arith)

-- a byte read behind a list is zero, and so is one of the zeros there
zeros_at : (n i : ℕ) → get_or (zeros n) i 0 ≡ 0
zeros_at zero i = refl
zeros_at (suc n) zero = refl
zeros_at (suc n) (suc i) = zeros_at n i

append_zeros : (l : List ℕ) (n i : ℕ) → get_or (l ++ zeros n) i 0 ≡ get_or l i 0
append_zeros [] n i = zeros_at n i
append_zeros (x ∷ l) n zero = refl
append_zeros (x ∷ l) n (suc i) = append_zeros l n i

pub filled_at : (n : ℕ) (l : List ℕ) (i : ℕ) → i < n → get_or (filled n l) i 0 ≡ get_or l i 0
unfolding filled
filled_at n l i h = get_or-take n (l ++ zeros n) i 0 h ∙ append_zeros l n i

-- what fits stands in front of the zeros
pub filled_is : (n : ℕ) (l : List ℕ) → length l ≤ n → filled n l ≡ l ++ zeros (n - length l)
unfolding filled
filled_is n l h = grind (arith, elements)

pub filled_back : (n : ℕ) (l rest : List ℕ) → length l ≤ n → take (length l) (filled n l ++ rest) ≡ l
unfolding filled
filled_back n l rest h = grind (arith, elements)

-- behind what is filled up there is zero
pub filled_zero : (n : ℕ) (l : List ℕ) (i : ℕ) → length l ≤ i → get_or (filled n l) i 0 ≡ 0
filled_zero n l i h =
    by_cases (dec_lt i n)
    (λ b. filled_at n l i b ∙ get_or-eq_default l 0 h)
    (λ b. get_or-eq_default (filled n l) 0 (omega (arith, filled_length n l)))

-- bytes that are zero from place m on are their first m, filled up
pub filled_front : (n m : ℕ) (s : List ℕ) → n ≤ length s → ((j : ℕ) → m ≤ j → j < n → get_or s j 0 ≡ 0)
    → filled n (take m s) ≡ take n s
unfolding filled
filled_front n m s h unused = grind (arith, elements)

-- Elements one behind the other, and a slice of rows read.

pub flat_append {ℓ} : {A : Type ℓ} (encode : A → List ℕ) (xs ys : List A)
    → flat encode (xs ++ ys) ≡ flat encode xs ++ flat encode ys
unfolding flat
flat_append encode [] ys = refl
flat_append encode (x ∷ xs) ys = rw (flat_append encode xs ys, append_assoc)

pub slots_length {ℓ} : {A : Type ℓ} (encode : A → List ℕ) (size : ℕ) (xs : List A)
    → length (slots_of encode size xs) ≡ size
unfolding slots_of
slots_length encode size xs = filled_length size (flat encode xs)

module _ {ℓ} {A : Type ℓ} (decode : List ℕ → A) (width : ℕ) where
  pub rows_length : (n : ℕ) (s : List ℕ) → length (rows_of decode width n s) ≡ n
  unfolding rows_of
  rows_length zero s = refl
  rows_length (suc n) s = ap suc (rows_length n (drop width s))

  -- the next row's place
  row_drop : (i : ℕ) (s : List ℕ) → drop (i * width) (drop width s) ≡ drop (suc i * width) s
  row_drop i s = rw (drop-drop, suc-mul, add_comm width (i * width))

  pub rows_at : (n i : ℕ) (s : List ℕ) (d : A) → i < n
      → get_or (rows_of decode width n s) i d ≡ decode (drop (i * width) s)
  unfolding rows_of
  rows_at (suc n) zero s d h = rw zero-mul
  rows_at (suc n) (suc i) s d h = rows_at n i (drop width s) d (le_of_suc-le-suc h) ∙ ap decode (row_drop i s)
  rows_at zero i s d h = elim h [ ]

  module _ (encode : A → List ℕ) where
    -- each of the first n rows is written as it was read
    abbrev pub WrittenAsRead : ℕ → List ℕ → Type 0
    WrittenAsRead n s =
        (i : ℕ) → i < n → encode (decode (drop (i * width) s)) ≡ take width (drop (i * width) s)

    pub rows_bytes : (n : ℕ) (s : List ℕ) → WrittenAsRead n s
        → flat encode (rows_of decode width n s) ≡ take (n * width) s
    unfolding flat rows_of
    rows_bytes zero s same = rw zero-mul
    rows_bytes (suc n) s same =
        let first : encode (decode s) ≡ take width s = rw zero-mul at (same zero (zero-lt-suc n)) in
        let later : WrittenAsRead n (drop width s) = λ i h. rw row_drop (same (suc i) (suc-le-suc h)) in
        rw (first, rows_bytes n (drop width s) later, suc-mul, add_comm (n * width) width, take-add)

    -- and with zeros behind them, up to a size, they are the slice up to there
    pub slots_front : (n size : ℕ) (s : List ℕ) → WrittenAsRead n s → size ≤ length s
        → ((j : ℕ) → n * width ≤ j → j < size → get_or s j 0 ≡ 0)
        → slots_of encode size (rows_of decode width n s) ≡ take size s
    unfolding slots_of
    slots_front n size s same h unused =
        rw (rows_bytes n s same) (filled_front size (n * width) s h unused)

    pub slots_bytes : (n size : ℕ) (s : List ℕ) → WrittenAsRead n s → length s ≡ size
        → ((j : ℕ) → n * width ≤ j → j < size → get_or s j 0 ≡ 0)
        → slots_of encode size (rows_of decode width n s) ≡ s
    slots_bytes n size s same e unused =
        slots_front n size s same (omega arith) unused ∙ take_all size s (omega arith)

module _ {ℓ} {A : Type ℓ} (encode : A → List ℕ) (width : ℕ) (each : (x : A) → length (encode x) ≡ width) where
  pub flat_length : (xs : List A) → length (flat encode xs) ≡ length xs * width
  unfolding flat
  flat_length [] = rw zero-mul
  flat_length (x ∷ xs) = simp (length-append, each, flat_length xs) (omega arith)

  -- elements that fit: their bytes, and zeros
  pub slots_is : (size : ℕ) (xs : List A) → length xs * width ≤ size
      → slots_of encode size xs ≡ flat encode xs ++ zeros (size - length xs * width)
  unfolding slots_of
  slots_is size xs fits = rw (← flat_length xs) (filled_is size (flat encode xs) (rw flat_length fits))

  pub zero_behind : (size : ℕ) (xs : List A) (j : ℕ) → length xs * width ≤ j
      → get_or (slots_of encode size xs) j 0 ≡ 0
  unfolding slots_of
  zero_behind size xs j h = filled_zero size (flat encode xs) j (rw flat_length h)

  -- row k is the bytes of element k
  pub row_of_lem : (size : ℕ) (xs : List A) (k : ℕ) (d : A) → k < length xs → length xs * width ≤ size
      → take width (drop (k * width) (slots_of encode size xs)) ≡ encode (get_or xs k d)
  unfolding flat
  row_of_lem size xs k d h fits =
      let front = flat encode (take k xs) in
      let own = encode (get_or xs k d) in
      let later = flat encode (drop (suc k) xs) ++ zeros (size - length xs * width) in
      let whole : flat encode xs ≡ front ++ (own ++ flat encode (drop (suc k) xs)) =
      ap (flat encode) (split_at xs k d h) ∙ flat_append encode (take k xs) (get_or xs k d ∷ drop (suc k) xs) in
      let at_row : length front ≡ k * width = rw (flat_length, length-take-le k xs (omega arith)) in
      rw (slots_is size xs fits, whole, append_assoc, append_assoc)
      (rw (drop_at front (own ++ later) (k * width) at_row) (take_at own later width (each (get_or xs k d))))

  -- and the rows behind it follow
  pub row_front : (size : ℕ) (xs : List A) (k : ℕ) (d : A) → k < length xs → length xs * width ≤ size
      → let s = slots_of encode size xs in drop (k * width) s ≡ encode (get_or xs k d) ++ drop (suc k * width) s
  row_front size xs k d h fits =
      sym (take-append-drop width (drop (k * width) (slots_of encode size xs)))
      ∙ rw (row_of_lem size xs k d h fits, drop-drop, suc-mul)

  -- What is written is read back: `Good` are the elements of which this holds one by one.
  module _ {κ} (Good : A → Type κ) (decode : List ℕ → A)
      (back : (x : A) → Good x → (rest : List ℕ) → decode (encode x ++ rest) ≡ x) (d : A) where
    pub rows_back : (xs : List A) → Each d Good xs → (rest : List ℕ)
        → rows_of decode width (length xs) (flat encode xs ++ rest) ≡ xs
    unfolding flat rows_of
    rows_back [] good rest = refl
    rows_back (x ∷ xs) good rest =
        let behind = flat encode xs ++ rest in
        let first : Good x = good zero (zero-lt-suc (length xs)) in
        rw (append_assoc, drop_at (encode x) behind width (each x), back x first behind)
        (ap (λ (l : List A). x ∷ l) (rows_back xs (λ i h. good (suc i) (suc-le-suc h)) rest))

    pub slots_back : (size : ℕ) (xs : List A) → length xs * width ≤ size → Each d Good xs → (rest : List ℕ)
        → rows_of decode width (length xs) (slots_of encode size xs ++ rest) ≡ xs
    slots_back size xs fits good rest =
        rw (slots_is size xs fits, append_assoc)
        (rows_back xs good (zeros (size - length xs * width) ++ rest))
