-- A row put in and a row taken out: the move of the bytes is the move of the elements, and what stands
-- at each place afterwards.
-- Assumes nothing.
use Prim.Native.Nat.{ℕ, zero, suc, ◌+◌, ◌-◌, ◌*◌, ◌≤◌, ◌<◌}
use native.Mathlib.Nat.{le_of_suc-le-suc}
use native.Mathlib.Omega.{arith}
use mathlib.Core.Path.{◌≡◌, refl, sym, ◌∙◌}
use mathlib.Core.List.{List, [], ◌∷◌, ◌++◌, append_assoc}
use lib.ListN.{length, take, drop, get_or, length-append, length-take, length-drop, length-replicate}
use lib.ListN.{take-append-drop, replicate-append-replicate}
use lib.Seq.{take_at, drop_at, split_at, length-take-le}
use Rattle.std.proofs.lemmas.Grind.{elements}
use Rattle.rows.specs.Rows.{filled, flat, slots_of, insert_at, remove_at, put_in, take_out, within}
use Rattle.rows.proofs.Slots.{zeros, flat_append, flat_length, slots_is}

-- The list: its length, and what stands before, at and after the place.

module _ {ℓ} {A : Type ℓ} where
  pub insert_length : (k : ℕ) (x : A) (xs : List A) → length (insert_at k x xs) ≡ length xs + 1
  unfolding insert_at
  insert_length k x xs = simp (length-append, length-take, length-drop) (omega arith)

  pub insert_before : (k : ℕ) (x : A) (xs : List A) (i : ℕ) (d : A) → i < k → k ≤ length xs
      → get_or (insert_at k x xs) i d ≡ get_or xs i d
  unfolding insert_at
  insert_before k x xs i d b h = grind (arith, elements)

  pub insert_here : (k : ℕ) (x : A) (xs : List A) (d : A) → k ≤ length xs → get_or (insert_at k x xs) k d ≡ x
  unfolding insert_at
  insert_here zero x xs d h = refl
  insert_here (suc k) x (y ∷ ys) d h = insert_here k x ys d (le_of_suc-le-suc h)
  insert_here (suc k) x [] d h = elim h [ ]

  pub insert_after : (k : ℕ) (x : A) (xs : List A) (i : ℕ) (d : A) → k ≤ i → k ≤ length xs
      → get_or (insert_at k x xs) (suc i) d ≡ get_or xs i d
  unfolding insert_at
  insert_after zero x xs i d b h = refl
  insert_after (suc k) x (y ∷ ys) (suc i) d b h =
      insert_after k x ys i d (le_of_suc-le-suc b) (le_of_suc-le-suc h)
  insert_after (suc k) x [] i d b h = elim h [ ]
  insert_after (suc k) x (y ∷ ys) zero d b h = elim b [ ]

  pub remove_length : (k : ℕ) (xs : List A) → k < length xs → length (remove_at k xs) ≡ length xs - 1
  unfolding remove_at
  remove_length k xs h = simp (length-append, length-take, length-drop) (omega arith)

  pub remove_before : (k : ℕ) (xs : List A) (i : ℕ) (d : A) → i < k
      → get_or (remove_at k xs) i d ≡ get_or xs i d
  unfolding remove_at
  remove_before (suc k) [] i d b = refl
  remove_before (suc k) (y ∷ ys) zero d b = refl
  remove_before (suc k) (y ∷ ys) (suc i) d b = remove_before k ys i d (le_of_suc-le-suc b)
  remove_before zero xs i d b = elim b [ ]

  pub remove_after : (k : ℕ) (xs : List A) (i : ℕ) (d : A) → k ≤ i
      → get_or (remove_at k xs) i d ≡ get_or xs (suc i) d
  unfolding remove_at
  remove_after zero [] i d b = refl
  remove_after zero (y ∷ ys) i d b = refl
  remove_after (suc k) [] i d b = refl
  remove_after (suc k) (y ∷ ys) (suc i) d b = remove_after k ys i d (le_of_suc-le-suc b)
  remove_after (suc k) (y ∷ ys) zero d b = elim b [ ]

-- The bytes: a move of the front part, bytes put in that push zeros out, and bytes taken out.

within_at : (n : ℕ) (move : List ℕ → List ℕ) (front behind : List ℕ) → length front ≡ n
    → within n move (front ++ behind) ≡ move front ++ behind
unfolding within
within_at n move front behind e = rw (take_at front behind n e, drop_at front behind n e)

put_at : (at : ℕ) (bytes a b free : List ℕ) → length a ≡ at → length free ≡ length bytes
    → put_in at bytes ((a ++ b) ++ free) ≡ a ++ (bytes ++ b)
unfolding put_in
put_at at bytes a b free e f = grind (arith, elements)

out_at : (at n : ℕ) (a gone b : List ℕ) → length a ≡ at → length gone ≡ n
    → take_out at n (a ++ (gone ++ b)) ≡ (a ++ b) ++ zeros n
unfolding take_out filled
out_at at n a gone b e f = grind (arith, elements)

module _ {ℓ} {A : Type ℓ} (encode : A → List ℕ) (width : ℕ) (each : (x : A) → length (encode x) ≡ width)
    (size : ℕ) where
  -- Elements with x between p and q, and without it: there one row of zeros more stands behind them.
  module _ (p : List A) (x : A) (q : List A) (n : ℕ) (in_use : length (p ++ (x ∷ q)) * width ≡ n)
      (fits : n ≤ size) where
    in_parts : (length p + suc (length q)) * width ≡ n
    in_parts = rw length-append at in_use

    with_row : slots_of encode size (p ++ (x ∷ q))
        ≡ (flat encode p ++ (encode x ++ flat encode q)) ++ zeros (size - n)
    unfolding flat
    with_row =
        slots_is encode width each size (p ++ (x ∷ q)) (rw in_use fits)
        ∙ rw (in_use, flat_append encode p (x ∷ q))

    without_row : slots_of encode size (p ++ q)
        ≡ ((flat encode p ++ flat encode q) ++ zeros width) ++ zeros (size - n)
    without_row =
        let own : length (p ++ q) * width ≡ (length p + length q) * width = rw length-append in
        let free : size - length (p ++ q) * width ≡ width + (size - n) = omega (arith, in_parts) in
        slots_is encode width each size (p ++ q) (omega (arith, in_parts))
        ∙ rw (free, ← replicate-append-replicate {A = ℕ} width (size - n) 0, flat_append encode p q)
        (sym (append_assoc (flat encode p ++ flat encode q) (zeros width) (zeros (size - n))))

    put_between : within n (put_in (length p * width) (encode x)) (slots_of encode size (p ++ q))
        ≡ slots_of encode size (p ++ (x ∷ q))
    put_between =
        let put = put_in (length p * width) (encode x) in
        let front = (flat encode p ++ flat encode q) ++ zeros width in
        let whole : length front ≡ n =
        simp (length-append, flat_length encode width each, length-replicate) (omega (arith, in_parts)) in
        let moved : put front ≡ flat encode p ++ (encode x ++ flat encode q) =
        put_at (length p * width) (encode x) (flat encode p) (flat encode q) (zeros width)
        (flat_length encode width each p) (length-replicate width 0 ∙ sym (each x)) in
        rw (without_row, with_row, within_at n put front (zeros (size - n)) whole, moved)

    out_between : within n (take_out (length p * width) width) (slots_of encode size (p ++ (x ∷ q)))
        ≡ slots_of encode size (p ++ q)
    out_between =
        let out = take_out (length p * width) width in
        let front = flat encode p ++ (encode x ++ flat encode q) in
        let whole : length front ≡ n =
        simp (length-append, flat_length encode width each, each) (omega (arith, in_parts)) in
        let moved : out front ≡ (flat encode p ++ flat encode q) ++ zeros width =
        out_at (length p * width) width (flat encode p) (encode x) (flat encode q)
        (flat_length encode width each p) (each x) in
        rw (without_row, with_row, within_at n out front (zeros (size - n)) whole, moved)

  -- a row put in at place k, among the rows in use and the first free one, is its element put in there
  pub put_in_lem : (k : ℕ) (x : A) (xs : List A) → k ≤ length xs → (length xs + 1) * width ≤ size
      → within ((length xs + 1) * width) (put_in (k * width) (encode x)) (slots_of encode size xs)
      ≡ slots_of encode size (insert_at k x xs)
  unfolding insert_at
  put_in_lem k x xs h fits =
      let n = (length xs + 1) * width in
      let in_use : length (insert_at k x xs) * width ≡ n = rw insert_length in
      rw (length-take-le k xs h, take-append-drop) at (put_between (take k xs) x (drop k xs) n in_use fits)

  -- a row in use taken out, among the rows in use, is its element taken out; d is any element
  taken_out : (k : ℕ) (xs : List A) (d : A) → k < length xs → length xs * width ≤ size
      → within (length xs * width) (take_out (k * width) width) (slots_of encode size xs)
      ≡ slots_of encode size (remove_at k xs)
  unfolding remove_at
  taken_out k xs d h fits =
      let n = length xs * width in
      let own = get_or xs k d in
      let whole : take k xs ++ (own ∷ drop (suc k) xs) ≡ xs = sym (split_at xs k d h) in
      let front : length (take k xs) ≡ k = length-take-le k xs (omega arith) in
      rw (front, whole) at (out_between (take k xs) own (drop (suc k) xs) n (rw whole) fits)

  pub take_out_lem : (k : ℕ) (xs : List A) → k < length xs → length xs * width ≤ size
      → within (length xs * width) (take_out (k * width) width) (slots_of encode size xs)
      ≡ slots_of encode size (remove_at k xs)
  take_out_lem k (y ∷ ys) h fits = taken_out k (y ∷ ys) y h fits
  take_out_lem k [] h fits = elim h [ ]
