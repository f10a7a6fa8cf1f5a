-- Bytes written into a slice: what a loop that copies leaves after each turn, what comes back of a part
-- that was lent, what is put in and taken out there, and what is written behind one another.
-- Assumes nothing.
use Prim.Native.Nat.{ℕ, suc, ◌+◌, ◌-◌, ◌*◌, ◌<◌, ◌≤◌}
use native.Mathlib.Nat.{add-zero, sub-zero, mod-eq_of_lt}
use native.Mathlib.Numerals.{add-one}
use native.Mathlib.Omega.{arith}
use mathlib.Core.Path.{◌≡◌, sym, ap, ◌∙◌, subst}
use mathlib.Core.List.{List, [], ◌∷◌, ◌++◌, append_assoc, append-nil}
use borrow.Rule.Slice.PartMut.{mid_of, put_mid}
use lib.ListN.{length, take, drop, set, get_or, replicate, length-append, length-take, length-drop}
use lib.ListN.{take-append-drop, drop_of_length-le, replicate-append-replicate}
use lib.Seq.{drop-cons, take-suc, set_at, append_snoc, length-take-le, get_or-append-add, get_or-drop}
use lib.Seq.{take_all, take_at, take-take, take-append-le, drop_at, drop-append-add, drop-drop}
use Rattle.std.proofs.lemmas.Grind.{elements}
use Rattle.std.proofs.lemmas.List.{drop-replicate as fewer}
use Rattle.rows.specs.Numbers.{bytes_of}
use Rattle.rows.specs.Rows.{filled, flat, put_in, take_out, written, within}
use Rattle.rows.proofs.Slots.{zeros, filled_is, filled_length, flat_append, flat_length}

-- A loop that copies `from` over `to`: after i turns, i elements of `from` and then what is left.

module _ {A : Type 0} (from to : List A) (i : ℕ) (d : A) where
  -- the next element x is stored
  pub copied_more : (s : List A) (x : A) → i < length from → i < length to
      → s ≡ take i from ++ drop i to → x ≡ get_or from i d → set s i x ≡ take (i + 1) from ++ drop (i + 1) to
  copied_more s x h k e f =
      let front = take i from in
      let behind = drop (suc i) to in
      rw (e, f, add-one, drop-cons to i d k, take-suc from i d h)
      (set_at front (get_or to i d) behind (get_or from i d) i (length-take-le i from (omega arith))
      ∙ sym (append_snoc front (get_or from i d) behind))

  -- what is not yet written over
  pub not_copied : (n : ℕ) → i ≤ length from
      → get_or (take i from ++ drop i to) (i + n) d ≡ get_or to (i + n) d
  not_copied n h =
      subst (λ (k : ℕ). get_or (take i from ++ drop i to) (k + n) d ≡ get_or to (i + n) d)
      (length-take-le i from h)
      (get_or-append-add (take i from) (drop i to) n d ∙ get_or-drop i to n d)

pub drop-replicate : {A : Type 0} (x : A) (n m : ℕ) → drop n (replicate m x) ≡ replicate (m - n) x
drop-replicate x n m = fewer n m x

-- a part lent from a place to the end, and what comes back of it
module _ (at : ℕ) (s : List ℕ) where
  pub rest_lent : mid_of at (length s - at) s ≡ drop at s
  rest_lent = grind (arith, elements)

  pub rest_back : (part : List ℕ) → put_mid at (length s - at) s part ≡ take at s ++ part
  rest_back part =
      let short : length (drop at s) ≤ length s - at = omega (arith, length-drop at s) in
      let none : drop (length s - at) (drop at s) ≡ [] = drop_of_length-le (drop at s) short in
      rw (none, append-nil)

-- what is kept stands at the front, and behind it all is cleared
pub cleared_behind : (kept : ℕ) (l now part : List ℕ) → take kept now ≡ l → length l ≡ kept → kept ≤ length now
    → part ≡ zeros (length (mid_of kept (length now - kept) now))
    → put_mid kept (length now - kept) now part ≡ filled (length now) l
cleared_behind kept l now part front size room e =
    rw (rest_back kept now part, e, rest_lent kept now) (grind (arith, elements, filled_is))

-- what closes a move down
pub ruleset moved_down = (cleared_behind, filled_is, elements)

-- bytes put in at the front of the rest are put in at its place
pub put_within : (at : ℕ) (bytes s part : List ℕ)
    → let lent = mid_of at (length s - at) s in part ≡ take (length lent) (bytes ++ lent)
    → put_mid at (length s - at) s part ≡ put_in at bytes s
unfolding put_in
put_within at bytes s part e = rw (rest_back at s part, e, rest_lent at s) (grind (arith, elements))

-- and the first n bytes taken out of the rest are taken out at its place
pub take_within : (at n : ℕ) (s part : List ℕ) → at ≤ length s
    → let lent = mid_of at (length s - at) s in part ≡ filled (length lent) (drop n lent)
    → put_mid at (length s - at) s part ≡ take_out at n s
unfolding take_out filled
take_within at n s part h e = rw (rest_back at s part, e, rest_lent at s) (grind (arith, elements))

-- a move of the front, lent by itself
pub front_moved : (n : ℕ) (move : List ℕ → List ℕ) (s part : List ℕ) → part ≡ move (mid_of 0 (n - 0) s)
    → put_mid 0 (n - 0) s part ≡ within n move s
unfolding within
front_moved n move s part e = rw (e, sub-zero n)

-- What is written at a place: nothing, all there is, bytes behind one another, and a number's bytes.

pub nothing_written : (at : ℕ) (s : List ℕ) → s ≡ written at [] s
unfolding written
nothing_written at s = rw (add-zero at) (sym (take-append-drop at s))

pub all_written : (bytes s : List ℕ) → length s ≡ length bytes → written 0 bytes s ≡ bytes
unfolding written
all_written bytes s e = grind (arith, elements)

pub written_length : (at : ℕ) (bytes s : List ℕ) → at + length bytes ≤ length s
    → length (written at bytes s) ≡ length s
unfolding written
written_length at bytes s h = simp (length-append, length-take, length-drop) (omega arith)

pub written_both : (at next : ℕ) (a b s : List ℕ) → next ≡ at + length a → next ≤ length s
    → written next b (written at a s) ≡ written at (a ++ b) s
unfolding written
written_both at next a b s e h =
    let front = take at s ++ a in
    let behind = drop next s in
    let size : length front ≡ next = simp (length-append, length-take) (omega arith) in
    let end : at + length (a ++ b) ≡ next + length b = omega (arith, length-append a b) in
    let rest : drop (next + length b) (front ++ behind) ≡ drop (next + length b) s =
    subst (λ (n : ℕ). drop (n + length b) (front ++ behind) ≡ drop (next + length b) s) size
    (drop-append-add front behind (length b) ∙ drop-drop (length b) next s) in
    rw (← e, ← append_assoc (take at s) a behind, take_at front behind next size, rest, end)
    (simp append_assoc)

-- bytes written in front of others that stand there already
pub written_before : (at : ℕ) (a b s : List ℕ) → at + length a ≤ length s
    → written at a (written (at + length a) b s) ≡ written at (a ++ b) s
unfolding written
written_before at a b s h =
    let next = at + length a in
    let behind = b ++ drop (next + length b) s in
    let short : at ≤ length (take next s) = omega (arith, length-take next s) in
    let front : take at (take next s ++ behind) ≡ take at s =
    take-append-le at (take next s) behind short ∙ take-take at next s (omega arith) in
    let size : length (take next s) ≡ next = length-take-le next s h in
    let end : at + length (a ++ b) ≡ next + length b = omega (arith, length-append a b) in
    rw (front, drop_at (take next s) behind next size, end) (simp append_assoc)

-- bytes copied to the front of a part that has room for them are written there
pub copied_written : (at k : ℕ) (bytes s part : List ℕ) → length s ≡ at + k → length bytes ≤ k
    → let lent = mid_of at k s in part ≡ take (length lent) bytes ++ drop (length bytes) lent
    → put_mid at k s part ≡ written at bytes s
unfolding written
copied_written at k bytes s part size room e =
    let left : length (drop at s) ≡ k = omega (arith, length-drop at s) in
    let lent : take k (drop at s) ≡ drop at s = take_all k (drop at s) (omega arith) in
    let all : take (length (drop at s)) bytes ≡ bytes = take_all (length (drop at s)) bytes (omega arith) in
    let short : length (drop at s) ≤ k = omega arith in
    let none : drop k (drop at s) ≡ [] = drop_of_length-le (drop at s) short in
    rw (e, lent, all, drop-drop (length bytes) at s, none, append-nil)

set_written : (at b : ℕ) (s : List ℕ) → at < length s → set s at b ≡ written at (b ∷ []) s
unfolding written
set_written at b s h = grind (arith, elements)

pub byte_written : (at b : ℕ) (s : List ℕ) → b < 256 → at < length s → set s at b ≡ written at (bytes_of 1 b) s
unfolding bytes_of
byte_written at b s small h = rw (mod-eq_of_lt small) (set_written at b s h)

-- bytes written over a part of their length
pub part_written : (at n : ℕ) (bytes s : List ℕ) → n ≡ length bytes → put_mid at n s bytes ≡ written at bytes s
unfolding written
part_written at n bytes s e = rw (e, drop-drop)

-- what closes a number written
pub ruleset puts = (byte_written, part_written)

-- Elements of one width written behind one another: after i of them, the next one.
module _ {A : Type 0} (encode : A → List ℕ) (width : ℕ) (each : (x : A) → length (encode x) ≡ width)
    (xs : List A) (i : ℕ) (d : A) (inside : i < length xs) where
  flat_next : flat encode (take i xs) ++ encode (get_or xs i d) ≡ flat encode (take (i + 1) xs)
  unfolding flat
  flat_next =
      rw (add-one, take-suc xs i d inside, flat_append)
      (ap (λ (l : List ℕ). flat encode (take i xs) ++ l) (sym (append-nil (encode (get_or xs i d)))))

  pub element_written : (at next : ℕ) (s : List ℕ) → next ≡ at + i * width → next ≤ length s
      → written next (encode (get_or xs i d)) (written at (flat encode (take i xs)) s)
      ≡ written at (flat encode (take (i + 1) xs)) s
  element_written at next s e h =
      let size : length (flat encode (take i xs)) ≡ i * width =
      rw (flat_length encode width each, length-take-le i xs (omega arith)) in
      written_both at next (flat encode (take i xs)) (encode (get_or xs i d)) s (omega arith) h
      ∙ ap (λ (l : List ℕ). written at l s) flat_next

-- Zeros written over zeros change nothing: what is filled up stands there as soon as it is written.
pub filled_written : (m n : ℕ) (front bytes : List ℕ) → length bytes ≤ m → length front + m ≤ n
    → written 0 (front ++ bytes) (zeros n) ≡ written 0 (front ++ filled m bytes) (zeros n)
unfolding written
filled_written m n front bytes h k =
    let left = m - length bytes in
    let behind = n - (length front + m) in
    let before : 0 + length (front ++ bytes) ≡ length front + length bytes =
    omega (arith, length-append front bytes) in
    let after : 0 + length (front ++ filled m bytes) ≡ length front + m =
    omega (arith, length-append front (filled m bytes), filled_length m bytes) in
    let freed : n - (length front + length bytes) ≡ left + behind = omega arith in
    let zeros-left : (k : ℕ) → drop k (zeros n) ≡ zeros (n - k) = λ k. drop-replicate 0 k n in
    rw (before, after, zeros-left (length front + length bytes), zeros-left (length front + m))
    (rw (freed, ← replicate-append-replicate {A = ℕ} left behind 0, filled_is m bytes h) (simp append_assoc))
