-- Numbers and their bytes, for every width: each gives the other back, a number of n bytes is below
-- 256 ^ n, and where in a slice a number is read.
-- Assumes nothing.
use Prim.Native.Nat.{ℕ, zero, suc, ◌+◌, ◌*◌, ◌/◌, ◌%◌, ◌^◌, ◌≤◌, ◌<◌}
use native.Mathlib.Nat.{add_assoc, add-suc, add-zero, zero-add, pow-suc, div-lt_iff_lt-mul, div-add-mod'}
use native.Mathlib.Omega.{arith}
use mathlib.Core.Path.{◌≡◌, refl, sym, ap, ◌∙◌}
use mathlib.Core.List.{List, ◌∷◌, ◌++◌}
use lib.Arith.{digits_lt, digits_div, digits_mod}
use lib.ListN.{length, take, drop, get_or, length-append, length-drop, get_or-append}
use lib.Seq.{drop_at, drop-drop, take-suc, append_snoc, get_or_at, get_or-drop}
use Rattle.rows.specs.Numbers.{num_at, bytes_of}

-- a list of bytes: each element, and the 0 that is read behind the end, is below 256
abbrev pub Bytes : List ℕ → Type 0
Bytes s = (i : ℕ) → get_or s i 0 < 256

pub bytes_drop : (k : ℕ) (s : List ℕ) → Bytes s → Bytes (drop k s)
bytes_drop k s b i = rw get_or-drop (b (k + i))

-- a byte of a part that stands at k
pub part_at : (k j : ℕ) (s part rest : List ℕ) → drop k s ≡ part ++ rest → j < length part
    → get_or s (k + j) 0 ≡ get_or part j 0
part_at k j s part rest e h = sym (get_or-drop k s j 0) ∙ rw e (get_or-append part rest 0 j h)

-- what follows a part of n bytes that stands at k
pub read_on : (k n : ℕ) (s part rest : List ℕ) → drop k s ≡ part ++ rest → length part ≡ n
    → drop (k + n) s ≡ rest
read_on k n s part rest e h = sym (drop-drop n k s) ∙ rw e (drop_at part rest n h)

pub bytes_length : (n v : ℕ) → length (bytes_of n v) ≡ n
unfolding bytes_of
bytes_length zero v = refl
bytes_length (suc n) v = simp (length-append, bytes_length n) (omega arith)

-- a number read behind the first k bytes
pub num_drop : (n k at : ℕ) (s : List ℕ) → num_at n (drop k s) at ≡ num_at n s (k + at)
unfolding num_at
num_drop zero k at s = refl
num_drop (suc n) k at s = rw (num_drop n k at s, get_or-drop, add_assoc)

-- what is written is read back
pub num_back : (n v : ℕ) (rest : List ℕ) → v < 256 ^ n → num_at n (bytes_of n v ++ rest) 0 ≡ v
unfolding num_at bytes_of
num_back zero v rest h = omega arith
num_back (suc n) v rest h =
    let less : v / 256 < 256 ^ n = (div-lt_iff_lt-mul {k = 256} (omega arith)).1 (rw pow-suc at h) in
    rw (append_snoc, num_back n (v / 256) (v % 256 ∷ rest) less, zero-add)
    (rw (get_or_at (bytes_of n (v / 256)) (v % 256) rest 0 n (bytes_length n (v / 256))) (div-add-mod' v 256))

-- and so it is where it stands further on
pub num_there : (n v at : ℕ) (s rest : List ℕ) → v < 256 ^ n → drop at s ≡ bytes_of n v ++ rest
    → num_at n s at ≡ v
num_there n v at s rest h e =
    ap (num_at n s) (sym (add-zero at)) ∙ sym (num_drop n at 0 s) ∙ rw e (num_back n v rest h)

-- what is read is written back
pub bytes_back : (n at : ℕ) (s : List ℕ) → Bytes s → at + n ≤ length s
    → bytes_of n (num_at n s at) ≡ take n (drop at s)
unfolding num_at bytes_of
bytes_back zero at s b h = refl
bytes_back (suc n) at s b h =
    let inside : n < length (drop at s) = simp length-drop (omega arith) in
    rw (digits_div (num_at n s at) (b (at + n)), digits_mod (num_at n s at) (b (at + n)))
    (rw (bytes_back n at s b (omega arith), take-suc (drop at s) n 0 inside, get_or-drop))

pub num_less : (n at : ℕ) (s : List ℕ) → Bytes s → num_at n s at < 256 ^ n
unfolding num_at
num_less zero at s b = omega arith
num_less (suc n) at s b = rw pow-suc (digits_lt (num_less n at s b) (b (at + n)))

-- a wide number by its high and its low bytes
pub num_splits : (m n at : ℕ) (s : List ℕ)
    → num_at (m + n) s at ≡ num_at m s at * 256 ^ n + num_at n s (at + m)
unfolding num_at
num_splits m zero at s = rw (add-zero m) (omega arith)
num_splits m (suc n) at s = rw (add-suc, num_splits m n at s, add_assoc, pow-suc) (omega arith)

-- A number of one byte is that byte.

pub num_one : (at : ℕ) (s : List ℕ) → num_at 1 s at ≡ get_or s at 0
unfolding num_at
num_one at s = rw (add-zero at) (omega arith)

pub byte_there : (v at : ℕ) (s rest : List ℕ) → v < 256 → drop at s ≡ bytes_of 1 v ++ rest
    → get_or s at 0 ≡ v
byte_there v at s rest h e = sym (num_one at s) ∙ num_there 1 v at s rest h e

pub byte_back : (at : ℕ) (s : List ℕ) → Bytes s → at < length s
    → bytes_of 1 (get_or s at 0) ≡ take 1 (drop at s)
byte_back at s b h = rw (← num_one at s) (bytes_back 1 at s b (omega arith))
