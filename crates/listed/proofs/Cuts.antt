-- How an input is cut into patches: each is a front of the bytes that are left, and has a byte at least.
-- Assumes nothing.
use Prim.Native.Nat.{ℕ, zero, suc, ◌-◌, ◌<◌, ◌≤◌}
use native.Mathlib.Nat.{eq-zero-or-pos}
use native.Mathlib.Omega.{arith}
use mathlib.Core.Path.{◌≡◌, refl, sym, ap, ◌∙◌}
use mathlib.Core.Logic.{⊎_elim}
use mathlib.Core.List.{List, [], ◌∷◌}
use borrow.Author.Tests.{eq-eqb, ne_eqb}
use lib.ListN.{length, take, drop, length-take, length-drop}
use lib.Seq.{length-take-le, take-length}
use Rattle.std.specs.Option.{MatchOption}
use Rattle.std.proofs.Common.{Option, None, Some}
use Rattle.reader.specs.declared.Reading.{Reading}
use Rattle.reader.specs.Read.{read_first, taken}
use Rattle.reader.proofs.Taken.{none_taken, some_taken}
use Rattle.reader.proofs.Readings.{what_is_read}
use Rattle.listed.specs.Listing.{first_in, cut, patches_in}

-- what is read stands in the bytes
used_inside : (s : List ℕ) → 1 ≤ (read_first s).used → (read_first s).used ≤ length s
used_inside s some =
    let r = what_is_read s some in
    let size : length (take (read_first s).used s) ≡ (read_first s).used = ap length r.bytes ∙ sym r.used in
    omega (arith, length-take (read_first s).used s)

-- where no patch stands at the front, all bytes are taken
none_first : (s : List ℕ) → (read_first s).used ≡ 0 → first_in s ≡ s
unfolding first_in
none_first s none = rw (eq-eqb (read_first s).used 0 none)

-- where one does, those that it uses
some_first : (s : List ℕ) → 1 ≤ (read_first s).used → first_in s ≡ take (read_first s).used s
unfolding first_in
some_first s some = rw (ne_eqb (read_first s).used 0 (λ none. absurd (omega arith)))

-- how many bytes that is
pub none_length : (s : List ℕ) → (read_first s).used ≡ 0 → length s ≡ length (first_in s)
none_length s none = ap length (sym (none_first s none))

pub some_length : (s : List ℕ) → 1 ≤ (read_first s).used → (read_first s).used ≡ length (first_in s)
some_length s some =
    sym (ap length (some_first s some) ∙ length-take-le (read_first s).used s (used_inside s some))

-- and as a reading that may be there tells it
pub first_length : (s : List ℕ) (n : ℕ) (o : Option Reading) (P : Reading → Type 0) → o ≡ taken (read_first s)
    → ((x : Reading) → P x → n ≡ x.used) → MatchOption o (n ≡ length s) P → n ≡ length (first_in s)
first_length s n None P is told all = all ∙ none_length s (none_taken (read_first s) (sym is))
first_length s n (Some x) P is told used =
    let both = some_taken (read_first s) x (sym is) in
    told x used ∙ ap (λ (r : Reading). r.used) both.0 ∙ some_length s (omega (arith, both.1))

-- the first patch is a front of the bytes, and not empty where they are not
record Front (s first : List ℕ) : Type 0 where
  bytes : first ≡ take (length first) s
  least : 0 < length s → 1 ≤ length first
  most : length first ≤ length s

-- so is every front of so many bytes
front : (s first : List ℕ) (n : ℕ) → first ≡ take n s → (0 < length s → 1 ≤ n) → n ≤ length s → Front s first
front s first n is least most =
    let size : length first ≡ n = ap length is ∙ length-take-le n s most in
    record { bytes = rw size is; least = rw size least; most = rw size most }

first_front : (s : List ℕ) → Front s (first_in s)
first_front s =
    ⊎_elim
    (λ none. front s (first_in s) (length s) (none_first s none ∙ sym (take-length s)) (λ some. some) (omega arith))
    (λ used. front s (first_in s) (read_first s).used (some_first s used) (λ some. used) (used_inside s used))
    (eq-zero-or-pos (read_first s).used)

-- any bound that leaves room for the bytes gives the same patches
same_cut : (m n : ℕ) (s : List ℕ) → length s ≤ m → length s ≤ n → cut m s ≡ cut n s
unfolding cut
same_cut zero zero s h k = refl
same_cut zero (suc n) [] h k = refl
same_cut (suc m) zero [] h k = refl
same_cut (suc m) (suc n) [] h k = refl
same_cut zero (suc n) (b ∷ s) h k = absurd (omega arith)
same_cut (suc m) zero (b ∷ s) h k = absurd (omega arith)
same_cut (suc m) (suc n) (b ∷ s) h k =
    let first = first_in (b ∷ s) in
    let least : 1 ≤ length first = (first_front (b ∷ s)).least (omega arith) in
    let size : length (drop (length first) (b ∷ s)) ≡ length (b ∷ s) - length first = length-drop (length first) (b ∷ s) in
    ap (λ (ps : List (List ℕ)). first ∷ ps) (same_cut m n (drop (length first) (b ∷ s)) (omega arith) (omega arith))

-- there are no more patches than bytes
pub patches_most : (s : List ℕ) → length (patches_in s) ≤ length s
unfolding cut
patches_most s = bounded (length s) s
  where
    bounded : (most : ℕ) (s : List ℕ) → length (cut most s) ≤ most
    bounded zero s = omega arith
    bounded (suc most) [] = omega arith
    bounded (suc most) (b ∷ s) = omega (arith, bounded most (drop (length (first_in (b ∷ s))) (b ∷ s)))

-- where no byte is left, no patch is
pub no_patches : (s : List ℕ) → length s ≡ 0 → patches_in s ≡ []
unfolding cut
no_patches s none = rw none

-- the first patch, and those of the bytes behind it
patches_step : (s : List ℕ) → 0 < length s → patches_in s ≡ first_in s ∷ patches_in (drop (length (first_in s)) s)
unfolding cut
patches_step [] some = absurd (omega arith)
patches_step (b ∷ s) some =
    let first = first_in (b ∷ s) in
    let rest = drop (length first) (b ∷ s) in
    let least : 1 ≤ length first = (first_front (b ∷ s)).least some in
    let size : length rest ≡ length (b ∷ s) - length first = length-drop (length first) (b ∷ s) in
    ap (λ (ps : List (List ℕ)). first ∷ ps) (same_cut (length s) (length rest) rest (omega arith) (omega arith))

-- The same where the first patch has so many bytes.
module _ (s : List ℕ) (size : ℕ) (is : size ≡ length (first_in s)) where
  pub size_most : size ≤ length s
  size_most = rw is (first_front s).most

  pub patches_from : 0 < length s → patches_in s ≡ take size s ∷ patches_in (drop size s)
  patches_from some = rw is (patches_step s some ∙ ap (λ (p : List ℕ). p ∷ patches_in (drop (length (first_in s)) s)) (first_front s).bytes)
