-- Bytes put in behind one another: nothing changes nothing, and two runs are one.
-- Assumes nothing.
use Prim.Native.Nat.{ℕ, zero, suc, ◌+◌, ◌-◌, ◌≤◌, ◌<◌, min}
use native.Mathlib.Nat.{add-zero, add_assoc, zero-sub, sub-zero, suc-sub-suc, eq-zero-or-pos}
use native.Mathlib.Omega.{arith}
use mathlib.Core.Path.{◌≡◌, refl, sym, ap, ◌∙◌}
use mathlib.Core.Logic.{⊎_elim}
use mathlib.Core.List.{List, [], ◌∷◌, ◌++◌}
use lib.ListN.{length, take, length-take, length-append}
use lib.Seq.{take_all, take-nil}
use Rattle.rows.specs.Rows.{written}
use Rattle.rows.proofs.Bytes.{nothing_written, written_both, written_length}
use Rattle.listed.specs.Output.{Output, behind}

-- the first k of two lists
take_both : (k : ℕ) (a b : List ℕ) → take k (a ++ b) ≡ take k a ++ take (k - length a) b
take_both k [] b = rw (take-nil {A = ℕ} k, sub-zero k)
take_both zero (x ∷ a) b = rw (zero-sub (length (x ∷ a)))
take_both (suc k) (x ∷ a) b = rw suc-sub-suc (ap (λ (l : List ℕ). x ∷ l) (take_both k a b))

-- where nothing fits, all stays
stays : (bytes : List ℕ) (o : Output) → take (length o.bytes - o.length) bytes ≡ [] → behind bytes o ≡ o
unfolding behind
stays bytes o none = rw none (λ d. record { length = add-zero o.length d; bytes = sym (nothing_written o.length o.bytes) d })

-- none fits behind the end
pub behind_end : (bytes : List ℕ) (o : Output) → length o.bytes ≤ o.length → o ≡ behind bytes o
behind_end bytes o h =
    let none : length o.bytes - o.length ≡ 0 = omega arith in
    sym (stays bytes o (ap (λ (n : ℕ). take n bytes) none))

pub behind_nothing : (o : Output) → behind [] o ≡ o
behind_nothing o = stays [] o (take-nil {A = ℕ} (length o.bytes - o.length))

module _ (a b : List ℕ) (o : Output) where
  abbrev room : ℕ
  room = length o.bytes - o.length

  abbrev front : List ℕ
  front = take room a

  no_room : room ≡ 0 → behind b (behind a o) ≡ behind (a ++ b) o
  no_room none =
      let same : (bytes : List ℕ) → behind bytes o ≡ o = λ bytes. stays bytes o (ap (λ (n : ℕ). take n bytes) none) in
      ap (behind b) (same a) ∙ same b ∙ sym (same (a ++ b))

  -- the buffer stays as long, and the second run finds what room the first leaves
  some_room : 0 < room → behind b (behind a o) ≡ behind (a ++ b) o
  unfolding behind
  some_room some =
      let size : length front ≡ min room (length a) = length-take room a in
      let inside : o.length + length front ≤ length o.bytes = omega arith in
      let long : length (written o.length front o.bytes) ≡ length o.bytes =
      written_length o.length front o.bytes inside in
      let left : length o.bytes - (o.length + length front) ≡ room - length a = omega arith in
      let rest = take (room - length a) b in
      let both : take room (a ++ b) ≡ front ++ rest = take_both room a b in
      rw (long, left, both) (λ d. record {
        length = (add_assoc o.length (length front) (length rest) ∙ ap (λ (n : ℕ). o.length + n) (sym (length-append front rest))) d;
        bytes = written_both o.length (o.length + length front) front rest o.bytes refl inside d;
      })

  pub behind_both : behind b (behind a o) ≡ behind (a ++ b) o
  behind_both = ⊎_elim no_room some_room (eq-zero-or-pos room)

-- where a call has put in the first of two, the second is left
pub is_left : (a b : List ℕ) (o : Output) {n : Output} → n ≡ behind a o → behind b n ≡ behind (a ++ b) o
is_left a b o put = ap (behind b) put ∙ behind_both a b o

-- what two calls put in, one behind the other
pub and_then : (a b : List ℕ) (o : Output) {m n : Output} → m ≡ behind a o → n ≡ behind b m → n ≡ behind (a ++ b) o
and_then a b o first second = second ∙ is_left a b o first

-- never more than the buffer has room for
pub behind_inside : (bytes : List ℕ) (o : Output) → o.length ≤ length o.bytes
    → (behind bytes o).length ≤ length o.bytes
unfolding behind
behind_inside bytes o h = omega (arith, length-take (length o.bytes - o.length) bytes)

-- and the buffer stays as long
behind_size : (bytes : List ℕ) (o : Output) → o.length ≤ length o.bytes
    → length (behind bytes o).bytes ≡ length o.bytes
unfolding behind
behind_size bytes o h =
    let fitting = take (length o.bytes - o.length) bytes in
    written_length o.length fitting o.bytes (omega (arith, length-take (length o.bytes - o.length) bytes))

-- so that what is put into an empty buffer ends inside of it
pub ends_inside : (bytes out : List ℕ) (is : Output) → is ≡ behind bytes (record { length = 0; bytes = out })
    → is.length ≤ length is.bytes
ends_inside bytes out is put =
    let o : Output = record { length = 0; bytes = out } in
    let none : 0 ≤ length out = omega arith in
    rw (put, behind_size bytes o none) (behind_inside bytes o none)

-- where there is room, all of it is put in
pub behind_whole : (bytes : List ℕ) (o : Output) → o.length + length bytes ≤ length o.bytes
    → behind bytes o ≡ record { length = o.length + length bytes; bytes = written o.length bytes o.bytes }
unfolding behind
behind_whole bytes o h =
    let all : take (length o.bytes - o.length) bytes ≡ bytes = take_all (length o.bytes - o.length) bytes (omega arith) in
    rw all refl
