-- The sixteen counts read, each where it stands, and written one behind the other.
-- Assumes nothing.
use Prim.Native.Nat.{ℕ, zero, suc, ◌+◌, ◌*◌, ◌≤◌, ◌<◌}
use native.Mathlib.Nat.{eq-or-lt_of_le}
use native.Mathlib.Omega.{arith}
use mathlib.Core.Path.{◌≡◌, sym, ◌∙◌, subst}
use mathlib.Core.Logic.{inl, inr}
use mathlib.Core.List.{List, []}
use denote.Param.Members.{Mut, Called}
use lib.ListN.{length, take, get_or}
use lib.Seq.{ext_get_or}
use Rattle.std.specs.Array.{IsFromFnResultFrom, IsFromFnResult}
use Rattle.rows.specs.Numbers.{num_at, bytes_of}
use Rattle.rows.specs.Rows.{flat, written}
use Rattle.rows.proofs.Digits.{num_drop, bytes_length}
use Rattle.rows.proofs.Slots.{rows_length, rows_at}
use Rattle.rows.proofs.Bytes.{nothing_written, element_written}
use Rattle.record.specs.Records.{count_first, counts_of}

-- each is the number at its place
count_at : (s : List ℕ) (i : ℕ) → i < 16 → get_or (counts_of s) i 0 ≡ num_at 4 s (4 * i)
count_at s i h =
    let place : i * 4 + 0 ≡ 4 * i = omega arith in
    rows_at count_first 4 16 i s 0 h ∙ rw (num_drop, place)

-- what is made of calls that answer by h and leave the closure as it was
made_by : {F : Type 0} (g : Mut F (ℕ × Unit {0}) ℕ) (f : F) (ys : List ℕ) (h : ℕ → ℕ)
    → ((i y : ℕ) (q : F) → Called g f (i, tt) y q → (y ≡ h i) × (q ≡ f))
    → (n i : ℕ) → IsFromFnResultFrom g f ys i n → (j : ℕ) → i ≤ j → j < i + n → get_or ys j 0 ≡ h j
made_by g f ys h answers zero i each j least most = absurd (omega arith)
made_by g f ys h answers (suc n) i (q, y, here, call, later) j least most =
    let answer = answers i y q call in
    elim (eq-or-lt_of_le least) [
      | inl e ↦ rw (← e) (here.1 0 ∙ answer.0)
      | inr less ↦
          made_by g f ys h answers n (i + 1) (subst (λ p. IsFromFnResultFrom g p ys (i + 1) n) answer.1 later) j
          (omega arith) (omega arith)
    ]

-- and where they answer with the number at each place, these are the counts
pub counts_made : {F : Type 0} {g : Mut F (ℕ × Unit {0}) ℕ} {f : F} {ys : List ℕ} (s : List ℕ)
    → IsFromFnResult g f ys 16 → ((i y : ℕ) (q : F) → Called g f (i, tt) y q → (y ≡ num_at 4 s (4 * i)) × (q ≡ f))
    → ys ≡ counts_of s
counts_made {F} {g} {f} {ys} s made answers =
    let each = made_by g f ys (λ j. num_at 4 s (4 * j)) answers 16 0 made.each in
    ext_get_or 0 ys (counts_of s) (made.long ∙ sym (rows_length count_first 4 16 s)) (λ i b.
    let inside : i < 16 = omega (arith, made.long) in
    each i (omega arith) (omega arith) ∙ sym (count_at s i inside))

-- no count stands before the first is written
pub none_written : (s : List ℕ) → s ≡ written 3 (flat (bytes_of 4) []) s
unfolding flat
none_written s = nothing_written 3 s

-- the next count behind those that stand
pub next_written : (counts s : List ℕ) (i : ℕ) → i < length counts → 3 + 4 * i ≤ length s
    → written (3 + 4 * i) (bytes_of 4 (get_or counts i 0)) (written 3 (flat (bytes_of 4) (take i counts)) s)
    ≡ written 3 (flat (bytes_of 4) (take (i + 1) counts)) s
next_written counts s i inside room =
    element_written (bytes_of 4) 4 (bytes_length 4) counts i 0 inside 3 (3 + 4 * i) s (omega arith) room
