-- What a mask lets through.
-- Assumes nothing.
use Prim.Native.Nat.{ℕ, zero, suc, ◌+◌, ◌-◌, ◌%◌, ◌≤◌, ◌<◌}
use native.Mathlib.Omega.{arith}
use native.Mathlib.Nat.{le_of_suc-le-suc, add-zero, zero-add, add-suc, suc-add}
use native.Mathlib.Decide.{dec_lt}
use mathlib.Core.Path.{◌≡◌, refl, sym, ap, subst, ◌∙◌}
use mathlib.Core.Bool.{Bool, true, false, cond, ◌&&◌}
use mathlib.Core.Logic.{◌↔◌, by_cases}
use mathlib.Core.List.{List, [], ◌∷◌, ◌++◌}
use lib.Bits.{bit_and, bit_or, and_mask, and_zero_r}
use borrow.Author.Tests.{eqb-true, eqb-false, ltb-true, ltb-false}
use lib.Dec.{eqb, ltb}
use borrow.Rule.Slice.PartMut.{mid_of}
use lib.ListN.{length, get_or, replicate, get_or-replicate, get_or-append}
use lib.Seq.{get_or-append-add, get_or-drop}
use Rattle.rows.specs.Rows.{Upto}
use Rattle.rows.proofs.Bytes.{rest_lent}
use Rattle.rows.proofs.Turns.{more}
use Rattle.sound.specs.Steps.{TextFits}

-- a mask of 255 lets a byte through, a mask of 0 nothing
pub let_through : (b : ℕ) → b < 256 → bit_and b 255 ≡ b
let_through b small = and_mask b 8 ∙ omega arith

-- The masks as the code has them: 48 zeros and 48 of 255, and 255 where one of the eight identifiers starts.
abbrev pub behind_mask : List ℕ
behind_mask = replicate 48 0 ++ replicate 48 255

abbrev pub start_mask : List ℕ
start_mask =
    255 ∷ 0 ∷ 0 ∷ 255 ∷ 0 ∷ 0 ∷ 255 ∷ 0 ∷ 0 ∷ 255 ∷ 0 ∷ 0 ∷
    255 ∷ 0 ∷ 0 ∷ 255 ∷ 0 ∷ 0 ∷ 255 ∷ 0 ∷ 0 ∷ 255 ∷ 0 ∷ 0 ∷ replicate 8 0

-- what is masked by the places behind n
pub behind : (mask : List ℕ) → mask ≡ behind_mask → (b n j : ℕ) → b < 256 → n ≤ 48 → j < 48
    → (bit_and b (get_or (mid_of (48 - n) (length mask - (48 - n)) mask) j 0) ≡ 0) ↔ (n ≤ j → b ≡ 0)
behind mask is b n j small most less = rw (rest_lent (48 - n) mask, get_or-drop (48 - n) mask j 0) (by_cases (dec_lt j n) before from)
  where
    place : ℕ
    place = 48 - n + j

    before : j < n → (bit_and b (get_or mask place 0) ≡ 0) ↔ (n ≤ j → b ≡ 0)
    before l =
        let at : get_or mask place 0 ≡ 0 =
        ap (λ (l : List ℕ). get_or l place 0) is ∙ get_or-append (replicate 48 0) (replicate 48 255) 0 place (omega arith) ∙ get_or-replicate 48 place 0 0 (omega arith) in
        (λ _ h. absurd (omega arith), λ _. ap (bit_and b) at ∙ and_zero_r b)

    from : (j < n → ⊥) → (bit_and b (get_or mask place 0) ≡ 0) ↔ (n ≤ j → b ≡ 0)
    from no_less =
        let more-than : n ≤ j = omega arith in
        let place_is : 48 + (j - n) ≡ place = omega arith in
        let at : get_or mask place 0 ≡ 255 =
        rw (is, ← place_is, get_or-append-add {A = ℕ} (replicate 48 0) (replicate 48 255) (j - n) 0) (get_or-replicate 48 (j - n) 255 0 (omega arith)) in
        let whole : bit_and b (get_or mask place 0) ≡ b = ap (bit_and b) at ∙ let_through b small in
        (λ h _. sym whole ∙ h, λ h. whole ∙ h more-than)

-- one turn more over a text: what it adds is 0 exactly where the byte that it looks at fits
pub text_more : (row mask : List ℕ) (faults used j : ℕ) → mask ≡ behind_mask → get_or row (j + 30) 0 < 256 → used ≤ 48
    → j < 48 → (faults ≡ 0) ↔ Upto j (TextFits used row)
    → (bit_or faults (bit_and (get_or row (j + 30) 0) (get_or (mid_of (48 - used) (length mask - (48 - used)) mask) j 0)) ≡ 0)
    ↔ Upto (j + 1) (TextFits used row)
text_more row mask faults used j is small most less so_far =
    more faults _ j so_far (behind mask is _ used j small most less)

-- where an identifier starts, told by the mask's byte there
data Start (j : ℕ) : ℕ → Type 0 where
  starts : (j % 3 ≡ 0) × (j < 24) → Start j 255
  between : ((j % 3 ≡ 0) × (j < 24) → ⊥) → Start j 0

-- the mask's byte at j
abbrev mark : ℕ → ℕ
mark j = cond (eqb (j % 3) 0 && ltb j 24) 255 0

-- f at n places, counted from i
abbrev listed : (ℕ → ℕ) → ℕ → ℕ → List ℕ
listed f i zero = []
listed f i (suc n) = f i ∷ listed f (suc i) n

listed_at : (f : ℕ → ℕ) (i n j : ℕ) → j < n → get_or (listed f i n) j 0 ≡ f (i + j)
listed_at f i (suc n) zero h = ap f (sym (add-zero i))
listed_at f i (suc n) (suc j) h = listed_at f (suc i) n j (le_of_suc-le-suc h) ∙ ap f (suc-add i j ∙ sym (add-suc i j))
listed_at f i zero j h = elim h [ ]

-- the mask is its rule, listed: both compute to the same 32 numbers
start_at : (j : ℕ) → j < 32 → Start j (get_or start_mask j 0)
start_at j less =
    subst (Start j) (sym (listed_at mark 0 32 j less ∙ ap mark (zero-add j))) (by (eqb (j % 3) 0) (ltb j 24) refl refl)
  where
    by : (a b : Bool) → eqb (j % 3) 0 ≡ a → ltb j 24 ≡ b → Start j (cond (a && b) 255 0)
    by true true p q = starts (eqb-true (j % 3) 0 p, ltb-true j 24 q)
    by true false p q = between (λ h. absurd (omega (arith, h.1, ltb-false j 24 q)))
    by false b p q = between (λ h. eqb-false (j % 3) 0 p h.0)

pub at_starts : (b j : ℕ) → b < 256 → j < 32 → (bit_and b (get_or start_mask j 0) ≡ 0) ↔ ((j % 3 ≡ 0) × (j < 24) → b ≡ 0)
at_starts b j small less = by (get_or start_mask j 0) (start_at j less)
  where
    by : (m : ℕ) → Start j m → (bit_and b m ≡ 0) ↔ ((j % 3 ≡ 0) × (j < 24) → b ≡ 0)
    by m (starts here) = (λ h _. sym (let_through b small) ∙ h, λ h. let_through b small ∙ h here)
    by m (between nowhere) = (λ _ h. absurd (nowhere h), λ _. and_zero_r b)
