-- How many bytes the lines of a listing have at most: a number has no more digits than its bound, the line of a
-- patch 8 bytes, that of a row 134.
-- Assumes nothing.
use Prim.Native.Nat.{ℕ, zero, suc, ◌+◌, ◌*◌, ◌/◌, ◌%◌, ◌^◌, ◌≤◌, ◌<◌}
use native.Mathlib.Nat.{pow-suc, div-lt_iff_lt-mul}
use native.Mathlib.Omega.{arith}
use borrow.Author.Tests.{ltb-false}
use mathlib.Core.Path.{◌≡◌, refl, subst}
use mathlib.Core.Bool.{Bool, true, false, cond}
use mathlib.Core.List.{List, [], ◌∷◌, ◌++◌}
use lib.Dec.{ltb}
use lib.ListN.{length, get_or, length-append}
use Rattle.position.specs.declared.Identifier.{Identifier}
use Rattle.position.specs.Positions.{pad, Proper}
use Rattle.rows.specs.Rows.{flat}
use Rattle.script.specs.Lines.{Line}
use Rattle.script.specs.Sound.{SoundLine}
use Rattle.listed.specs.Text.{ascii, digit, digits_of, decimal, patch_line, identifier_text, position_text, row_line, from_place}

tenth : (k n : ℕ) → n < 10 ^ suc k → n / 10 < 10 ^ k
tenth k n h = (div-lt_iff_lt-mul {k = 10} {x = n} {y = 10 ^ k} (omega arith)).1 (subst (λ (m : ℕ). n < m) (pow-suc 10 k) h)

-- one digit more than a tenth of it has
digit_more : (k most n : ℕ) (b : Bool) → ltb n 10 ≡ b → 1 ≤ k → n < 10 ^ k
    → ((j : ℕ) → 1 ≤ j → n / 10 < 10 ^ j → length (digits_of most (n / 10)) ≤ j)
    → length (cond b (digit n) (digits_of most (n / 10) ++ digit (n % 10))) ≤ k
digit_more k most n true e some h less = omega arith
digit_more zero most n false e some h less = absurd (omega arith)
digit_more (suc zero) most n false e some h less = absurd (omega (arith, ltb-false n 10 e))
digit_more (suc (suc k)) most n false e some h less =
    rw length-append (omega (arith, less (suc k) (omega arith) (tenth (suc k) n h)))

-- a number below 10 ^ k has at most k digits
digits_most : (k most n : ℕ) → 1 ≤ k → n < 10 ^ k → length (digits_of most n) ≤ k
unfolding digits_of
digits_most k zero n some h = omega arith
digits_most k (suc most) n some h =
    digit_more k most n (ltb n 10) refl some h (λ j. digits_most j most (n / 10))

pub decimal_most : (k n : ℕ) → 1 ≤ k → n < 10 ^ k → length (decimal n) ≤ k
unfolding decimal
decimal_most k n some h = digits_most k (suc n) n some h

pub patch_line_most : (place answer : ℕ) → place < 10000 → answer < 100 → length (patch_line place answer) ≤ 8
unfolding patch_line
patch_line_most place answer h k =
    let front = decimal_most 4 place (omega arith) h in
    let behind = decimal_most 2 answer (omega arith) k in
    simp length-append (omega arith)

identifier_most : (i : Identifier) → Proper i → length (identifier_text i) ≤ 8
unfolding identifier_text
identifier_most i proper =
    let integer = decimal_most 5 i.integer (omega arith) (omega (arith, proper.integer)) in
    let site = decimal_most 2 i.site (omega arith) (omega (arith, proper.site)) in
    simp length-append (omega arith)

-- with a comma in front of each
joined_most : (ids : List Identifier) → ((k : ℕ) → k < length ids → Proper (get_or ids k pad))
    → length (flat (λ (j : Identifier). ascii "," ++ identifier_text j) ids) ≤ 9 * length ids
unfolding flat
joined_most [] proper = omega arith
joined_most (i ∷ ids) proper =
    let first = identifier_most i (proper 0 (omega arith)) in
    let rest = joined_most ids (λ k h. proper (suc k) (omega arith)) in
    simp length-append (omega arith)

-- and without that of the first
position_most : (ids : List Identifier) → ((k : ℕ) → k < length ids → Proper (get_or ids k pad))
    → length (position_text ids) ≤ 9 * length ids
unfolding position_text flat
position_most [] proper = omega arith
position_most (i ∷ ids) proper = omega (arith, joined_most (i ∷ ids) proper)

pub row_line_most : (counts : List ℕ) (place : ℕ) (l : Line) → place < 1000 → SoundLine counts l
    → length (row_line place l) ≤ 134
unfolding row_line
row_line_most counts place l h sound =
    let front = decimal_most 3 place (omega arith) h in
    let position = position_most l.position sound.position.proper in
    let most = sound.position.most in
    let number = decimal_most 7 l.number (omega arith) (omega (arith, sound.number_most)) in
    let text = sound.text in
    simp length-append (omega arith)

-- lines of at most `width` bytes each, from a place on
pub lines_most : {A : Type 0} (d : A) (line : ℕ → A → List ℕ) (width place : ℕ) (xs : List A)
    → ((i k : ℕ) → k ≡ place + i → i < length xs → length (line k (get_or xs i d)) ≤ width)
    → length (from_place line place xs) ≤ width * length xs
unfolding from_place
lines_most d line width place [] each = omega arith
lines_most d line width place (x ∷ xs) each =
    let first = each 0 place (omega arith) (omega arith) in
    let rest = lines_most d line width (suc place) xs (λ i k e h. each (suc i) k (omega arith) (omega arith)) in
    simp length-append (omega arith)
