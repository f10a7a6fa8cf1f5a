-- What is read. A well-formed patch's bytes read as it, also in front of further bytes. What is read has no
-- other bytes that mean it: those used are exactly `patch_bytes` of what was read, and that is well-formed.
-- Assumes nothing.
use Prim.Native.Nat.{ℕ, ◌≤◌}
use native.Mathlib.Omega.{arith}
use mathlib.Core.Path.{◌≡◌, refl, sym, ap, subst, ◌∙◌}
use mathlib.Core.Bool.{Bool, true, false, cond}
use mathlib.Core.Logic.{ite, if_pos, if_neg}
use mathlib.Core.List.{List, ◌++◌}
use lib.ListN.{length, take, drop, get_or, take-append-drop}
use lib.Seq.{take_at, take_all}
use lib.Dec.{eqb}
use borrow.Author.Tests.{eqb-true, eq-eqb, ne_eqb}
use Rattle.std.specs.Prelude.{Some}
use Rattle.rows.specs.Rows.{Stands}
use Rattle.format.specs.declared.Patch.{Patch}
use Rattle.format.specs.Patches.{patch_bytes}
use Rattle.format.specs.WellFormed.{WellFormed}
use Rattle.format.specs.Steps.{FieldsFit}
use Rattle.format.proofs.Parts.{fields_agree}
use Rattle.format.proofs.Sizes.{sizes}
use Rattle.reader.specs.declared.Reading.{Reading}
use Rattle.reader.specs.Read.{refused, FirstIs, first_is?, reading_of, patch_in, text_in, line_in, read_first, read_one, taken, given}
use Rattle.reader.proofs.Back.{patch_back, beside_back}

-- what bytes stand in is they and what is behind them
pub stands_whole : (a s : List ℕ) → Stands a s → a ++ drop (length a) s ≡ s
stands_whole a s h = ap (λ (l : List ℕ). l ++ drop (length a) s) (sym h) ∙ take-append-drop (length a) s

-- A well-formed patch whose bytes stand at the front is what is read.

pub reads_back : (p : Patch) (text rest : List ℕ) → WellFormed p text → read_first (patch_bytes p text ++ rest) ≡ reading_of p text
unfolding read_first
reads_back p text rest good =
    let s = patch_bytes p text ++ rest in
    let fits : FieldsFit p text = ((fields_agree p text).0 good).0 in
    let stands : Stands (patch_bytes p text) s = take_at (patch_bytes p text) rest (length (patch_bytes p text)) refl in
    rw (patch_back p text rest fits, beside_back p text rest fits)
    (if_pos (first_is? s p text) (good, stands) (reading_of p text) refused)

pub is_read : (s : List ℕ) (p : Patch) (text : List ℕ) → FirstIs s p text → read_first s ≡ reading_of p text
is_read s p text (good, stands) =
    subst (λ (l : List ℕ). read_first l ≡ reading_of p text) (stands_whole (patch_bytes p text) s stands)
    (reads_back p text (drop (length (patch_bytes p text)) s) good)

-- Where no well-formed patch's bytes stand, nothing is read.
pub not_read : (s : List ℕ) → ((p : Patch) (text : List ℕ) → FirstIs s p text → ⊥) → read_first s ≡ refused
unfolding read_first
not_read s none-there =
    let p = patch_in s in
    let text = text_in (get_or s 0 0) (line_in s) in
    if_neg (first_is? s p text) (none-there p text) (reading_of p text) refused

-- What is read.

pub record IsRead (s : List ℕ) (r : Reading) : Type 0 where
  pub well_formed : WellFormed r.patch r.text
  pub used : r.used ≡ length (patch_bytes r.patch r.text)
  pub bytes : take r.used s ≡ patch_bytes r.patch r.text

pub what_is_read : (s : List ℕ) → 1 ≤ (read_first s).used → IsRead s (read_first s)
unfolding read_first
what_is_read s some =
    let p = patch_in s in
    let text = text_in (get_or s 0 0) (line_in s) in
    by p text (first_is? s p text) some
  where
    by : (p : Patch) (text : List ℕ) (first : Dec (FirstIs s p text)) → 1 ≤ (ite first (reading_of p text) refused).used
        → IsRead s (ite first (reading_of p text) refused)
    by p text (yes (good, stands)) some = record { well_formed = good; used = refl; bytes = stands }
    by p text (no wrong) some = absurd (omega arith)

-- no other bytes mean it: two runs of bytes that read as one patch begin with the same bytes
pub one_encoding : (s t : List ℕ) → 1 ≤ (read_first s).used → 1 ≤ (read_first t).used
    → (read_first s).patch ≡ (read_first t).patch → (read_first s).text ≡ (read_first t).text
    → take (read_first s).used s ≡ take (read_first t).used t
one_encoding s t some-s some-t patches texts =
    (what_is_read s some-s).bytes ∙ (λ d. patch_bytes (patches d) (texts d)) ∙ sym (what_is_read t some-t).bytes

-- Exactly one patch: where one is read, the bytes are its bytes and nothing else.

pub one_is_read : (s : List ℕ) → 1 ≤ (read_one s).used
    → WellFormed (read_one s).patch (read_one s).text × (s ≡ patch_bytes (read_one s).patch (read_one s).text)
unfolding read_one
one_is_read s some = by (eqb (read_first s).used (length s)) refl some
  where
    by : (all : Bool) → eqb (read_first s).used (length s) ≡ all → 1 ≤ (cond all (read_first s) refused).used
        → let r = cond all (read_first s) refused in WellFormed r.patch r.text × (s ≡ patch_bytes r.patch r.text)
    by true all some =
        let r = what_is_read s some in
        (r.well_formed, sym (take_all (read_first s).used s (omega (arith, eqb-true (read_first s).used (length s) all))) ∙ r.bytes)
    by false all some = absurd (omega arith)

pub one_reads_back : (p : Patch) (text : List ℕ) → WellFormed p text → read_one (patch_bytes p text) ≡ reading_of p text
unfolding read_one
one_reads_back p text good =
    let bytes = patch_bytes p text in
    let first : read_first bytes ≡ reading_of p text = is_read bytes p text (good, take_all (length bytes) bytes (omega arith)) in
    rw (first, eq-eqb (length bytes) (length bytes) refl)

-- What a caller is handed says all of it: where there is no reading, the definition's is the refused one.

-- a patch that is read has bytes, so it is handed out
pub taken_read : (p : Patch) (text : List ℕ) → WellFormed p text → taken (reading_of p text) ≡ Some (reading_of p text)
taken_read p text good =
    let some : eqb (length (patch_bytes p text)) 0 ≡ false = ne_eqb (length (patch_bytes p text)) 0 (λ e. omega (arith, e, (sizes p text good).0)) in
    rw some refl

pub given_first : (s : List ℕ) → given (taken (read_first s)) ≡ read_first s
unfolding read_first
given_first s =
    let p = patch_in s in
    let text = text_in (get_or s 0 0) (line_in s) in
    by p text (first_is? s p text)
  where
    by : (p : Patch) (text : List ℕ) (first : Dec (FirstIs s p text))
        → given (taken (ite first (reading_of p text) refused)) ≡ ite first (reading_of p text) refused
    by p text (yes (good, stands)) = ap given (taken_read p text good)
    by p text (no wrong) = refl

pub given_one : (s : List ℕ) → given (taken (read_one s)) ≡ read_one s
unfolding read_one
given_one s = by (eqb (read_first s).used (length s))
  where
    by : (all : Bool) → given (taken (cond all (read_first s) refused)) ≡ cond all (read_first s) refused
    by true = given_first s
    by false = refl
