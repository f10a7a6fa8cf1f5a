-- A delete among lines that rise: it takes out the one line with its position and its number, or none.
-- Assumes nothing.
use Prim.Native.Nat.{ℕ, suc, ◌≤◌, ◌<◌}
use native.Mathlib.Decide.{ℕ_discrete, dec_lt}
use native.Mathlib.Nat.{eq-or-lt_of_le}
use native.Mathlib.Omega.{arith}
use borrow.Author.Tests.{eqb-true, eqb-false}
use mathlib.Core.Path.{◌≡◌, refl, sym, ap, ◌∙◌, subst}
use mathlib.Core.Bool.{Bool, true, false, cond}
use mathlib.Core.Logic.{⊎_elim, by_cases}
use mathlib.Core.Option.{Option, none, some}
use mathlib.Core.List.{List, Memᴰ}
use lib.Dec.{eqb}
use lib.ListN.{length, get_or}
use Rattle.position.specs.declared.Identifier.{Identifier}
use Rattle.position.specs.Order.{◌≺◌}
use Rattle.position.proofs.Ordered.{irreflexive, transitive}
use Rattle.script.specs.declared.table.Found.{Found}
use Rattle.script.specs.Lines.{Line, no_line}
use Rattle.script.specs.Find.{find_in}
use Rattle.script.proofs.Finding.{place_at, Told, in_row, in_gap, told, rising_far}
use Rattle.effect.specs.Effect.{numbered, line_row, without, struck_answer}
use Rattle.exercise.proofs.Members.{mem_at, at_mem, left_at, still_in}

module _ (lines : List Line) (rising : (i : ℕ) → suc i < length lines → place_at lines i ≺ place_at lines (suc i)) where
  -- a position stands in one row
  apart : (i j : ℕ) → i < j → j < length lines → place_at lines i ≡ place_at lines j → ⊥
  apart i j h k e =
      irreflexive (place_at lines j) (subst (λ (p : List Identifier). p ≺ place_at lines j) e (rising_far lines rising i j h k))

  pub one_row : (i j : ℕ) → i < length lines → j < length lines → place_at lines i ≡ place_at lines j → i ≡ j
  one_row i j h k e =
      by_cases (ℕ_discrete i j) (λ same. same)
      (λ other. absurd (by_cases (dec_lt i j) (λ less. apart i j less k e) (λ more. apart j i (omega (arith, other, more)) h (sym e))))

  module _ (place : List Identifier) (n : ℕ) where
    -- a line that the delete means
    abbrev Meant : Line → Type 0
    Meant l = (place ≡ l.position) × (n ≡ l.number)

    -- what a strike tells, by the row that it takes out
    pub record Told-strike (row : Option ℕ) : Type 0 where
      pub left : (l : Line) → Memᴰ l (without row lines) → Memᴰ l lines × (Meant l → ⊥)
      pub kept : (l : Line) → Memᴰ l lines → (Meant l → ⊥) → Memᴰ l (without row lines)
      -- 0: there was such a line; 15: there was none
      pub there : struck_answer row ≡ 0 → (l : Line) × (Memᴰ l lines × Meant l)
      pub gone : struck_answer row ≡ 15 → (l : Line) → Memᴰ l lines → Meant l → ⊥

    -- no line is meant: none is taken out
    none_meant : ((l : Line) → Memᴰ l lines → Meant l → ⊥) → Told-strike none
    none_meant unmeant =
        record { left = λ l m. (m, unmeant l m); kept = λ l m other. m; there = λ e. absurd (omega arith); gone = λ e. unmeant }

    -- the line of row k is meant: it alone is taken out
    one_meant : (k : ℕ) → k < length lines → place_at lines k ≡ place → (get_or lines k no_line).number ≡ n → Told-strike (some k)
    one_meant k inside is number =
        record {
          left = λ l m.
              let at = left_at no_line l k lines m in
              let i = at.0 in
              let same : get_or lines i no_line ≡ l = at.1.1.1 in (
                subst (λ (x : Line). Memᴰ x lines) same (mem_at no_line lines i at.1.0),
                λ meant. at.1.1.0 (one_row i k at.1.0 inside
                    (ap (λ (x : Line). x.position) same ∙ sym meant.0 ∙ sym is)),
              );
          kept = λ l m other.
              ⊎_elim
              (λ (e : l ≡ get_or lines k no_line).
              absurd (other (sym is ∙ ap (λ (x : Line). x.position) (sym e), sym number ∙ ap (λ (x : Line). x.number) (sym e))))
              (λ rest. rest) (still_in no_line l k lines m);
          there = λ e. (get_or lines k no_line, (mem_at no_line lines k inside, (sym is, sym number)));
          gone = λ e. absurd (omega arith);
        }

    -- a line with the position stands in row k
    only_row : (k : ℕ) → k < length lines → place_at lines k ≡ place → (l : Line) → Memᴰ l lines → place ≡ l.position
        → get_or lines k no_line ≡ l
    only_row k inside is l m e =
        let at = at_mem no_line l lines m in
        let same : at.0 ≡ k = one_row at.0 k at.1.0 inside (ap (λ (x : Line). x.position) at.1.1 ∙ sym e ∙ sym is) in
        ap (λ (i : ℕ). get_or lines i no_line) (sym same) ∙ at.1.1

    by_found : (f : Found) → Told place lines f → Told-strike (numbered n lines f)
    by_found f (in_row k inside under is) = by (eqb (get_or lines k no_line).number n) refl
      where
        by : (b : Bool) → eqb (get_or lines k no_line).number n ≡ b → Told-strike (cond b (some k) none)
        by true e = one_meant k inside is (eqb-true (get_or lines k no_line).number n e)
        by false e =
            none_meant (λ l m meant.
            eqb-false (get_or lines k no_line).number n e
            (ap (λ (x : Line). x.number) (only_row k inside is l m meant.0) ∙ sym meant.1))
    by_found f (in_gap k inside under over) =
        none_meant (λ l m meant.
        let at = at_mem no_line l lines m in
        let here : place_at lines at.0 ≡ place = ap (λ (x : Line). x.position) at.1.1 ∙ sym meant.0 in
        by_cases (dec_lt at.0 k)
        (λ less. irreflexive place (subst (λ (p : List Identifier). p ≺ place) here (under at.0 less)))
        (λ more.
        let from : k ≤ at.0 = omega (arith, more) in
        let first : place ≺ place_at lines k = over (omega (arith, at.1.0)) in
        irreflexive place (subst (λ (p : List Identifier). place ≺ p) here
        (⊎_elim
        (λ same. subst (λ (i : ℕ). place ≺ place_at lines i) same first)
        (λ less. transitive place (place_at lines k) (place_at lines at.0) first (rising_far lines rising k at.0 less at.1.0))
        (eq-or-lt_of_le from)))))

    pub strike_tells : Told-strike (line_row place n lines)
    unfolding line_row
    strike_tells = by_found (find_in place lines) (told place lines)
