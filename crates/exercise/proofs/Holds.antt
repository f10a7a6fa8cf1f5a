-- What a host holds is told by what it has received: the lines of its script are those of received inserts that
-- no received delete strikes.
-- Assumes nothing.
use Prim.Native.Nat.{ℕ, suc, ◌-◌, ◌≤◌}
use native.Mathlib.Omega.{arith}
use mathlib.Core.Path.{◌≡◌, refl, sym, ap, ◌∙◌, subst}
use mathlib.Core.Logic.{◌↔◌, ◌⊎◌, inl, inr, ⊎_elim}
use mathlib.Core.List.Memᴰ
use mathlib.Core.List.{List, [], ◌∷◌, Memᴰ}
use lib.ListN.{length, take}
use Rattle.position.specs.declared.Identifier.{Identifier}
use Rattle.position.specs.Positions.{ids_of, author_of, LinePosition}
use Rattle.rows.specs.Rows.{insert_at}
use Rattle.script.specs.Lines.{Line}
use Rattle.script.specs.Find.{find_in}
use Rattle.format.specs.declared.Edit.{Edit}
use Rattle.format.specs.declared.Edit.TheVariants.{Insert, Delete}
use Rattle.format.specs.declared.Patch.{Patch}
use Rattle.format.specs.WellFormed.{EditAgrees}
use Rattle.effect.specs.Effect.{row_of, put, strike, edited, effect}
use Rattle.exercise.specs.Scripts.{patch_of, beside_of, InsertOf, StrikeOf, Inserts, Strikes, InsertedIn, UnstruckIn, Script}
use Rattle.exercise.proofs.Members.{put_cases, put_new, put_old}
use Rattle.exercise.proofs.Struck.{strike_tells}
use Rattle.exercise.proofs.History.{after, History, Step, after_sound, count_in, count_rises}

-- received and not struck, with one more patch whose edit is e
module _ (p : Patch) (text : List ℕ) (g : List (List ℕ)) where
  abbrev Inserted : Edit → Line → Type 0
  Inserted e l = InsertOf p text e l ⊎ InsertedIn g l

  abbrev Unstruck : Edit → Line → Type 0
  Unstruck e l = (StrikeOf p e l → ⊥) × UnstruckIn g l

-- a line's author is a site
pub author_most : (l : List Identifier) → LinePosition l → author_of l ≤ 16
author_most l h = (h.proper (length l - 1) (omega (arith, h.least))).site

module _ (site : ℕ) (least : 1 ≤ site) (most : site ≤ 16) where
  -- a line that a received delete means is one of a number that was counted before
  struck_counted : (g : List (List ℕ)) → History site g → (c : List ℕ) → Memᴰ c g → (l : Line) → Strikes c l
      → (1 ≤ author_of l.position) × (l.number ≤ count_in site g (author_of l.position))
  struck_counted [] h c m l strikes = absurd (Memᴰ.not-nil m)
  struck_counted (b ∷ g) (h, step) c m l strikes =
      ⊎_elim
      (λ (e : c ≡ b).
      let here = by_edit b g step (patch_of b).edit step.takes.patch.edit l (subst (λ (x : List ℕ). Strikes x l) e strikes) in
      (here.0, omega (arith, here.1, count_rises site least most b g (h, step) (author_of l.position) here.0)))
      (λ (k : Memᴰ c g).
      let before = struck_counted g h c k l strikes in
      (before.0, omega (arith, before.1, count_rises site least most b g (h, step) (author_of l.position) before.0)))
      (Memᴰ.cases_cons m)
    where
      by_edit : (b : List ℕ) (g : List (List ℕ)) → Step site g b → (e : Edit) → EditAgrees (patch_of b) e → (l : Line) → StrikeOf (patch_of b) e l
          → (1 ≤ author_of l.position) × (l.number ≤ count_in site g (author_of l.position))
      by_edit b g step (Insert n) agrees l strikes = absurd strikes
      by_edit b g step (Delete n) agrees l strikes =
          let a = author_of (ids_of (patch_of b).place) in
          let same : a ≡ author_of l.position = ap author_of strikes.0 in
          let few : a ≤ 16 = author_most (ids_of (patch_of b).place) step.takes.patch.place in
          let covered = step.takes.before (a - 1) (omega (arith, agrees.0)) in
          rw (← same, ← strikes.1) (agrees.0, omega (arith, agrees.1, covered))

  module _ (b : List ℕ) (g : List (List ℕ)) (h : History site g) (step : Step site g b)
      (holds : (l : Line) → Memᴰ l (after site g).lines ↔ (InsertedIn g l × UnstruckIn g l)) where
    abbrev p : Patch
    p = patch_of b

    abbrev lines : List Line
    lines = (after site g).lines

    by_edit : (e : Edit) → EditAgrees p e → (l : Line)
        → Memᴰ l (edited p e (beside_of b) lines) ↔ (Inserted p (beside_of b) g e l × Unstruck p (beside_of b) g e l)
    unfolding edited put strike
    by_edit (Insert n) agrees l =
        let new : Line = record { position = ids_of p.place; number = p.number; text = take n (beside_of b) } in
        let k = row_of (find_in (ids_of p.place) lines) in (
          (λ m. ⊎_elim
              (λ (e : l ≡ new). (inl e, ((λ none. none), λ c in_g strikes. new_unstruck c in_g l e strikes)))
              (λ old. let told = (holds l).0 old in (inr told.0, ((λ none. none), told.1)))
              (put_cases new l k lines m)),
          (λ told. ⊎_elim
              (λ (e : l ≡ new). subst (λ (x : Line). Memᴰ x (insert_at k new lines)) (sym e) (put_new new k lines))
              (λ old. put_old new l k lines ((holds l).1 (old, told.1.1)))
              told.0),
        )
      where
        new_unstruck : (c : List ℕ) → Memᴰ c g → (l : Line)
            → l ≡ record { position = ids_of p.place; number = p.number; text = take n (beside_of b) } → Strikes c l → ⊥
        new_unstruck c in_g l e strikes =
            let counted = struck_counted g h c in_g l strikes in
            let author : author_of l.position ≡ p.author = ap (λ (x : Line). author_of x.position) e ∙ agrees in
            let number : l.number ≡ suc (count_in site g p.author) = ap (λ (x : Line). x.number) e ∙ step.takes.next in
            omega (arith, number, subst (λ (a : ℕ). l.number ≤ count_in site g a) author counted.1)
    by_edit (Delete n) agrees l =
        let tells = strike_tells lines (after_sound site least most g h).lines.rising (ids_of p.place) n in (
          (λ m.
              let left = tells.left l m in
              let told = (holds l).0 left.0 in
              (inr told.0, (left.1, told.1))),
          (λ told. tells.kept l ((holds l).1 (⊎_elim (λ none. absurd none) (λ old. old) told.0, told.1.1)) told.1.0),
        )

  -- the lines are those of received inserts that no received delete strikes
  lines_are : (g : List (List ℕ)) → History site g → (l : Line)
      → Memᴰ l (after site g).lines
      ↔ (InsertedIn g l × UnstruckIn g l)
  unfolding after effect
  lines_are [] h l = ((λ m. absurd (Memᴰ.not-nil m)), (λ told. absurd (Memᴰ.not-nil told.0.1.0)))
  lines_are (b ∷ g) (h, step) l =
      let edit = by_edit b g h step (lines_are g h) (patch_of b).edit step.takes.patch.edit l in (
        (λ m. let told = edit.0 m in (
          ⊎_elim (λ (here : Inserts b l). (b, (Memᴰ.head refl, here)))
              (λ (old : InsertedIn g l). (old.0, (Memᴰ.tail old.1.0, old.1.1))) told.0,
          λ c m strikes.
              ⊎_elim (λ (e : c ≡ b). told.1.0 (subst (λ (x : List ℕ). Strikes x l) e strikes))
              (λ (k : Memᴰ c g). told.1.1 c k strikes) (Memᴰ.cases_cons m),
        )),
        (λ told.
            let c = told.0.0 in
            edit.1 (
              ⊎_elim (λ (e : c ≡ b). inl (subst (λ (x : List ℕ). Inserts x l) e told.0.1.1))
                  (λ (k : Memᴰ c g). inr (c, (k, told.0.1.1))) (Memᴰ.cases_cons told.0.1.0),
              ((λ strikes. told.1 b (Memᴰ.head refl) strikes), (λ c k strikes. told.1 c (Memᴰ.tail k) strikes)),
            )),
      )

  pub script : (g : List (List ℕ)) → History site g → Script g (after site g).lines
  script g h = record { rising = (after_sound site least most g h).lines.rising; lines_are = lines_are g h }
