-- Rows held plus different lines struck equals inserts done: an insert puts in one line; a delete takes out a
-- line that was not struck before, or its line had been struck before and nothing changes.
-- Assumes nothing.
use Prim.Native.Nat.{ℕ, suc, ◌+◌, ◌≤◌, ◌<◌}
use native.Mathlib.Omega.{arith}
use borrow.Author.Tests.{eqb-true, eq-eqb}
use mathlib.Core.Path.{◌≡◌, refl, sym, ap, ◌∙◌, subst}
use mathlib.Core.Bool.{Bool, true, false, cond, ◌||◌, false≢true, and-eq-true_iff}
use mathlib.Core.Logic.{◌↔◌, ◌⊎◌, inl, inr, ⊎_elim}
use mathlib.Core.Option.{Option, none, some}
use mathlib.Core.List.Memᴰ
use mathlib.Core.List.{List, [], ◌∷◌, Memᴰ}
use lib.Dec.{eqb}
use lib.ListN.{length, take, get_or}
use Rattle.position.specs.declared.Identifier.{Identifier}
use Rattle.std.specs.declared.cmp.Ordering.{Ordering}
use Rattle.std.specs.declared.cmp.Ordering.TheVariants.{Less, Equal, Greater}
use Rattle.position.specs.Positions.{ids_of}
use Rattle.position.specs.Order.{order_of}
use Rattle.position.proofs.Ordered.{same_is, is_same}
use Rattle.rows.proofs.Moved.{insert_length, remove_length}
use Rattle.script.specs.declared.table.Found.{Found}
use Rattle.script.specs.Lines.{Line, no_line}
use Rattle.script.specs.Find.{find_in}
use Rattle.script.proofs.Finding.{Told, in_row, in_gap, told}
use Rattle.format.specs.declared.Edit.{Edit}
use Rattle.format.specs.declared.Edit.TheVariants.{Insert, Delete}
use Rattle.format.specs.declared.Patch.{Patch}
use Rattle.effect.specs.Effect.{row_of, put, numbered, line_row, without, strike, edited, effect, inserts}
use Rattle.exercise.specs.Scripts.{patch_of, beside_of, StrikeOf, Inserts, Strikes}
use Rattle.exercise.specs.Tally.{Identity, is_same_order, one_line, among, struck_by, struck_in, inserts_in}
use Rattle.exercise.proofs.Struck.{Told-strike, strike_tells}
use Rattle.exercise.proofs.History.{after, History, after_sound}
use Rattle.exercise.proofs.Holds.{script}
use Rattle.exercise.proofs.Strikers.{striker}

-- a delete strikes a line that one of these patches put in
abbrev pub AimOf : Patch → List (List ℕ) → Edit → Type 0
AimOf p g (Insert n) = Unit {0}
AimOf p g (Delete n) = (l : Line) × (StrikeOf p (Delete n) l × ((c : List ℕ) × (Memᴰ c g × Inserts c l)))

-- each received delete strikes a line whose insert was received before it
abbrev pub Aimed : List (List ℕ) → Type 0
Aimed [] = Unit {0}
Aimed (b ∷ g) = Aimed g × AimOf (patch_of b) g (patch_of b).edit

-- The lines struck are those that a received patch strikes.

-- a line's identity
abbrev pub identity_of : Line → Identity
identity_of l = record { position = l.position; number = l.number }

-- the identity that a delete names is that of a line that it strikes
struck_is : (place : List Identifier) (n : ℕ) (l : Line) → (place ≡ l.position) × (n ≡ l.number)
    → record { position = place; number = n } ≡ identity_of l
struck_is place n l (position, number) = λ d. record { position = position d; number = number d }

-- `is_same_order` is true of `Equal` alone
same_told : (o : Ordering) → is_same_order o ≡ true → o ≡ Equal
same_told Less e = absurd (false≢true e)
same_told Equal e = refl
same_told Greater e = absurd (false≢true e)

-- one line is one identity
one_line_lem : (x y : Identity) → (one_line x y ≡ true) ↔ (x ≡ y)
one_line_lem x y = (
  (λ e.
      let both = (and-eq-true_iff (is_same_order (order_of x.position y.position)) (eqb x.number y.number)).0 e in
      let position = same_is x.position y.position (same_told (order_of x.position y.position) both.0) in
      let number = eqb-true x.number y.number both.1 in
      λ d. record { position = position d; number = number d }),
  (λ e. subst (λ (z : Identity). one_line x z ≡ true) e
      ((and-eq-true_iff (is_same_order (order_of x.position x.position)) (eqb x.number x.number)).1
      (ap is_same_order (is_same x.position), eq-eqb x.number x.number refl))),
)

-- an `||` that is true: the one is, or the other
either_true : (a b : Bool) → ((a || b) ≡ true) ↔ ((a ≡ true) ⊎ (b ≡ true))
either_true true b = ((λ e. inl refl), (λ either. refl))
either_true false b = ((λ e. inr e), (λ either. ⊎_elim (λ e. absurd (false≢true e)) (λ e. e) either))

-- one more patch: what is struck is what it strikes, and what was struck before
struck_by_lem : (p : Patch) (e : Edit) (struck : List Identity) (l : Line)
    → (among (identity_of l) (struck_by p e struck) ≡ true) ↔ (StrikeOf p e l ⊎ (among (identity_of l) struck ≡ true))
unfolding among
struck_by_lem p (Insert n) struck l = ((λ before. inr before), (λ either. ⊎_elim (λ strikes. absurd strikes) (λ before. before) either))
struck_by_lem p (Delete n) struck l = by (among new struck) refl
  where
    new : Identity
    new = record { position = ids_of p.place; number = n }

    by : (b : Bool) → among new struck ≡ b
        → (among (identity_of l) (cond b struck (new ∷ struck)) ≡ true) ↔ (StrikeOf p (Delete n) l ⊎ (among (identity_of l) struck ≡ true))
    by true e = (
      (λ before. inr before),
      (λ either.
          ⊎_elim (λ strikes. subst (λ (x : Identity). among x struck ≡ true) (struck_is (ids_of p.place) n l strikes) e)
          (λ before. before) either),
    )
    by false e = (
      (λ found.
          ⊎_elim
          (λ (first : one_line (identity_of l) new ≡ true).
          let same : identity_of l ≡ new = (one_line_lem (identity_of l) new).0 first in
          inl (ap (λ (x : Identity). x.position) (sym same), ap (λ (x : Identity). x.number) (sym same)))
          (λ before. inr before)
          ((either_true (one_line (identity_of l) new) (among (identity_of l) struck)).0 found)),
      (λ either.
          (either_true (one_line (identity_of l) new) (among (identity_of l) struck)).1
          (⊎_elim (λ strikes. inl ((one_line_lem (identity_of l) new).1 (sym (struck_is (ids_of p.place) n l strikes))))
          (λ before. inr before) either)),
    )

-- a line is among those struck just where a received patch strikes it
pub struck_are : (g : List (List ℕ)) (l : Line)
    → (among (identity_of l) (struck_in g) ≡ true) ↔ ((c : List ℕ) × (Memᴰ c g × Strikes c l))
unfolding among struck_in
struck_are [] l = ((λ e. absurd (false≢true e)), (λ striking. absurd (Memᴰ.not-nil striking.1.0)))
struck_are (b ∷ g) l =
    let newest = struck_by_lem (patch_of b) (patch_of b).edit (struck_in g) l in (
      (λ e.
          ⊎_elim (λ (strikes : Strikes b l). (b, (Memᴰ.head refl, strikes)))
          (λ before. let older = (struck_are g l).0 before in (older.0, (Memᴰ.tail older.1.0, older.1.1)))
          (newest.0 e)),
      (λ striking.
          let c = striking.0 in
          newest.1
          (⊎_elim (λ (e : c ≡ b). inl (subst (λ (x : List ℕ). Strikes x l) e striking.1.1))
          (λ (k : Memᴰ c g). inr ((struck_are g l).1 (c, (k, striking.1.1)))) (Memᴰ.cases_cons striking.1.0))),
    )

-- The row that a delete takes out is one of the rows.

abbrev Inside : List Line → Option ℕ → Type 0
Inside lines none = Unit {0}
Inside lines (some k) = k < length lines

-- a row that is taken out or not, by a test
inside_if : (lines : List Line) (k : ℕ) → k < length lines → (b : Bool) → Inside lines (cond b (some k) none)
inside_if lines k inside true = inside
inside_if lines k inside false = tt

found_inside : (place : List Identifier) (n : ℕ) (lines : List Line) (f : Found) → Told place lines f → Inside lines (numbered n lines f)
found_inside place n lines f (in_row k inside under is) = inside_if lines k inside (eqb (get_or lines k no_line).number n)
found_inside place n lines f (in_gap k inside under over) = tt

row_inside : (place : List Identifier) (n : ℕ) (lines : List Line) → Inside lines (line_row place n lines)
unfolding line_row
row_inside place n lines = found_inside place n lines (find_in place lines) (told place lines)

-- no row is taken out
abbrev is_none : Option ℕ → Bool
is_none none = true
is_none (some k) = false

-- one row fewer is one line struck more; where no row is taken out, the line was struck before
balanced : (lines : List Line) (struck : List Identity) (x : Identity) (row : Option ℕ) → Inside lines row → among x struck ≡ is_none row
    → length (without row lines) + length (cond (among x struck) struck (x ∷ struck)) ≡ length lines + length struck
balanced lines struck x none inside e = rw e
balanced lines struck x (some k) inside e = rw (e, remove_length k lines inside) (omega (arith, inside))

-- what is not true is false
not_so : (b : Bool) → (b ≡ true → ⊥) → b ≡ false
not_so true wrong = absurd (wrong refl)
not_so false wrong = refl

module _ (site : ℕ) (least : 1 ≤ site) (most : site ≤ 16) where
  module _ (g : List (List ℕ)) (h : History site g) (p : Patch) (n : ℕ) where
    abbrev lines : List Line
    lines = (after site g).lines

    abbrev place : List Identifier
    place = ids_of p.place

    abbrev new : Identity
    new = record { position = place; number = n }

    -- the line that a delete strikes was struck before just where it is not among the lines
    struck_before : AimOf p g (Delete n) → (row : Option ℕ) → Told-strike lines (after_sound site least most g h).lines.rising place n row
        → among new (struck_in g) ≡ is_none row
    struck_before (l, (strikes, inserted)) none tells =
        let gone = tells.gone refl l in
        let before : among (identity_of l) (struck_in g) ≡ true =
        (struck_are g l).1
        (⊎_elim (λ unstruck. absurd (gone (((script site least most g h).lines_are l).1 (inserted, unstruck)) strikes)) (λ striking. striking)
        (striker g l)) in
        subst (λ (x : Identity). among x (struck_in g) ≡ true) (sym (struck_is place n l strikes)) before
    struck_before aim (some k) tells =
        let there = tells.there refl in
        let l = there.0 in
        not_so (among new (struck_in g)) (λ before.
        let striking =
        (struck_are g l).0 (subst (λ (x : Identity). among x (struck_in g) ≡ true) (struck_is place n l there.1.1) before) in
        (((script site least most g h).lines_are l).0 there.1.0).1 striking.0 striking.1.0 striking.1.1)

  -- one more patch keeps the two sides equal
  one_more : (g : List (List ℕ)) → History site g → (p : Patch) (text : List ℕ) (e : Edit) → AimOf p g e
      → length (after site g).lines + length (struck_in g) ≡ inserts_in g
      → length (edited p e text (after site g).lines) + length (struck_by p e (struck_in g)) ≡ cond (inserts e) (suc (inserts_in g)) (inserts_in g)
  unfolding edited put strike
  one_more g h p text (Insert n) aim so_far =
      let l : Line = record { position = ids_of p.place; number = p.number; text = take n text } in
      omega (arith, so_far, insert_length (row_of (find_in (ids_of p.place) (after site g).lines)) l (after site g).lines)
  one_more g h p text (Delete n) aim so_far =
      let held = (after site g).lines in
      let place = ids_of p.place in
      let tells = strike_tells held (after_sound site least most g h).lines.rising place n in
      balanced held (struck_in g) (record { position = place; number = n }) (line_row place n held) (row_inside place n held)
      (struck_before g h p n aim (line_row place n held) tells)
      ∙ so_far

  -- "rows held plus different lines struck equals inserts done"
  pub tally : (g : List (List ℕ)) → History site g → Aimed g → length (after site g).lines + length (struck_in g) ≡ inserts_in g
  unfolding after effect struck_in inserts_in
  tally [] h aimed = refl
  tally (b ∷ g) (h, step) (aimed, aim) = one_more g h (patch_of b) (beside_of b) (patch_of b).edit aim (tally g h aimed)
