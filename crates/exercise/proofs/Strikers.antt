-- Whether a received patch strikes a line: all are looked at in turn, so either one is found or none does.
-- Assumes nothing.
use Prim.Native.Nat.{ℕ}
use native.Mathlib.Decide.{ℕ_discrete}
use mathlib.Core.Path.{◌≡◌, refl, subst}
use mathlib.Core.Logic.Dec
use mathlib.Core.Logic.{◌⊎◌, inl, inr, ⊎_elim, by_cases}
use mathlib.Core.List.Memᴰ
use mathlib.Core.List.{List, [], ◌∷◌, Memᴰ}
use Rattle.position.specs.declared.Identifier.{Identifier}
use Rattle.position.specs.Positions.{ids_of}
use Rattle.position.specs.Order.{◌≺◌}
use Rattle.position.proofs.Ordered.{irreflexive, total}
use Rattle.script.specs.Lines.{Line}
use Rattle.format.specs.declared.Edit.{Edit}
use Rattle.format.specs.declared.Edit.TheVariants.{Insert, Delete}
use Rattle.format.specs.declared.Patch.{Patch}
use Rattle.exercise.specs.Scripts.{patch_of, StrikeOf, Strikes, UnstruckIn}

-- the order of positions tells whether two are one
same_position? : (p q : List Identifier) → Dec (p ≡ q)
same_position? p q =
    ⊎_elim
    (λ (below : p ≺ q). no (λ e. irreflexive q (subst (λ (x : List Identifier). x ≺ q) e below)))
    (λ (rest : (p ≡ q) ⊎ (q ≺ p)).
    ⊎_elim
    (λ (same : p ≡ q). yes same)
    (λ (above : q ≺ p). no (λ e. irreflexive q (subst (λ (x : List Identifier). q ≺ x) e above)))
    rest)
    (total p q)

-- and so whether a patch strikes a line is told
strike_of? : (p : Patch) (e : Edit) (l : Line) → Dec (StrikeOf p e l)
strike_of? p (Insert n) l = no (λ strikes. strikes)
strike_of? p (Delete n) l = Dec.and (same_position? (ids_of p.place) l.position) (ℕ_discrete n l.number)

-- no received patch strikes the line, or here is one that does
pub striker : (g : List (List ℕ)) (l : Line)
    → UnstruckIn g l ⊎ ((c : List ℕ) × (Memᴰ c g × Strikes c l))
striker [] l = inl (λ c m strikes. Memᴰ.not-nil m)
striker (b ∷ g) l =
    by_cases (strike_of? (patch_of b) (patch_of b).edit l)
    (λ strikes. inr (b, (Memᴰ.head refl, strikes)))
    (λ spared.
    ⊎_elim
    (λ (unstruck : UnstruckIn g l).
    inl (λ c m strikes.
    ⊎_elim (λ (e : c ≡ b). spared (subst (λ (x : List ℕ). Strikes x l) e strikes))
    (λ (k : Memᴰ c g). unstruck c k strikes) (Memᴰ.cases_cons m)))
    (λ (older : (c : List ℕ) × (Memᴰ c g × Strikes c l)). inr (older.0, (Memᴰ.tail older.1.0, older.1.1)))
    (striker g l))
