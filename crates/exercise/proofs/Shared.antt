-- One exercise, all hosts: a number of a site is one patch everywhere, so counts tell which patches a host has.
-- Assumes nothing.
use Prim.Native.Nat.{ℕ, ◌≤◌}
use mathlib.Core.Path.{◌≡◌, refl, sym, ◌∙◌, subst}
use mathlib.Core.Logic.{⊎_elim}
use mathlib.Core.List.Memᴰ
use mathlib.Core.List.{List, [], ◌∷◌, Memᴰ}
use Rattle.exercise.specs.World.{World, Site}
use Rattle.exercise.specs.Scripts.{patch_of}
use Rattle.exercise.specs.Condition3.{Is}
use Rattle.exercise.proofs.History.{History, Step, count_in, counted, received, once}
use Rattle.exercise.proofs.Exercised.{Fair}

-- When a patch was received: what had been before.
pub record When (site : ℕ) (g : List (List ℕ)) (b : List ℕ) : Type 0 where
  pub before : List (List ℕ)
  pub history : History site before
  pub step : Step site before b
  pub earlier : (c : List ℕ) → Memᴰ c before → Memᴰ c g

pub when : (site : ℕ) (g : List (List ℕ)) → History site g → (b : List ℕ) → Memᴰ b g → When site g b
when site [] h b m = absurd (Memᴰ.not-nil m)
when site (c ∷ g) (h, step) b m =
    ⊎_elim
    (λ (e : b ≡ c). record { before = g; history = h; step = subst (Step site g) (sym e) step; earlier = λ d k. Memᴰ.tail k })
    (λ (k : Memᴰ b g).
    let was = when site g h b k in
    record { before = was.before; history = was.history; step = was.step; earlier = λ d n. Memᴰ.tail (was.earlier d n) })
    (Memᴰ.cases_cons m)

module _ (w : World) (fair : Fair w) where
  abbrev got : Site → List (List ℕ)
  got s = (w.host s.number).received

  abbrev past : (s : Site) → History s.number (got s)
  past s = (fair.kept s).history

  -- the site that made a patch
  abbrev pub maker : (b : List ℕ) → Memᴰ b w.made → Site
  maker b m = record { number = (patch_of b).author; least = (fair.authored b m).least; most = (fair.authored b m).most }

  -- a number of a site is one patch
  pub one_patch : (b c : List ℕ) → Memᴰ b w.made → Memᴰ c w.made → (a n : ℕ) → Is a n b → Is a n c → b ≡ c
  one_patch b c in_b in_c a n is_b is_c =
      let own = fair.authored b in_b in
      let other = fair.authored c in_c in
      let same : (patch_of c).author ≡ (patch_of b).author = is_c.0 ∙ sym is_b.0 in
      let s = maker b in_b in
      once s.number s.least s.most (got s) (past s) (patch_of b).author n s.least b c own.received
      (subst (λ (x : ℕ). Memᴰ c (w.host x).received) same other.received) (refl, is_b.1) (same, is_c.1)

  -- a patch made is received where its number is counted
  pub has : (s : Site) (b : List ℕ) → Memᴰ b w.made → (patch_of b).number ≤ count_in s.number (got s) (patch_of b).author
      → 1 ≤ (patch_of b).number → Memᴰ b (got s)
  has s b m upto some =
      let a = fair.authored b m in
      let found = received s.number s.least s.most (got s) (past s) (patch_of b).author (patch_of b).number a.least a.most some upto in
      let c = found.0 in
      let in_s = found.1.0 in
      Memᴰ.cast (one_patch b c m ((fair.kept s).from c in_s) (patch_of b).author (patch_of b).number (refl, refl) found.1.1) in_s

  -- and counted where it is received
  pub is_counted : (s : Site) (b : List ℕ) → Memᴰ b (got s)
      → (1 ≤ (patch_of b).number) × ((patch_of b).number ≤ count_in s.number (got s) (patch_of b).author)
  is_counted s b m =
      let a = fair.authored b ((fair.kept s).from b m) in
      counted s.number s.least s.most (got s) (past s) b m (patch_of b).author (patch_of b).number a.least (refl, refl)
