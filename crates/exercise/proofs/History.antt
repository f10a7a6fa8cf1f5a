-- The patches that a host has received, one after the other: each was one that it took, and what it holds is
-- what they did. Nothing here speaks of other hosts.
-- Assumes nothing.
use Prim.Native.Nat.{ℕ, suc, ◌-◌, ◌≤◌}
use native.Mathlib.Decide.{ℕ_discrete}
use native.Mathlib.Omega.{arith}
use mathlib.Core.Path.{◌≡◌, refl, sym, ap, ◌∙◌, subst}
use mathlib.Core.Logic.{⊎_elim, by_cases}
use mathlib.Core.List.Memᴰ
use mathlib.Core.List.{List, [], ◌∷◌, Memᴰ}
use lib.ListN.{get_or-replicate}
use Rattle.record.specs.Records.{count_of}
use Rattle.effect.specs.Held.{Held}
use Rattle.effect.specs.Effect.{effect, Takes}
use Rattle.effect.proofs.Counted.{raised_own, raised_other}
use Rattle.effect.proofs.Keeps.{SoundHeld, effect_sound}
use Rattle.replica.specs.Start.{empty}
use Rattle.replica.proofs.Started.{empty_sound}
use Rattle.exercise.specs.Scripts.{patch_of, beside_of}
use Rattle.exercise.specs.Condition3.{Is}
use Rattle.exercise.proofs.Tied.{Made}

-- what a host of this site holds after these patches, the newest first
unfoldable pub after : ℕ → List (List ℕ) → Held
after site [] = empty site
after site (b ∷ g) = effect (after site g) (patch_of b) (beside_of b)

pub after_site : (site : ℕ) (g : List (List ℕ)) → (after site g).site ≡ site
unfolding after effect
after_site site [] = refl
after_site site (b ∷ g) = after_site site g

-- one more patch: it was taken, and an own one was made here
pub record Step (site : ℕ) (g : List (List ℕ)) (b : List ℕ) : Type 0 where
  pub takes : Takes (after site g) (patch_of b) (beside_of b)
  pub own : (patch_of b).author ≡ site → Made (after site g) b

-- each was taken, and the own ones were made here
abbrev pub History : ℕ → List (List ℕ) → Type 0
History site [] = Unit {0}
History site (b ∷ g) = History site g × Step site g b

-- the count of a site
abbrev pub count_in : ℕ → List (List ℕ) → ℕ → ℕ
count_in site g a = count_of (after site g).counts a

module _ (site : ℕ) (least : 1 ≤ site) (most : site ≤ 16) where
  pub after_sound : (g : List (List ℕ)) → History site g → SoundHeld (after site g)
  unfolding after
  after_sound [] h = empty_sound site least most
  after_sound (b ∷ g) (h, step) = effect_sound (after site g) (patch_of b) (beside_of b) (after_sound g h) step.takes

  abbrev count : List (List ℕ) → ℕ → ℕ
  count g a = count_in site g a

  none_counted : (a : ℕ) → 1 ≤ a → a ≤ 16 → count [] a ≡ 0
  unfolding after
  none_counted a some few = get_or-replicate {A = ℕ} 16 (a - 1) 0 0 (omega arith)

  -- the count of the author is one more, that of any other site as it was
  count_own : (b : List ℕ) (g : List (List ℕ)) → History site (b ∷ g)
      → count (b ∷ g) (patch_of b).author ≡ suc (count g (patch_of b).author)
  unfolding after effect
  count_own b g (h, step) =
      let head = step.takes.patch.head in
      raised_own (after site g).counts (patch_of b).author (after_sound g h).size head.author_least head.author_most

  count_other : (b : List ℕ) (g : List (List ℕ)) → History site (b ∷ g) → (a : ℕ) → 1 ≤ a → (a ≡ (patch_of b).author → ⊥)
      → count (b ∷ g) a ≡ count g a
  unfolding after effect
  count_other b g (h, step) a some other =
      let head = step.takes.patch.head in
      raised_other (after site g).counts (patch_of b).author (after_sound g h).size head.author_least head.author_most
      (a - 1) (λ e. other (omega (arith, head.author_least)))

  -- counts only rise
  pub count_rises : (b : List ℕ) (g : List (List ℕ)) → History site (b ∷ g) → (a : ℕ) → 1 ≤ a → count g a ≤ count (b ∷ g) a
  count_rises b g h a some =
      by_cases (ℕ_discrete a (patch_of b).author)
      (λ own. rw own (omega (arith, count_own b g h)))
      (λ other. omega (arith, count_other b g h a some other))

  -- a patch received is counted
  pub counted : (g : List (List ℕ)) → History site g → (b : List ℕ) → Memᴰ b g → (a n : ℕ) → 1 ≤ a → Is a n b
      → (1 ≤ n) × (n ≤ count g a)
  counted [] h b in_g a n some is = absurd (Memᴰ.not-nil in_g)
  counted (c ∷ g) (h, step) b in_g a n some is =
      ⊎_elim
      (λ (e : b ≡ c).
      let author : (patch_of c).author ≡ a = rw (← e) is.0 in
      let number : (patch_of c).number ≡ n = rw (← e) is.1 in
      let risen : count (c ∷ g) a ≡ suc (count g a) = subst (λ (s : ℕ). count (c ∷ g) s ≡ suc (count g s)) author (count_own c g (h, step)) in
      let next : n ≡ suc (count g a) = sym number ∙ step.takes.next ∙ ap (λ (s : ℕ). suc (count g s)) author in
      (omega arith, omega arith))
      (λ (m : Memᴰ b g).
      let before = counted g h b m a n some is in
      (before.0, omega (arith, before.1, count_rises c g (h, step) a some)))
      (Memᴰ.cases_cons in_g)

  -- and what is counted was received
  pub received : (g : List (List ℕ)) → History site g → (a n : ℕ) → 1 ≤ a → a ≤ 16 → 1 ≤ n → n ≤ count g a
      → (b : List ℕ) × (Memᴰ b g × Is a n b)
  unfolding after
  received [] h a n some few first upto = absurd (omega (arith, none_counted a some few))
  received (c ∷ g) (h, step) a n some few first upto =
      by_cases (ℕ_discrete a (patch_of c).author)
      (λ own.
      let risen : count (c ∷ g) a ≡ suc (count g a) = subst (λ (s : ℕ). count (c ∷ g) s ≡ suc (count g s)) (sym own) (count_own c g (h, step)) in
      by_cases (ℕ_discrete n (suc (count g a)))
      (λ (new : n ≡ suc (count g a)).
      let number : (patch_of c).number ≡ n = step.takes.next ∙ ap (λ (s : ℕ). suc (count g s)) (sym own) ∙ sym new in
      (c, (Memᴰ.head refl, (sym own, number))))
      (λ (old : n ≡ suc (count g a) → ⊥). older (received g h a n some few first (omega arith))))
      (λ other. older (received g h a n some few first (omega (arith, count_other c g (h, step) a some other))))
    where
      older : (b : List ℕ) × (Memᴰ b g × Is a n b) → (b : List ℕ) × (Memᴰ b (c ∷ g) × Is a n b)
      older (b, (in_g, is)) = (b, (Memᴰ.tail in_g, is))

  -- a number of a site is one patch
  pub once : (g : List (List ℕ)) → History site g → (a n : ℕ) → 1 ≤ a → (b c : List ℕ) → Memᴰ b g → Memᴰ c g
      → Is a n b → Is a n c → b ≡ c
  once [] h a n some b c in_b in_c is_b is_c = absurd (Memᴰ.not-nil in_b)
  once (d ∷ g) (h, step) a n some b c in_b in_c is_b is_c =
      ⊎_elim
      (λ (e : b ≡ d). ⊎_elim (λ (f : c ≡ d). e ∙ sym f) (λ (m : Memᴰ c g). absurd (newer e is_b m is_c)) (Memᴰ.cases_cons in_c))
      (λ (k : Memᴰ b g).
      ⊎_elim (λ (f : c ≡ d). absurd (newer f is_c k is_b)) (λ (m : Memᴰ c g). once g h a n some b c k m is_b is_c) (Memᴰ.cases_cons in_c))
      (Memᴰ.cases_cons in_b)
    where
      -- the newest has a number that no older one has
      newer : {b c : List ℕ} → b ≡ d → Is a n b → Memᴰ c g → Is a n c → ⊥
      newer {b} {c} e is m is' =
          let author : (patch_of d).author ≡ a = ap (λ (l : List ℕ). (patch_of l).author) (sym e) ∙ is.0 in
          let number : (patch_of d).number ≡ n = ap (λ (l : List ℕ). (patch_of l).number) (sym e) ∙ is.1 in
          let next : n ≡ suc (count g a) = sym number ∙ step.takes.next ∙ ap (λ (s : ℕ). suc (count g s)) author in
          omega (arith, (counted g h c m a n some is').1)
