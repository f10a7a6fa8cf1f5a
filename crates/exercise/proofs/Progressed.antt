-- A host that lacks patches of another takes one of them, unless it has no room: the oldest that it lacks is not
-- early.
-- Assumes nothing.
use Prim.Native.Nat.{ℕ, suc, ◌-◌, ◌≤◌, ◌<◌}
use native.Mathlib.Decide.{ℕ_discrete, dec_le}
use native.Mathlib.Omega.{arith}
use mathlib.Core.Path.{◌≡◌, refl, sym, ap, ◌∙◌, subst}
use mathlib.Core.Logic.{◌⊎◌, inl, inr, ⊎_elim, by_cases}
use mathlib.Core.List.{List, [], ◌∷◌, Memᴰ}
use lib.ListN.{get_or}
use Rattle.effect.specs.Held.{Held}
use Rattle.effect.specs.Effect.{Covers}
use Rattle.effect.proofs.Keeps.{SoundHeld}
use Rattle.host.specs.Calls.{Called, receive_bytes}
use Rattle.exercise.specs.World.{Host, World, Site}
use Rattle.exercise.specs.Scripts.{patch_of}
use Rattle.exercise.specs.Offered.{answers}
use Rattle.exercise.specs.Condition3.{Moves}
use Rattle.exercise.proofs.Received.{receive_stays}
use Rattle.exercise.proofs.Answered.{refused_because}
use Rattle.exercise.proofs.History.{after, History, Step, count_in, after_sound, received}
use Rattle.exercise.proofs.Exercised.{Fair}
use Rattle.exercise.proofs.Shared.{has, is_counted}
use Rattle.exercise.proofs.Unrefused.{never_unsound, never_malformed, never_own_ahead, never_taken}

moves? : (n : ℕ) → Moves n ⊎ (Moves n → ⊥)
moves? n =
    by_cases (ℕ_discrete n 0) (λ e. inl (inl e))
    (λ not-0.
    by_cases (ℕ_discrete n 15) (λ e. inl (inr (inl e)))
    (λ not-15.
    by_cases (ℕ_discrete n 7) (λ e. inl (inr (inr e)))
    (λ not-7. inr (⊎_elim not-0 (⊎_elim not-15 not-7)))))

-- a number that is none of 1 to 7 is not from 1 to 7
up : (n k : ℕ) → k ≤ n → (n ≡ k → ⊥) → suc k ≤ n
up n k from other = omega (arith, other)

past_seven : (n : ℕ) → 8 ≤ n → n ≤ 7 → ⊥
past_seven n over most = omega arith

none_of : (n : ℕ) → 1 ≤ n → n ≤ 7 → (n ≡ 1 → ⊥) → (n ≡ 2 → ⊥) → (n ≡ 3 → ⊥) → (n ≡ 4 → ⊥) → (n ≡ 5 → ⊥) → (n ≡ 6 → ⊥)
    → (n ≡ 7 → ⊥) → ⊥
none_of n least most a b c d e f g =
    past_seven n (up n 7 (up n 6 (up n 5 (up n 4 (up n 3 (up n 2 (up n 1 least a) b) c) d) e) f) g) most

module _ (w : World) (fair : Fair w) (a b : Site) where
  abbrev of_a : List (List ℕ)
  of_a = (w.host a.number).received

  abbrev of_b : List (List ℕ)
  of_b = (w.host b.number).received

  abbrev count_b : ℕ → ℕ
  count_b x = count_in b.number of_b x

  -- a patch that b lacks, where b has all that a had before it
  record Oldest : Type 0 where
    patch : List ℕ
    before : List (List ℕ)
    history : History a.number before
    step : Step a.number before patch
    in_a : Memᴰ patch of_a
    has_all : (c : List ℕ) → Memᴰ c before → Memᴰ c of_b
    lacks : count_b (patch_of patch).author < (patch_of patch).number

  -- of what a has received, b has all, or lacks an oldest one
  oldest : (g : List (List ℕ)) → History a.number g → ((c : List ℕ) → Memᴰ c g → Memᴰ c of_a)
      → ((c : List ℕ) → Memᴰ c g → Memᴰ c of_b) ⊎ Oldest
  oldest [] h in_a = inl (λ c m. absurd (mathlib.Core.List.Memᴰ.not-nil m))
  oldest (p ∷ g) (h, step) in_a =
      let p-in-a = in_a p (mathlib.Core.List.Memᴰ.head refl) in
      let p-made = (fair.kept a).from p p-in-a in
      ⊎_elim
      (λ (all : (c : List ℕ) → Memᴰ c g → Memᴰ c of_b).
      by_cases (dec_le (patch_of p).number (count_b (patch_of p).author))
      (λ upto.
      inl (λ c m.
      ⊎_elim
      (λ (e : c ≡ p). subst (λ (x : List ℕ). Memᴰ x of_b) (sym e) (has w fair b p p-made upto (is_counted w fair a p p-in-a).0))
      (λ (k : Memᴰ c g). all c k) (mathlib.Core.List.Memᴰ.cases_cons m)))
      (λ above.
      inr (record { patch = p; before = g; history = h; step = step; in_a = p-in-a; has_all = all; lacks = omega (arith, above) })))
      (λ found. inr found)
      (oldest g h (λ c m. in_a c (mathlib.Core.List.Memᴰ.tail m)))

  abbrev h : Host
  h = w.host b.number

  abbrev held : Held
  held = after b.number of_b

  sound : SoundHeld held
  sound = after_sound b.number b.least b.most of_b (fair.kept b).history

  -- b covers what the patch knew
  covered : (o : Oldest) → Covers held.counts (patch_of o.patch).before
  covered o i less =
      by_cases (ℕ_discrete (get_or (patch_of o.patch).before i 0) 0)
      (λ none. omega (arith, none))
      (λ some.
      let n = get_or (patch_of o.patch).before i 0 in
      let here : (counts : List ℕ) → get_or counts (suc i - 1) 0 ≡ get_or counts i 0 =
      λ counts. ap (λ (k : ℕ). get_or counts k 0) (omega arith) in
      let upto : n ≤ count_in a.number o.before (suc i) = omega (arith, o.step.takes.before i less, here (after a.number o.before).counts) in
      let found = received a.number a.least a.most o.before o.history (suc i) n (omega arith) (omega arith) (omega (arith, some)) upto in
      let c = found.0 in
      let counts : (patch_of c).number ≤ count_b (suc i) =
      subst (λ (x : ℕ). (patch_of c).number ≤ count_b x) found.1.1.0 (is_counted w fair b c (o.has_all c found.1.0)).1 in
      omega (arith, counts, found.1.1.1, here held.counts))

  -- so it is taken, or there is no room
  oldest_moves : (o : Oldest) → Moves (receive_bytes h.state h.table o.patch).answer
  oldest_moves o =
      let p = o.patch in
      let n = (receive_bytes h.state h.table p).answer in
      let made = (fair.kept a).from p o.in_a in
      let grounds = refused_because held sound h.state h.table (fair.kept b).holds p in
      ⊎_elim (λ moves. moves)
      (λ (stuck : Moves n → ⊥).
      let range = grounds.numbers (λ e. stuck (inl e)) (λ e. stuck (inr (inl e))) in
      absurd (none_of n range.0 range.1 (never_unsound w fair b p made) (never_malformed w fair b p made) (never_own_ahead w fair b p made)
      (λ e. omega (arith, grounds.had e, o.lacks)) (λ e. grounds.early e (covered o)) (never_taken w fair b p made) (λ e. stuck (inr (inr e)))))
      (moves? n)

  -- refused ones change nothing, so it does not matter what was offered before
  some_moves : (p : List ℕ) → Moves (receive_bytes h.state h.table p).answer → (offered : List (List ℕ)) → Memᴰ p offered
      → (state table : List ℕ) → state ≡ h.state → table ≡ h.table
      → (n : ℕ) × (Memᴰ n (answers state table offered) × Moves n)
  unfolding answers
  some_moves p moves [] m state table e f = absurd (mathlib.Core.List.Memᴰ.not-nil m)
  some_moves p moves (o ∷ offered) m state table e f =
      let c = receive_bytes state table o in
      ⊎_elim
      (λ (now : Moves c.answer). (c.answer, (mathlib.Core.List.Memᴰ.head refl, now)))
      (λ (stuck : Moves c.answer → ⊥).
      let here : receive_bytes state table o ≡ receive_bytes h.state h.table o = λ d. receive_bytes (e d) (f d) o in
      let same : (c.state ≡ h.state) × (c.table ≡ h.table) =
      rw here (receive_stays held sound h.state h.table (fair.kept b).holds o
      (λ x. stuck (inl (ap (λ (k : Called). k.answer) here ∙ x))) (λ x. stuck (inr (inl (ap (λ (k : Called). k.answer) here ∙ x))))) in
      let later : Memᴰ p offered =
      ⊎_elim
      (λ (is : p ≡ o). absurd (stuck (rw here (subst (λ (x : List ℕ). Moves (receive_bytes h.state h.table x).answer) is moves))))
      (λ k. k) (mathlib.Core.List.Memᴰ.cases_cons m) in
      let rest = some_moves p moves offered later c.state c.table same.0 same.1 in
      (rest.0, (mathlib.Core.List.Memᴰ.tail rest.1.0, rest.1.1)))
      (moves? c.answer)

  pub progress : (p : List ℕ) → Memᴰ p of_a → (Memᴰ p of_b → ⊥) → (offered : List (List ℕ))
      → ((c : List ℕ) → Memᴰ c of_a → (Memᴰ c of_b → ⊥) → Memᴰ c offered)
      → (n : ℕ) × (Memᴰ n (answers h.state h.table offered) × Moves n)
  progress p in_a lacked offered all =
      ⊎_elim
      (λ (has_all : (c : List ℕ) → Memᴰ c of_a → Memᴰ c of_b). absurd (lacked (has_all p in_a)))
      (λ (o : Oldest).
      let missing : Memᴰ o.patch of_b → ⊥ = λ m. omega (arith, (is_counted w fair b o.patch m).1, o.lacks) in
      some_moves o.patch (oldest_moves o) offered (all o.patch o.in_a missing) h.state h.table refl refl)
      (oldest of_a (fair.kept a).history (λ c m. m))
