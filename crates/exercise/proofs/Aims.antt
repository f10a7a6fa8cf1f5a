-- Every delete that a host has received means a line whose insert it had received before.
-- Assumes nothing.
use Prim.Native.Nat.{ℕ, ◌-◌, ◌≤◌}
use native.Mathlib.Omega.{arith}
use mathlib.Core.Path.{◌≡◌, refl, sym, ap, ◌∙◌, subst}
use mathlib.Core.List.{List, [], ◌∷◌, Memᴰ}
use Rattle.position.specs.Positions.{ids_of, author_of}
use Rattle.format.specs.declared.Edit.{Edit}
use Rattle.format.specs.declared.Edit.TheVariants.{Insert, Delete}
use Rattle.format.specs.WellFormed.{EditAgrees}
use Rattle.effect.specs.Effect.{done_answer}
use Rattle.exercise.specs.World.{World, Site}
use Rattle.exercise.specs.Scripts.{patch_of, beside_of}
use Rattle.exercise.proofs.Struck.{strike_tells}
use Rattle.exercise.proofs.History.{after, History, Step, after_sound, received}
use Rattle.exercise.proofs.Holds.{script, author_most}
use Rattle.exercise.proofs.Tallied.{AimOf, Aimed}
use Rattle.exercise.proofs.Exercised.{Fair}
use Rattle.exercise.proofs.Shared.{When, when, maker, one_patch}
use Rattle.exercise.proofs.Unrefused.{made_when, inserted_by}

module _ (w : World) (fair : Fair w) (s : Site) where
  abbrev got : List (List ℕ)
  got = (w.host s.number).received

  module _ (b : List ℕ) (g : List (List ℕ)) (h : History s.number g) (step : Step s.number g b)
      (made : Memᴰ b w.made) (older : (c : List ℕ) → Memᴰ c g → Memᴰ c w.made) where
    abbrev then : When (patch_of b).author (w.host (patch_of b).author).received b
    then = made_when w fair b made

    -- told by the edit: its author held the line that a delete means
    aim : (e : Edit) → EditAgrees (patch_of b) e → done_answer (patch_of b) e (after (patch_of b).author then.before).lines ≡ 0
        → AimOf (patch_of b) g e
    unfolding done_answer
    aim (Insert n) agrees there = tt
    aim (Delete n) agrees there =
        let a = maker w fair b made in
        let place = ids_of (patch_of b).place in
        let sound = after_sound a.number a.least a.most then.before then.history in
        let tells = strike_tells (after a.number then.before).lines sound.lines.rising place n in
        let line = tells.there there in
        let l = line.0 in
        let inserted = (((script a.number a.least a.most then.before then.history).lines_are l).0 line.1.0).0 in
        let c = inserted.0 in
        let c_made = (fair.kept a).from c (then.earlier c inserted.1.0) in
        let c-step = (when a.number then.before then.history c inserted.1.0).step in
        let told = inserted_by (patch_of c) (beside_of c) (patch_of c).edit c-step.takes.patch.edit l inserted.1.1 in
        let of = author_of place in
        let author : (patch_of c).author ≡ of = sym told.0 ∙ ap author_of (sym line.1.1.0) in
        let number : (patch_of c).number ≡ n = sym told.1 ∙ sym line.1.1.1 in
        let least : 1 ≤ n = subst (λ (x : ℕ). 1 ≤ x) number c-step.takes.patch.head.numbered.0 in
        let few : of ≤ 16 = author_most place step.takes.patch.place in
        let covered = step.takes.before (of - 1) (omega (arith, agrees.0)) in
        let found = received s.number s.least s.most g h of n agrees.0 few least (omega (arith, agrees.1, covered)) in
        let d = found.0 in
        let same : d ≡ c = one_patch w fair d c (older d found.1.0) c_made of n found.1.1 (author, number) in
        (l, (line.1.1, (c, (subst (λ (x : List ℕ). Memᴰ x g) same found.1.0, inserted.1.1))))

  aims : (g : List (List ℕ)) → History s.number g → ((c : List ℕ) → Memᴰ c g → Memᴰ c w.made) → Aimed g
  aims [] h made = tt
  aims (b ∷ g) (h, step) made =
      let b-made = made b (Memᴰ.head refl) in
      let older : (c : List ℕ) → Memᴰ c g → Memᴰ c w.made = λ c m. made c (Memᴰ.tail m) in (
        aims g h older,
        aim b g h step b-made older (patch_of b).edit step.takes.patch.edit ((made_when w fair b b-made).step.own refl).aims,
      )

  pub all_aimed : Aimed got
  all_aimed = aims got (fair.kept s).history (fair.kept s).from
