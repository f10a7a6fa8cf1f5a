-- Answers that never come for a patch made in the exercise: 1, 2, 3 and 6. For 6: an older insert at the same place
-- is of the same author, who had it struck before, and whoever takes the newer patch has that delete.
-- Assumes nothing.
use Prim.Native.Nat.{ℕ, ◌-◌, ◌≤◌, ◌<◌}
use native.Mathlib.Omega.{arith}
use mathlib.Core.Path.{◌≡◌, refl, sym, ap, ◌∙◌, subst}
use mathlib.Core.Bool.{Bool, true, false, true≢false}
use mathlib.Core.Logic.{⊎_elim}
use mathlib.Core.List.{List, Memᴰ}
use lib.ListN.{get_or}
use Rattle.position.specs.declared.Identifier.{Identifier}
use Rattle.position.specs.Positions.{ids_of, author_of}
use Rattle.position.specs.Order.{order_of}
use Rattle.std.specs.declared.cmp.Ordering.TheVariants.{Equal}
use Rattle.position.proofs.Ordered.{is_same}
use Rattle.record.specs.Records.{count_of}
use Rattle.script.specs.declared.table.Found.{Found}
use Rattle.script.specs.Lines.{Line, no_line}
use Rattle.script.specs.Find.{find_in}
use Rattle.script.proofs.Finding.{place_at, Told, in_row, in_gap, told, found_same}
use Rattle.format.specs.declared.Edit.{Edit}
use Rattle.format.specs.declared.Edit.TheVariants.{Insert, Delete}
use Rattle.format.specs.declared.Patch.{Patch}
use Rattle.format.specs.WellFormed.{EditAgrees}
use Rattle.effect.specs.Effect.{is_row, inserts, Covers}
use Rattle.effect.specs.Held.{Held}
use Rattle.effect.proofs.Keeps.{SoundHeld}
use Rattle.host.specs.Calls.{receive_bytes}
use Rattle.exercise.specs.World.{Host, World, Site}
use Rattle.exercise.specs.Scripts.{patch_of, beside_of, InsertOf, Strikes, InsertedIn, UnstruckIn}
use Rattle.exercise.proofs.Members.{mem_at, at_mem}
use Rattle.exercise.proofs.Equal.{Rises}
use Rattle.exercise.proofs.Tied.{Holding}
use Rattle.exercise.proofs.Answered.{never_1, never_2, never_3, never_6}
use Rattle.exercise.proofs.History.{after, after_site, History, count_in, after_sound, counted, received}
use Rattle.exercise.proofs.Holds.{script}
use Rattle.exercise.proofs.Strikers.{striker}
use Rattle.exercise.proofs.Exercised.{Fair}
use Rattle.exercise.proofs.Shared.{When, when, maker, one_patch, has, is_counted}

module _ (p : List Identifier) (lines : List Line) where
  -- a row has the position: here is its line
  pub row_has : is_row (find_in p lines) ≡ true → (l : Line) × (Memᴰ l lines × (l.position ≡ p))
  row_has = by (find_in p lines) (told p lines)
    where
      by : (f : Found) → Told p lines f → is_row f ≡ true → (l : Line) × (Memᴰ l lines × (l.position ≡ p))
      by f (in_row k inside under is) e = (get_or lines k no_line, (mem_at no_line lines k inside, is))
      by f (in_gap k inside under over) e = absurd (true≢false (sym e))

  -- no row has it: no line does
  pub no_row : Rises lines → is_row (find_in p lines) ≡ false → (l : Line) → Memᴰ l lines → l.position ≡ p → ⊥
  no_row rises none l m is =
      let at = at_mem no_line l lines m in
      let same : order_of (place_at lines at.0) p ≡ Equal =
      subst (λ (q : List Identifier). order_of q p ≡ Equal) (sym (ap (λ (k : Line). k.position) at.1.1 ∙ is)) (is_same p) in
      true≢false (sym (ap is_row (found_same lines rises p at.0 at.1.0 same)) ∙ none)

-- an insert's line is of its author and has its number
pub inserted_by : (p : Patch) (text : List ℕ) (e : Edit) → EditAgrees p e → (l : Line) → InsertOf p text e l
    → (author_of l.position ≡ p.author) × (l.number ≡ p.number)
inserted_by p text (Insert n) agrees l is = (ap (λ (k : Line). author_of k.position) is ∙ agrees, ap (λ (k : Line). k.number) is)
inserted_by p text (Delete n) agrees l is = absurd is

-- an insert's place ends in its author
ends_in : (p : Patch) (e : Edit) → EditAgrees p e → inserts e ≡ true → author_of (ids_of p.place) ≡ p.author
ends_in p (Insert n) agrees is = agrees
ends_in p (Delete n) agrees is = absurd (true≢false (sym is))

module _ (w : World) (fair : Fair w) where
  abbrev got : Site → List (List ℕ)
  got s = (w.host s.number).received

  abbrev past : (s : Site) → History s.number (got s)
  past s = (fair.kept s).history

  -- when a patch was made
  pub made_when : (b : List ℕ) (m : Memᴰ b w.made) → When (patch_of b).author (got (maker w fair b m)) b
  made_when b m = when (patch_of b).author (got (maker w fair b m)) (past (maker w fair b m)) b (fair.authored b m).received

  module _ (s : Site) (b : List ℕ) (m : Memᴰ b w.made) (insert : inserts (patch_of b).edit ≡ true)
      (above : count_in s.number (got s) (patch_of b).author < (patch_of b).number)
      (covers : Covers (after s.number (got s)).counts (patch_of b).before) where
    abbrev a : ℕ
    a = (patch_of b).author

    abbrev maker_site : Site
    maker_site = maker w fair b m

    abbrev then : When a (got maker_site) b
    then = made_when b m

    -- a line at the same place that the host holds
    module _ (l : Line) (in_lines : Memᴰ l (after s.number (got s)).lines) (same : l.position ≡ ids_of (patch_of b).place) where
      abbrev inserted : InsertedIn (got s) l
      inserted = (((script s.number s.least s.most (got s) (past s)).lines_are l).0 in_lines).0

      abbrev unstruck : UnstruckIn (got s) l
      unstruck = (((script s.number s.least s.most (got s) (past s)).lines_are l).0 in_lines).1

      abbrev c : List ℕ
      c = inserted.0

      in_s : Memᴰ c (got s)
      in_s = inserted.1.0

      c_made : Memᴰ c w.made
      c_made = (fair.kept s).from c in_s

      -- its insert is of the same author
      told_c : (author_of l.position ≡ (patch_of c).author) × (l.number ≡ (patch_of c).number)
      told_c =
          let step = (when s.number (got s) (past s) c in_s).step in
          inserted_by (patch_of c) (beside_of c) (patch_of c).edit step.takes.patch.edit l inserted.1.1

      same_author : (patch_of c).author ≡ a
      same_author =
          sym told_c.0 ∙ ap author_of same ∙ ends_in (patch_of b) (patch_of b).edit then.step.takes.patch.edit insert

      -- and older, so its author had it when making the newer one
      c_before : Memᴰ c then.before
      c_before =
          let counts = is_counted w fair s c in_s in
          let older : (patch_of c).number ≤ count_in a then.before a =
          omega (arith, subst (λ (x : ℕ). (patch_of c).number ≤ count_in s.number (got s) x) same_author counts.1, above, then.step.takes.next) in
          let found = received a maker_site.least maker_site.most then.before then.history a (patch_of c).number
          maker_site.least maker_site.most counts.0 older in
          let d = found.0 in
          let d-made = (fair.kept maker_site).from d (then.earlier d found.1.0) in
          subst (λ (x : List ℕ). Memᴰ x then.before)
          (one_patch w fair d c d-made c_made a (patch_of c).number found.1.1 (same_author, refl)) found.1.0

      -- but no longer held its line: it had been struck, by a delete that the newer patch knew of
      pub never_held : ⊥
      never_held =
          let Lines-then = script a maker_site.least maker_site.most then.before then.history in
          let sound-then = after_sound a maker_site.least maker_site.most then.before then.history in
          let gone : Memᴰ l (after a then.before).lines → ⊥ =
          λ k. no_row (ids_of (patch_of b).place) (after a then.before).lines sound-then.lines.rising (then.step.takes.free insert) l k same in
          ⊎_elim
          (λ (spared : UnstruckIn then.before l).
          gone ((Lines-then.lines_are l).1 ((c, (c_before, inserted.1.1)), spared)))
          (λ (struck : (q : List ℕ) × (Memᴰ q then.before × Strikes q l)).
          unstruck struck.0 (has_it struck.0 struck.1.0) struck.1.1)
          (striker then.before l)
        where
          has_it : (q : List ℕ) → Memᴰ q then.before → Memᴰ q (got s)
          has_it q k =
              let q-made = (fair.kept maker_site).from q (then.earlier q k) in
              let of = fair.authored q q-made in
              let counts =
              counted a maker_site.least maker_site.most then.before then.history q k
              (patch_of q).author (patch_of q).number of.least (refl, refl) in
              let knew : (patch_of b).before ≡ (after a then.before).counts = (then.step.own refl).before in
              let covered = covers ((patch_of q).author - 1) (omega (arith, of.least, of.most)) in
              let known : (patch_of q).number ≤ get_or (patch_of b).before ((patch_of q).author - 1) 0 =
              subst (λ (counts : List ℕ). (patch_of q).number ≤ get_or counts ((patch_of q).author - 1) 0) (sym knew) counts.1 in
              has w fair s q q-made (omega (arith, covered, known)) counts.0

    -- so its place is free
    pub place_free : is_row (find_in (ids_of (patch_of b).place) (after s.number (got s)).lines) ≡ false
    place_free = by (is_row (find_in (ids_of (patch_of b).place) lines)) refl
      where
        lines : List Line
        lines = (after s.number (got s)).lines

        by : (x : Bool) → is_row (find_in (ids_of (patch_of b).place) lines) ≡ x → x ≡ false
        by false e = refl
        by true e = let row = row_has (ids_of (patch_of b).place) lines e in absurd (never_held row.0 row.1.0 row.1.1)

  -- What is answered to a patch made.
  module _ (s : Site) (b : List ℕ) (m : Memᴰ b w.made) where
    abbrev h : Host
    h = w.host s.number

    abbrev held : Held
    held = after s.number h.received

    abbrev answer : ℕ
    answer = (receive_bytes h.state h.table b).answer

    sound : SoundHeld held
    sound = after_sound s.number s.least s.most h.received (past s)

    abbrev holds : Holding held h.state h.table
    holds = (fair.kept s).holds

    abbrev then_made : When (patch_of b).author (got (maker w fair b m)) b
    then_made = made_when b m

    pub never_unsound : answer ≡ 1 → ⊥
    never_unsound = never_1 held sound h.state h.table holds b

    pub never_malformed : answer ≡ 2 → ⊥
    never_malformed =
        never_2 held sound h.state h.table holds b then_made.step.takes.patch (then_made.step.own refl).written

    pub never_own_ahead : answer ≡ 3 → ⊥
    never_own_ahead =
        never_3 held sound h.state h.table holds b
        (λ own.
        let is : (patch_of b).author ≡ s.number = own ∙ after_site s.number h.received in
        let mine : Memᴰ b h.received = subst (λ (x : ℕ). Memᴰ b (w.host x).received) is (fair.authored b m).received in
        subst (λ (x : ℕ). (patch_of b).number ≤ count_of held.counts x) own (is_counted w fair s b mine).1)

    pub never_taken : answer ≡ 6 → ⊥
    never_taken =
        never_6 held sound h.state h.table holds b (λ above covers insert. place_free s b m insert above covers)
