-- Condition 3 and its two facts, of every exercise.
-- Assumes nothing.
use Prim.Native.Nat.{ℕ, ◌+◌, ◌≤◌}
use mathlib.Core.Path.{◌≡◌, sym, ap, ◌∙◌, subst}
use mathlib.Core.Logic.{◌↔◌, ⊎_elim}
use mathlib.Core.List.{List, Memᴰ}
use lib.ListN.{length}
use Rattle.record.specs.Records.{record_size, count_of, CountsFit}
use Rattle.script.specs.Lines.{Line, encode_table}
use Rattle.effect.specs.Held.{Held}
use Rattle.effect.proofs.Keeps.{SoundHeld}
use Rattle.exercise.specs.World.{Host, World, begin, Site, Call, run}
use Rattle.exercise.specs.Scripts.{patch_of, Script}
use Rattle.exercise.specs.Tally.{struck_in, inserts_in}
use Rattle.exercise.specs.Condition3.{counts_at, lines_at, Has, Counted, Named, Condition3}
use Rattle.exercise.proofs.Tied.{state_size, held_read}
use Rattle.exercise.proofs.Equal.{equal_lines}
use Rattle.exercise.proofs.History.{after, after_sound, counted, received}
use Rattle.exercise.proofs.Holds.{script}
use Rattle.exercise.proofs.Tallied.{tally}
use Rattle.exercise.proofs.Exercised.{Fair, begin_fair, run_fair}
use Rattle.exercise.proofs.Shared.{one_patch, has, is_counted}
use Rattle.exercise.proofs.Unrefused.{never_unsound, never_malformed, never_own_ahead, never_taken}
use Rattle.exercise.proofs.Aims.{all_aimed}
use Rattle.exercise.proofs.Progressed.{progress}
use Rattle.exercise.proofs.Naming.{names}

module _ (w : World) (fair : Fair w) where
  module _ (s : Site) where
    abbrev h : Host
    h = w.host s.number

    abbrev held : Held
    held = after s.number h.received

    sound : SoundHeld held
    sound = after_sound s.number s.least s.most h.received (fair.kept s).history

    -- record and table have the lines and the counts of what was received
    lines_there : held.lines ≡ lines_at h
    lines_there = ap (λ (k : Held). k.lines) (sym (held_read held sound h.state h.table (fair.kept s).holds))

    counts_there : held.counts ≡ counts_at h
    counts_there = ap (λ (k : Held). k.counts) (sym (held_read held sound h.state h.table (fair.kept s).holds))

    its_script : Script h.received (lines_at h)
    its_script = subst (Script h.received) lines_there (script s.number s.least s.most h.received (fair.kept s).history)

    its_counts : Counted h
    its_counts a n =
        subst (λ (counts : List ℕ). Has h a.number n ↔ ((1 ≤ n) × (n ≤ count_of counts a.number))) counts_there (
          (λ told.
              counted s.number s.least s.most h.received (fair.kept s).history
              told.0 told.1.0 a.number n a.least told.1.1),
          (λ range.
              received s.number s.least s.most h.received (fair.kept s).history
              a.number n a.least a.most range.0 range.1),
        )

  -- a patch that one host has, another with the same counts has too
  same_received : (s t : Site) → counts_at (h s) ≡ counts_at (h t) → (b : List ℕ) → Memᴰ b (h s).received → Memᴰ b (h t).received
  same_received s t equal b m =
      let counts : (held s).counts ≡ (held t).counts = counts_there s ∙ equal ∙ sym (counts_there t) in
      let own = is_counted w fair s b m in
      has w fair t b ((fair.kept s).from b m) (subst (λ (l : List ℕ). (patch_of b).number ≤ count_of l (patch_of b).author) counts own.1) own.0

  -- and so the same lines
  same_lines : (s t : Site) → counts_at (h s) ≡ counts_at (h t) → (l : Line) → Memᴰ l (held s).lines → Memᴰ l (held t).lines
  same_lines s t equal l m =
      let told = ((script s.number s.least s.most (h s).received (fair.kept s).history).lines_are l).0 m in
      ((script t.number t.least t.most (h t).received (fair.kept t).history).lines_are l).1 (
        (told.0.0, (same_received s t equal told.0.0 told.0.1.0, told.0.1.1)),
        λ c k strikes. told.1 c (same_received t s (sym equal) c k) strikes,
      )

  equal_tables : (s t : Site) → counts_at (h s) ≡ counts_at (h t) → (h s).table ≡ (h t).table
  equal_tables s t equal =
      let lines : (held s).lines ≡ (held t).lines =
      equal_lines (held s).lines (held t).lines (sound s).lines.rising (sound t).lines.rising (same_lines s t equal) (same_lines t s (sym equal)) in
      (fair.kept s).holds.table_is ∙ ap encode_table lines ∙ sym (fair.kept t).holds.table_is

  its_names : (s t : Site) → Named (h s) (h t)
  its_names s t =
      names (h s) (h t) (size s) (size t) (long s) (long t)
      (subst CountsFit (counts_there s) (sound s).counts) (subst CountsFit (counts_there t) (sound t).counts) (its_counts s) (its_counts t)
    where
      size : (s : Site) → length (h s).state ≡ record_size
      size s = state_size (held s) (sound s) (h s).state (h s).table (fair.kept s).holds

      long : (s : Site) → length (counts_at (h s)) ≡ 16
      long s = subst (λ (counts : List ℕ). length counts ≡ 16) (counts_there s) (sound s).size

  pub fair_condition : Condition3 w
  fair_condition =
      record {
        made = λ s. (fair.kept s).from;
        one_patch = λ a n b c in_b in_c is_b is_c. one_patch w fair b c in_b in_c a n is_b is_c;
        script = its_script;
        counted = its_counts;
        together = equal_tables;
        named = its_names;
        tally = λ s.
            subst (λ (lines : List Line). length lines + length (struck_in (h s).received) ≡ inserts_in (h s).received) (lines_there s)
            (tally s.number s.least s.most (h s).received (fair.kept s).history (all_aimed w fair s));
        progress = λ a b. progress w fair a b;
        never = λ s b m.
            ⊎_elim (never_unsound w fair s b m)
            (⊎_elim (never_malformed w fair s b m) (⊎_elim (never_own_ahead w fair s b m) (never_taken w fair s b m)));
      }

-- After any calls, whatever they were answered.
pub condition_3 : (calls : List Call) → Condition3 (run begin calls)
condition_3 calls = fair_condition (run begin calls) (run_fair begin begin_fair calls)
