-- What a patch does keeps a replica sound. Said of what the replica holds; a sound record and table hold
-- just that, and are made again from it.
-- Assumes nothing.
use Prim.Native.Nat.{ℕ, suc, ◌≤◌, ◌<◌}
use native.Mathlib.Omega.{arith}
use mathlib.Core.Path.{◌≡◌, refl, ◌∙◌}
use mathlib.Core.Bool.{Bool, true, false, cond, true≢false}
use mathlib.Core.Option.{none, some}
use mathlib.Core.List.{List}
use lib.Dec.{eqb}
use lib.ListN.{length, take, get_or, length-take}
use Rattle.position.specs.Positions.{ids_of}
use Rattle.record.specs.declared.Replica.{Replica}
use Rattle.record.specs.Records.{count_of, CountsFit, SoundRecord}
use Rattle.script.specs.declared.table.Found.{Found}
use Rattle.script.specs.declared.table.Found.TheVariants.{Row, Gap}
use Rattle.script.specs.Lines.{Line, no_line}
use Rattle.script.specs.Sound.{SoundLine, Sound}
use Rattle.script.specs.Find.{find_in}
use Rattle.script.proofs.Finding.{Told, in_row, in_gap, told}
use Rattle.script.proofs.Held.{SoundLines, sound_lines, lines_sound, lines_back}
use Rattle.script.proofs.Kept.{lines_kept, gap_between, insert_kept, remove_kept}
use Rattle.format.specs.declared.Edit.{Edit}
use Rattle.format.specs.declared.Edit.TheVariants.{Insert, Delete}
use Rattle.format.specs.declared.Patch.{Patch}
use Rattle.format.specs.WellFormed.{EditAgrees, LineFits}
use Rattle.effect.specs.Held.{Held, held_in, record_holding, table_holding}
use Rattle.effect.specs.Effect.{raised, row_of, is_row, put, numbered, line_row, without, strike, edited, effect, inserts, Takes}
use Rattle.effect.proofs.Counted.{raised_length, raised_own, raised_risen, raised_fit}

-- What a sound replica holds.
pub record SoundHeld (h : Held) : Type 0 where
  pub site_least : 1 ≤ h.site
  pub site_most : h.site ≤ 16
  pub size : length h.counts ≡ 16
  pub counts : CountsFit h.counts
  pub lines : SoundLines h.counts h.lines

pub sound_held : (r : Replica) (table : List ℕ) → length r.counts ≡ 16 → Sound r table → SoundHeld (held_in r table)
sound_held r table size sound =
    record {
      site_least = sound.own.site_least;
      site_most = sound.own.site_most;
      size = size;
      counts = sound.own.counts;
      lines = sound_lines r table sound;
    }

module _ (h : Held) (sound : SoundHeld h) where
  pub held_sound : Sound (record_holding h) (table_holding h)
  held_sound =
      let own : SoundRecord (record_holding h) =
      record { site_least = sound.site_least; site_most = sound.site_most; rows = sound.lines.most; counts = sound.counts } in
      lines_sound (record_holding h) h.lines own refl sound.lines

  pub held_back : held_in (record_holding h) (table_holding h) ≡ h
  held_back = λ d. record { site = h.site; counts = h.counts; lines = lines_back h.counts h.lines sound.lines d }

-- no row has the position: it would stand in a gap
gap_found : (f : Found) → is_row f ≡ false → f ≡ Gap (row_of f)
gap_found (Row k) wrong = absurd (true≢false wrong)
gap_found (Gap k) e = refl

module _ (h : Held) (p : Patch) (text : List ℕ) (sound : SoundHeld h) (takes : Takes h p text) where
  abbrev next : List ℕ
  next = raised h.counts p.author

  author_least : 1 ≤ p.author
  author_least = takes.patch.head.author_least

  author_most : p.author ≤ 16
  author_most = takes.patch.head.author_most

  -- the lines as they were, under the counts as they are now
  before_edit : SoundLines next h.lines
  before_edit =
      lines_kept h.counts next h.lines
      (raised_risen h.counts p.author sound.size author_least author_most) sound.lines

  -- the line of an insert is sound under the new counts
  new_line : (n : ℕ) → LineFits (Insert n) text → EditAgrees p (Insert n)
      → SoundLine next (record { position = ids_of p.place; number = p.number; text = take n text })
  new_line n line agrees =
      record {
        position = takes.patch.place;
        number_least = takes.patch.head.numbered.0;
        number_most = takes.patch.head.numbered.1;
        text = omega (arith, length-take n text, line.0);
        counted =
            let own : count_of next p.author ≡ suc (count_of h.counts p.author) =
            raised_own h.counts p.author sound.size author_least author_most in
            rw agrees (omega (arith, own, takes.next));
      }

  struck_kept : (n : ℕ) (f : Found) → Told (ids_of p.place) h.lines f
      → SoundLines next (without (numbered n h.lines f) h.lines)
  struck_kept n f (in_gap k _ _ _) = before_edit
  struck_kept n f (in_row k inside _ _) = by (eqb (get_or h.lines k no_line).number n)
    where
      by : (b : Bool) → SoundLines next (without (cond b (some k) none) h.lines)
      by true = remove_kept next h.lines before_edit k inside
      by false = before_edit

  edit_kept : (e : Edit) → LineFits e text → EditAgrees p e
      → (inserts e ≡ true → is_row (find_in (ids_of p.place) h.lines) ≡ false) → (inserts e ≡ true → length h.lines < 512)
      → SoundLines next (edited p e text h.lines)
  unfolding edited put strike line_row
  edit_kept (Insert n) line agrees free room =
      let place = ids_of p.place in
      let l : Line = record { position = place; number = p.number; text = take n text } in
      let gap = gap_found (find_in place h.lines) (free refl) in
      insert_kept next h.lines before_edit (row_of (find_in place h.lines)) l (room refl) (new_line n line agrees)
      (gap_between h.lines (row_of (find_in place h.lines)) l gap)
  edit_kept (Delete n) line agrees free room =
      struck_kept n (find_in (ids_of p.place) h.lines) (told (ids_of p.place) h.lines)

  pub effect_sound : SoundHeld (effect h p text)
  unfolding effect
  effect_sound =
      record {
        site_least = sound.site_least;
        site_most = sound.site_most;
        size = raised_length h.counts p.author ∙ sound.size;
        counts =
            let below : count_of h.counts p.author < 1000000 = omega (arith, takes.next, takes.patch.head.numbered.1) in
            raised_fit h.counts p.author sound.size author_least author_most sound.counts below;
        lines = edit_kept p.edit takes.patch.line takes.patch.edit takes.free takes.room;
      }
