-- What keeps lines and tables sound: counts that rise, a line put in between its neighbours, a line
-- taken out.
-- Assumes nothing.
use Prim.Native.Nat.{ℕ, suc, ◌+◌, ◌-◌, ◌*◌, ◌≤◌, ◌<◌}
use native.Mathlib.Nat.{le_trans}
use native.Mathlib.Omega.{arith}
use mathlib.Core.Path.{◌≡◌, subst}
use mathlib.Core.List.{List}
use lib.ListN.{length, get_or}
use Rattle.position.specs.Positions.{author_of}
use Rattle.position.specs.Order.{◌≺◌}
use Rattle.position.proofs.Ordered.{transitive}
use Rattle.rows.specs.Rows.{insert_at, remove_at, put_in, take_out, within}
use Rattle.rows.proofs.Digits.{Bytes}
use Rattle.rows.proofs.Moved.{insert_length, remove_length, put_in_lem, take_out_lem}
use Rattle.rows.proofs.Rising.{insert_each, insert_rising, remove_each, remove_rising}
use Rattle.record.specs.declared.Replica.{Replica}
use Rattle.script.specs.declared.table.Found.TheVariants.{Gap}
use Rattle.script.specs.Lines.{table_size, row_size, Line, no_line, encode_row, encode_table, decode_table}
use Rattle.script.specs.Find.{find_in}
use Rattle.script.specs.Sound.{SoundLine, Sound}
use Rattle.script.proofs.Encoded.{row_length}
use Rattle.script.proofs.Tables.{lines_length, sound_encoded}
use Rattle.script.proofs.Finding.{Told, in_gap, told}
use Rattle.script.proofs.Held.{SoundLines}

-- Counts that are at least as high as before.

abbrev pub Risen : List ℕ → List ℕ → Type 0
Risen counts next = (i : ℕ) → get_or counts i 0 ≤ get_or next i 0

pub line_kept : (counts next : List ℕ) (l : Line) → Risen counts next → SoundLine counts l → SoundLine next l
line_kept counts next l up sound =
    record {
      position = sound.position;
      number_least = sound.number_least;
      number_most = sound.number_most;
      text = sound.text;
      counted = le_trans sound.counted (up (author_of l.position - 1));
    }

pub lines_kept : (counts next : List ℕ) (lines : List Line) → Risen counts next → SoundLines counts lines
    → SoundLines next lines
lines_kept counts next lines up sound =
    record {
      most = sound.most;
      line = λ i h. line_kept counts next (get_or lines i no_line) up (sound.line i h);
      rising = sound.rising;
    }

-- A line put in, and a line taken out.

abbrev Under : Line → Line → Type 0
Under a b = a.position ≺ b.position

-- the place of a new line: over the line before it and under the line that is there now
pub record Between (lines : List Line) (k : ℕ) (l : Line) : Type 0 where
  pub inside : k ≤ length lines
  pub over : (i : ℕ) → suc i ≡ k → (get_or lines i no_line).position ≺ l.position
  pub under : k < length lines → l.position ≺ (get_or lines k no_line).position

-- where finding says that a line would stand, it fits
pub gap_between : (lines : List Line) (k : ℕ) (l : Line) → find_in l.position lines ≡ Gap k → Between lines k l
gap_between lines k l e = fits (subst (Told l.position lines) e (told l.position lines))
  where
    fits : Told l.position lines (Gap k) → Between lines k l
    fits (in_gap k inside under over) =
        record { inside = inside; over = λ i h. under i (omega arith); under = over }

module _ (counts : List ℕ) (lines : List Line) (sound : SoundLines counts lines) (k : ℕ) where
  pub insert_kept : (l : Line) → length lines < 512 → SoundLine counts l → Between lines k l
      → SoundLines counts (insert_at k l lines)
  insert_kept l room new place =
      record {
        most = omega (arith, insert_length k l lines);
        line = insert_each no_line (SoundLine counts) k l lines place.inside new sound.line;
        rising = insert_rising no_line Under k l lines place.inside sound.rising
            place.over place.under;
      }

  pub remove_kept : k < length lines → SoundLines counts (remove_at k lines)
  remove_kept h =
      record {
        most = omega (arith, remove_length k lines h, sound.most);
        line = remove_each no_line (SoundLine counts) k lines sound.line;
        rising = remove_rising no_line Under
            (λ a b c. transitive a.position b.position c.position) k lines sound.rising;
      }

-- The table's bytes.

pub row_in : (lines : List Line) (k : ℕ) (l : Line) → k ≤ length lines → length lines < 512
    → within ((length lines + 1) * row_size) (put_in (k * row_size) (encode_row l)) (encode_table lines)
    ≡ encode_table (insert_at k l lines)
unfolding encode_table
row_in lines k l h room = put_in_lem encode_row row_size row_length table_size k l lines h (omega arith)

pub row_out : (lines : List Line) (k : ℕ) → k < length lines → length lines ≤ 512
    → within (length lines * row_size) (take_out (k * row_size) row_size) (encode_table lines) ≡ encode_table (remove_at k lines)
unfolding encode_table
row_out lines k h most = take_out_lem encode_row row_size row_length table_size k lines h (omega arith)

module _ (r : Replica) (t : List ℕ) (b : Bytes t) (sound : Sound r t) (k : ℕ) where
  -- a row moved in a sound table is the line moved among its lines
  pub put_bytes : (l : Line) → k ≤ r.rows → r.rows < 512
      → within ((r.rows + 1) * row_size) (put_in (k * row_size) (encode_row l)) t
      ≡ encode_table (insert_at k l (decode_table r.rows t))
  put_bytes l h room =
      let lines = decode_table r.rows t in
      let rows : length lines ≡ r.rows = lines_length r.rows t in
      rw (rows, sound_encoded r t b sound) at (row_in lines k l (omega arith) (omega arith))

  pub out_bytes : k < r.rows
      → within (r.rows * row_size) (take_out (k * row_size) row_size) t ≡ encode_table (remove_at k (decode_table r.rows t))
  out_bytes h =
      let lines = decode_table r.rows t in
      let rows : length lines ≡ r.rows = lines_length r.rows t in
      let most : length lines ≤ 512 = omega (arith, sound.own.rows) in
      rw (rows, sound_encoded r t b sound) at (row_out lines k (omega arith) most)
