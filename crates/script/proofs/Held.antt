-- Soundness of a table, said of its lines: the lines of a sound table are sound, and the bytes of
-- sound lines are a sound table.
-- Assumes nothing.
use Prim.Native.Nat.{ℕ, suc, ◌≤◌, ◌<◌}
use native.Mathlib.Omega.{arith}
use mathlib.Core.Path.{◌≡◌}
use mathlib.Core.List.{List}
use lib.ListN.{length, get_or}
use Rattle.position.specs.Order.{◌≺◌}
use Rattle.record.specs.declared.Replica.{Replica}
use Rattle.record.specs.Records.{SoundRecord}
use Rattle.script.specs.Lines.{Line, no_line, encode_table, decode_row, row_at, decode_table}
use Rattle.script.specs.Sound.{SoundLine, Sound}
use Rattle.script.proofs.Encoded.{row_back, line_fits, row_sound}
use Rattle.script.proofs.Tables.{table_length, table_row, table_unused}
use Rattle.script.proofs.Tables.{lines_length, line_at, table_back}

-- at most 512 sound lines that rise strictly by position
pub record SoundLines (counts : List ℕ) (lines : List Line) : Type 0 where
  pub most : length lines ≤ 512
  pub line : (i : ℕ) → i < length lines → SoundLine counts (get_or lines i no_line)
  pub rising : (i : ℕ) → suc i < length lines
      → (get_or lines i no_line).position ≺ (get_or lines (suc i) no_line).position

pub sound_lines : (r : Replica) (t : List ℕ) → Sound r t → SoundLines r.counts (decode_table r.rows t)
sound_lines r t sound =
    let rows : length (decode_table r.rows t) ≡ r.rows = lines_length r.rows t in
    record {
      most = omega (arith, sound.own.rows);
      line = λ i h.
          let there : i < r.rows = omega arith in
          rw (line_at r.rows i t there) (sound.row i there).line;
      rising = λ i h.
          let there : suc i < r.rows = omega arith in
          rw (line_at r.rows i t (omega arith), line_at r.rows (suc i) t there) (sound.rising i there);
    }

module _ (counts : List ℕ) (lines : List Line) (sound : SoundLines counts lines) where
  -- what stands in row i
  held : (i : ℕ) → i < length lines → decode_row (row_at (encode_table lines) i) ≡ get_or lines i no_line
  held i h =
      let l = get_or lines i no_line in
      rw (table_row lines i h sound.most)
      (row_back l (line_fits counts l (sound.line i h)) (row_at (encode_table lines) (suc i)))

  pub lines_back : decode_table (length lines) (encode_table lines) ≡ lines
  lines_back =
      table_back lines sound.most (λ i h. line_fits counts (get_or lines i no_line) (sound.line i h))

pub lines_sound : (r : Replica) (lines : List Line) → SoundRecord r → length lines ≡ r.rows
    → SoundLines r.counts lines → Sound r (encode_table lines)
lines_sound r lines own e sound =
    record {
      own = own;
      size = table_length lines;
      row = λ i h.
          let there : i < length lines = omega arith in
          rw (table_row lines i there sound.most)
          (row_sound r.counts (get_or lines i no_line) (row_at (encode_table lines) (suc i))
          (sound.line i there));
      unused_rows = λ j from to. table_unused lines j (omega arith);
      rising = λ i h.
          let there : suc i < length lines = omega arith in
          rw (held r.counts lines sound i (omega arith), held r.counts lines sound (suc i) there)
          (sound.rising i there);
    }
