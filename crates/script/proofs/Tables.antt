-- The table and its lines: lines that fit are read back, and a sound table is the bytes of its lines,
-- so that sound tables with the same lines are the same.
-- Assumes nothing.
use Prim.Native.Nat.{ℕ, suc, ◌*◌, ◌≤◌, ◌<◌}
use native.Mathlib.Omega.{arith}
use mathlib.Core.Path.{◌≡◌, sym, ap, ◌∙◌}
use mathlib.Core.List.{List, [], ◌++◌, append-nil}
use lib.ListN.{length, get_or, length-drop}
use Rattle.rows.proofs.Digits.{Bytes, bytes_drop}
use Rattle.rows.proofs.Slots.{Each, slots_length, rows_length, rows_at, row_front, zero_behind, slots_back, slots_bytes}
use Rattle.record.specs.declared.Replica.{Replica}
use Rattle.script.specs.Lines.{Line, no_line, encode_row, encode_table, decode_row, row_at, decode_table}
use Rattle.script.specs.Sound.{Sound}
use Rattle.script.proofs.Encoded.{Fitting, row_length, row_back, row_bytes}

pub table_length : (lines : List Line) → length (encode_table lines) ≡ 39936
unfolding encode_table
table_length lines = slots_length encode_row 39936 lines

-- row i is the bytes of line i, and the rows behind it follow
pub table_row : (lines : List Line) (i : ℕ) → i < length lines → length lines ≤ 512
    → row_at (encode_table lines) i ≡ encode_row (get_or lines i no_line) ++ row_at (encode_table lines) (suc i)
unfolding encode_table
table_row lines i h most = row_front encode_row 78 row_length 39936 lines i no_line h (omega arith)

pub table_unused : (lines : List Line) (j : ℕ) → length lines * 78 ≤ j → get_or (encode_table lines) j 0 ≡ 0
unfolding encode_table
table_unused lines j h = zero_behind encode_row 78 row_length 39936 lines j h

pub lines_length : (n : ℕ) (t : List ℕ) → length (decode_table n t) ≡ n
unfolding decode_table
lines_length n t = rows_length decode_row 78 n t

-- line i is what stands in row i
pub line_at : (n i : ℕ) (t : List ℕ) → i < n → get_or (decode_table n t) i no_line ≡ decode_row (row_at t i)
unfolding decode_table
line_at n i t h = rows_at decode_row 78 n i t no_line h

pub table_back : (lines : List Line) → length lines ≤ 512 → Each no_line Fitting lines
    → decode_table (length lines) (encode_table lines) ≡ lines
unfolding decode_table encode_table
table_back lines h fit =
    rw append-nil at
    (slots_back encode_row 78 row_length Fitting decode_row row_back no_line 39936 lines (omega arith) fit [])

pub sound_encoded : (r : Replica) (t : List ℕ) → Bytes t → Sound r t
    → encode_table (decode_table r.rows t) ≡ t
unfolding decode_table encode_table
sound_encoded r t b sound =
    slots_bytes decode_row 78 encode_row r.rows 39936 t
    (λ i h.
    let long : 78 ≤ length (row_at t i) = rw length-drop (omega (arith, sound.size, sound.own.rows)) in
    row_bytes r.counts (row_at t i) (bytes_drop (i * 78) t b) long (sound.row i h))
    sound.size sound.unused_rows

-- sound tables with the same lines are the same bytes
pub same_lines : (r q : Replica) (t u : List ℕ) → Bytes t → Bytes u → Sound r t → Sound q u
    → decode_table r.rows t ≡ decode_table q.rows u → t ≡ u
same_lines r q t u b c sound other e =
    sym (sound_encoded r t b sound) ∙ ap encode_table e ∙ sound_encoded q u c other
