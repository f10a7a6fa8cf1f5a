-- A row in use of a sound table, lent from its first byte to the table's end: it can be read, what is read
-- is its line, and the line is found there.
-- Assumes nothing.
use Prim.Native.Nat.{ℕ, ◌+◌, ◌-◌, ◌*◌, ◌≤◌, ◌<◌}
use native.Mathlib.Omega.{arith}
use mathlib.Core.Path.{◌≡◌, sym, ap, ◌∙◌}
use mathlib.Core.List.{List}
use lib.ListN.{length, take, drop, get_or, length-drop}
use lib.Seq.{drop-drop, get_or-drop}
use Rattle.position.proofs.Ordered.{is_same}
use Rattle.rows.proofs.Bytes.{rest_lent}
use Rattle.record.specs.declared.Replica.{Replica}
use Rattle.script.specs.Lines.{row_size, Line, used_of, identifiers_of, text_of, text_start, decode_row, row_at, decode_table}
use Rattle.script.specs.declared.table.Found.TheVariants.{Row}
use Rattle.script.specs.Sound.{Sound}
use Rattle.script.specs.Find.{find_in}
use Rattle.script.proofs.Identifiers.{identifiers_length}
use Rattle.script.proofs.Tables.{lines_length, line_at}
use Rattle.script.proofs.Finding.{place_at, found_same}
use Rattle.script.proofs.Held.{sound_lines}

-- the bytes lent
abbrev pub lent_row : List ℕ → ℕ → List ℕ
lent_row t k = take (length t - k * row_size) (drop (k * row_size) t)

-- it is long enough for its number, and for its position
pub row_long : (r : Replica) (t : List ℕ) (k : ℕ) → Sound r t → k < r.rows → row_size ≤ length (lent_row t k)
row_long r t k sound h =
    rw (rest_lent (k * row_size) t) (omega (arith, length-drop (k * row_size) t, sound.size, sound.own.rows))

pub row_there : (r : Replica) (t : List ℕ) (k : ℕ) → Sound r t → k < r.rows
    → (25 ≤ length (lent_row t k)) × (used_of (lent_row t k) ≤ 8)
unfolding decode_row
row_there r t k sound h =
    let used = identifiers_length (row_at t k) in (
      omega (arith, row_long r t k sound h),
      rw (rest_lent (k * row_size) t) (omega (arith, (sound.row k h).line.position.most)),
    )

-- the position of its line
pub row_read : (n k : ℕ) (t : List ℕ) → k < n → identifiers_of (lent_row t k) ≡ place_at (decode_table n t) k
unfolding decode_row
row_read n k t h =
    ap identifiers_of (rest_lent (k * row_size) t) ∙ sym (ap (λ (l : Line). l.position) (line_at n k t h))

-- and the line is found where it stands
pub line_found : (r : Replica) (t : List ℕ) (k : ℕ) → Sound r t → k < r.rows
    → find_in (decode_row (row_at t k)).position (decode_table r.rows t) ≡ Row k
line_found r t k sound h =
    let lines = decode_table r.rows t in
    let there : k < length lines = omega (arith, lines_length r.rows t) in
    ap (λ (l : Line). find_in l.position lines) (sym (line_at r.rows k t h))
    ∙ found_same lines (sound_lines r t sound).rising (place_at lines k) k there (is_same (place_at lines k))

-- the part of the table that begins where row k's text does, as long as its length byte says
pub text_part : (t : List ℕ) (k start : ℕ) → start ≡ text_start k
    → take ((start + get_or t (k * row_size + 29) 0) - start) (drop start t) ≡ text_of (row_at t k)
text_part t k start e =
    let own : (text_start k + get_or t (k * row_size + 29) 0) - text_start k ≡ get_or t (k * row_size + 29) 0 = omega arith in
    rw (e, own, drop-drop, get_or-drop)
