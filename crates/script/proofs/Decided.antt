-- Whether record and table are sound is decided, fact by fact.
-- Assumes nothing.
use Prim.Native.Nat.{ℕ, suc, ◌+◌, ◌*◌, ◌<◌}
use native.Mathlib.Decide.{map_dec, ℕ_discrete, dec_le}
use native.Mathlib.Omega.{arith}
use mathlib.Core.HLevel.{⊥_prop}
use mathlib.Core.Logic.{∥∥₁_elim}
use mathlib.Core.Logic.Dec.{not-not}
use mathlib.Core.List.{List}
use lib.ListN.{length, get_or}
use Rattle.position.specs.Positions.{author_of}
use Rattle.position.specs.Order.{◌≺◌}
use Rattle.position.proofs.Decided.{by_field, implied?, each_below?, each_within?, line_position?, under?}
use Rattle.record.specs.declared.Replica.{Replica}
use Rattle.record.specs.Records.{count_of}
use Rattle.record.proofs.Decided.{sound_record?}
use Rattle.script.specs.Lines.{table_size, row_size, Line, used_of, text_length_of, decode_row, row_at}
use Rattle.script.specs.Sound.{SoundLine, SoundRow, Sound}

sound_line? : (counts : List ℕ) (l : Line) → Dec (SoundLine counts l)
sound_line? counts l =
    by_field (line_position? l.position) (λ sound. sound.position) λ position.
    by_field (dec_le 1 l.number) (λ sound. sound.number_least) λ number_least.
    by_field (dec_le l.number 1000000) (λ sound. sound.number_most) λ number_most.
    by_field (dec_le (length l.text) 48) (λ sound. sound.text) λ text.
    by_field (dec_le l.number (count_of counts (author_of l.position))) (λ sound. sound.counted) λ counted.
    yes (record { position = position; number_least = number_least; number_most = number_most; text = text; counted = counted })

sound_row? : (counts row : List ℕ) → Dec (SoundRow counts row)
sound_row? counts row =
    by_field (sound_line? counts (decode_row row)) (λ sound. sound.line) λ line.
    by_field (dec_le (text_length_of row) 48) (λ sound. sound.text_length) λ text_length.
    by_field (each_within? (λ j. ℕ_discrete (get_or row (1 + j) 0) 0) (used_of row * 3) 24) (λ sound. sound.unused_identifiers) λ unused_identifiers.
    by_field (each_within? (λ j. ℕ_discrete (get_or row (30 + j) 0) 0) (text_length_of row) 48) (λ sound. sound.unused_text) λ unused_text.
    yes (record { line = line; text_length = text_length; unused_identifiers = unused_identifiers; unused_text = unused_text })

-- row i is below the one behind it
abbrev Rises : List ℕ → ℕ → Type 0
Rises table i = (decode_row (row_at table i)).position ≺ (decode_row (row_at table (suc i))).position

rises? : (table : List ℕ) (i : ℕ) → Dec (Rises table i)
rises? table i = under? (decode_row (row_at table i)).position (decode_row (row_at table (suc i))).position

-- where there is one behind it, of n rows
rising? : (table : List ℕ) (n : ℕ) → Dec ((i : ℕ) → suc i < n → Rises table i)
rising? table n =
    map_dec
    (λ (every : (i : ℕ) → i < n → suc i < n → Rises table i) i h. every i (omega arith) h)
    (λ every i below h. every i h)
    (each_below? (λ i. implied? (dec_le (suc (suc i)) n) (rises? table i)) n)

pub sound? : (r : Replica) (table : List ℕ) → Dec (Sound r table)
sound? r table =
    by_field (sound_record? r) (λ sound. sound.own) λ own.
    by_field (ℕ_discrete (length table) table_size) (λ sound. sound.size) λ size.
    by_field (each_below? (λ i. sound_row? r.counts (row_at table i)) r.rows) (λ sound. sound.row) λ row.
    by_field (each_within? (λ j. ℕ_discrete (get_or table j 0) 0) (r.rows * row_size) table_size) (λ sound. sound.unused_rows) λ unused_rows.
    by_field (rising? table r.rows) (λ sound. sound.rising) λ rising.
    yes (record { own = own; size = size; row = row; unused_rows = unused_rows; rising = rising })

-- and so needs no more than that there is a proof of it
pub sound_of : {r : Replica} {t : List ℕ} → ∥ Sound r t ∥₁ → Sound r t
sound_of {r} {t} h = (not-not (sound? r t)).0 (λ fails. ∥∥₁_elim h ⊥_prop fails)
