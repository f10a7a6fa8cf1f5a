-- Inserting a line before a row (01, 'Answer numbers', 'A new place').
-- Assumes nothing.
use Rattle.std.specs.Prelude.{ℕ, Bool, List, [], ◌∷◌, map, ltb, length, get_or, Option, is_none, unwrap_or}
use Rattle.position.specs.declared.Identifier.{Identifier}
use Rattle.position.specs.declared.Position.{Position}
use Rattle.position.specs.Positions.{begin, end, ids_of, position_of}
use Rattle.position.specs.Place.{place_of, placed}
use Rattle.rows.specs.Rows.{filled}
use Rattle.record.specs.declared.Replica.{Replica}
use Rattle.script.specs.Lines.{Line, decode_table}
use Rattle.script.specs.Find.{find_in}
use Rattle.format.specs.declared.Edit.TheVariants.{Insert}
use Rattle.format.specs.Answers.{first_of}
use Rattle.effect.specs.Effect.{is_row}
use Rattle.replica.specs.Grounds.{unsound, full}
use Rattle.edits.specs.Own.{OwnOutcome, untouched, short, spent, own_patch, own_edit}

-- the positions of the lines, in their order
abbrev pub positions_of : List Line → List (List Identifier)
positions_of lines = map (λ (l : Line). l.position) lines

-- "between neighbours P and Q [..], either of which may be an end": those of a place before a row
abbrev pub left_of : List Line → ℕ → List Identifier
left_of lines row = get_or (begin ∷ positions_of lines) row begin

abbrev pub right_of : List Line → ℕ → List Identifier
right_of lines row = get_or (positions_of lines) row end

-- the place that is made there
unfoldable pub place_before : Replica → List ℕ → ℕ → ℕ → Option Position
place_before r table row draw =
    let lines = decode_table r.rows table in
    placed (place_of (left_of lines row) (right_of lines row) r.site draw)

-- the place made; where there is none, no identifier at all
abbrev pub position_made : Option Position → Position
position_made made = unwrap_or made (position_of [])

-- "Insert: 1, 10, 8, 9, 7, 11, 12, 13." `made` is the place made.
-- 8: "insert takes a row from 0 to the number in use", 9: "text over 48 bytes", 12: "no place of at
-- most 8 identifiers", 13: "the place made is a row already"
unfoldable pub insert_checks : Replica → List ℕ → ℕ → List ℕ → List ℕ → Option Position → List (Bool × ℕ)
insert_checks r table row text buffer made =
    (unsound r table, 1) ∷
    (short buffer, 10) ∷
    (ltb r.rows row, 8) ∷
    (ltb 48 (length text), 9) ∷
    (full r, 7) ∷
    (spent r, 11) ∷
    (is_none made, 12) ∷
    (is_row (find_in (ids_of (position_made made)) (decode_table r.rows table)), 13) ∷
    []

unfoldable pub insert_call : Replica → List ℕ → ℕ → ℕ → List ℕ → List ℕ → OwnOutcome
insert_call r table row draw text buffer =
    let made = place_before r table row draw in
    let p = own_patch r (position_made made) (Insert (length text)) in
    first_of (insert_checks r table row text buffer made) (untouched r table buffer)
    (own_edit r table buffer p (filled 48 text))
