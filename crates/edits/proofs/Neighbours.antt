-- What stands left and right of a place before a row: the line before it and the line of the row, or an
-- end; among sound lines each is a neighbour that a new place may have.
-- Assumes nothing.
use Prim.Native.Nat.{ℕ, zero, suc, ◌-◌, ◌≤◌, ◌<◌}
use native.Mathlib.Decide.{dec_lt}
use native.Mathlib.Omega.{arith}
use mathlib.Core.Path.{◌≡◌, refl, sym, ap, ◌∙◌}
use mathlib.Core.Logic.{by_cases}
use mathlib.Core.List.{List}
use lib.ListN.{length, get_or, length-map, get_or-eq_default}
use Rattle.std.proofs.lemmas.List.{get_or-map}
use Rattle.position.specs.declared.Identifier.{Identifier}
use Rattle.position.specs.Positions.{begin, end, position_of, Neighbour, a_line, the_begin, the_end}
use Rattle.script.specs.Lines.{Line, no_line, identifiers_of, decode_table}
use Rattle.script.proofs.Finding.{place_at}
use Rattle.script.proofs.Held.{SoundLines}
use Rattle.script.proofs.Lent.{lent_row, row_read}
use Rattle.script.proofs.Tables.{lines_length}
use Rattle.edits.specs.Insert.{positions_of, left_of, right_of}

position_at : (lines : List Line) (i : ℕ) (d : List Identifier) → i < length lines
    → get_or (positions_of lines) i d ≡ place_at lines i
position_at lines i d h = get_or-map (λ (l : Line). l.position) lines i no_line d h

module _ (lines : List Line) where
  -- behind the first place: the line of the row before
  pub left_line : (row : ℕ) → 1 ≤ row → row ≤ length lines → left_of lines row ≡ place_at lines (row - 1)
  left_line zero from to = absurd (omega arith)
  left_line (suc row) from to =
      let back : suc row - 1 ≡ row = omega arith in
      rw back (position_at lines row begin to)

  pub right_line : (row : ℕ) → row < length lines → right_of lines row ≡ place_at lines row
  right_line row h = position_at lines row end h

  -- behind the last line
  pub right_end : (row : ℕ) → length lines ≤ row → right_of lines row ≡ end
  right_end row h =
      get_or-eq_default (positions_of lines) end (omega (arith, length-map lines (λ (l : Line). l.position)))

  module _ (counts : List ℕ) (sound : SoundLines counts lines) where
    line_neighbour : (row : ℕ) (p : List Identifier) → row < length lines → p ≡ place_at lines row → Neighbour p
    line_neighbour row p h e = a_line (rw e (sound.line row h).position)

    pub left_neighbour : (row : ℕ) → row ≤ length lines → Neighbour (left_of lines row)
    left_neighbour zero h = the_begin refl
    left_neighbour (suc row) h = line_neighbour row (left_of lines (suc row)) h (position_at lines row begin h)

    pub right_neighbour : (row : ℕ) → Neighbour (right_of lines row)
    right_neighbour row =
        by_cases (dec_lt row (length lines))
        (λ h. line_neighbour row (right_of lines row) h (right_line row h))
        (λ h. the_end (right_end row (omega arith)))

-- as they are read in the table of n rows
module _ (n row : ℕ) (t : List ℕ) where
  pub left_read : 1 ≤ row → row ≤ n
      → position_of (identifiers_of (lent_row t (row - 1))) ≡ position_of (left_of (decode_table n t) row)
  left_read from to =
      ap position_of
      (row_read n (row - 1) t (omega arith) ∙ sym (left_line (decode_table n t) row from (omega (arith, lines_length n t))))

  pub right_read : row < n → position_of (identifiers_of (lent_row t row)) ≡ position_of (right_of (decode_table n t) row)
  right_read h =
      ap position_of
      (row_read n row t h ∙ sym (right_line (decode_table n t) row (omega (arith, lines_length n t))))

  pub right_none : n ≤ row → position_of end ≡ position_of (right_of (decode_table n t) row)
  right_none h = ap position_of (sym (right_end (decode_table n t) row (omega (arith, lines_length n t))))
