-- The parts, written one behind the other over zeros, are the line's row.
use Rattle.std.proofs.Common.{◌≡◌, ℕ, ◌≤◌, List, ◌++◌, length, refl, ap, ◌∙◌, rules, append_assoc, length-append, arith}
use lib.ListN.{length-replicate}
use Rattle.position.specs.declared.Identifier.{Identifier}
use Rattle.position.specs.Positions.{ids_of}
use Rattle.position.proofs.Ids.{ids_length}
use Rattle.rows.specs.Numbers.{bytes_of}
use Rattle.rows.specs.Rows.{filled, flat, slots_of, written}
use Rattle.rows.proofs.Digits.{bytes_length}
use Rattle.rows.proofs.Slots.{zeros, filled_length, flat_length}
use Rattle.rows.proofs.Bytes.{written_both, copied_written, all_written, filled_written}
use Rattle.script.specs.Lines.{Line, encode_identifier, encode_row}
use Rattle.script.proofs.Encoded.{identifier_length}
use Rattle.script.proofs.row.encode.Goals as goal

-- what is written behind the first bytes of a row of zeros
written_next : (n at : ℕ) (front bytes : List ℕ) → length front ≡ at → at ≤ n
    → written at bytes (written 0 front (zeros n)) ≡ written 0 (front ++ bytes) (zeros n)
written_next n at front bytes e h =
    written_both 0 at front bytes (zeros n) (omega arith) (omega (arith, length-replicate {A = ℕ} n 0))

-- a line's parts, written one behind the other over a row of zeros
row_written : (n : ℕ) (l : Line) → n ≡ 78 → length l.position ≤ 8 → length l.text ≤ 48
    → written 30 l.text
    (written 29 (bytes_of 1 (length l.text))
    (written 25 (bytes_of 4 l.number)
    (written 1 (flat encode_identifier l.position) (written 0 (bytes_of 1 (length l.position)) (zeros n)))))
    ≡ encode_row l
unfolding encode_row slots_of
row_written n l e few short =
    let used = bytes_of 1 (length l.position) in
    let ids = flat encode_identifier l.position in
    let slots = filled 24 ids in
    let number = bytes_of 4 l.number in
    let size = bytes_of 1 (length l.text) in
    let behind_used : length used ≡ 1 = bytes_length 1 (length l.position) in
    let room : length ids ≤ 24 =
    omega (arith, flat_length encode_identifier 3 identifier_length l.position) in
    let behind_slots : length (used ++ slots) ≡ 25 = simp (length-append, bytes_length, filled_length) in
    let behind_number : length ((used ++ slots) ++ number) ≡ 29 =
    simp (length-append, bytes_length, filled_length) in
    let front = ((used ++ slots) ++ number) ++ size in
    let behind_size : length front ≡ 30 = simp (length-append, bytes_length, filled_length) in
    let whole : length (zeros n) ≡ length (front ++ filled 48 l.text) =
    simp (length-replicate, length-append, bytes_length, filled_length) e in
    ap (λ (s : List ℕ). written 30 l.text (written 29 size (written 25 number s)))
    (written_next n 1 used ids behind_used (omega arith) ∙ filled_written 24 n used ids room (omega arith))
    ∙ ap (λ (s : List ℕ). written 30 l.text (written 29 size s))
    (written_next n 25 (used ++ slots) number behind_slots (omega arith))
    ∙ ap (written 30 l.text) (written_next n 29 ((used ++ slots) ++ number) size behind_number (omega arith))
    ∙ written_next n 30 front l.text behind_size (omega arith)
    ∙ filled_written 48 n front l.text short (omega arith)
    ∙ all_written (front ++ filled 48 l.text) (zeros n) whole
    ∙ simp append_assoc

pub returns : goal.returns
returns c =
    let l : Line = record { position = ids_of c.args.place; number = c.args.number; text = c.args.text.now } in
    let few : length l.position ≤ 8 = omega (arith, ids_length c.args.place (search rules)) in
    copied_written 30 48 l.text c.put-3.new.s c.copy_front.new.s (omega arith) (omega arith) c.copy_front.ensures
    ∙ ap (written 30 l.text)
    (c.put-3.ensures
    ∙ ap (written 29 (bytes_of 1 (length l.text)))
    (c.put-2.ensures
    ∙ ap (written 25 (bytes_of 4 l.number))
    (c.put_identifiers.ensures
    ∙ ap (λ (ids : List Identifier). written 1 (flat encode_identifier ids) c.put.new.s) c.identifiers.ensures
    ∙ ap (written 1 (flat encode_identifier l.position))
    (c.put.ensures ∙ ap (λ (n : ℕ). written 0 (bytes_of 1 n) (zeros 78)) c.length.ensures))))
    ∙ row_written 78 l refl few (omega arith)
