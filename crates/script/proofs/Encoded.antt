-- A line and the bytes of its row: a line that fits is read back from them, and the bytes of a sound
-- row are written as they were read.
-- Assumes nothing.
use Prim.Native.Nat.{ℕ, ◌+◌, ◌-◌, ◌*◌, ◌^◌, ◌≤◌, ◌<◌}
use native.Mathlib.Omega.{arith}
use mathlib.Core.Path.{◌≡◌, sym, ◌∙◌}
use mathlib.Core.List.{List, ◌++◌, append_assoc}
use lib.ListN.{length, take, drop, get_or, length-append, length-drop}
use lib.Seq.{length-take-le, drop_at, take-add, drop-drop, get_or-drop}
use Rattle.position.specs.declared.Identifier.{Identifier}
use Rattle.position.specs.Positions.{pad}
use Rattle.rows.specs.Numbers.{bytes_of}
use Rattle.rows.specs.Rows.{filled, flat, slots_of, written}
use Rattle.rows.proofs.Digits.{Bytes, bytes_drop, part_at, read_on, bytes_length}
use Rattle.rows.proofs.Digits.{num_back, num_there, bytes_back, byte_there, byte_back}
use Rattle.rows.proofs.Slots.{filled_length, filled_back, filled_front, filled_zero}
use Rattle.rows.proofs.Slots.{flat_length, slots_length, zero_behind, slots_back, slots_front}
use Rattle.rows.proofs.Bytes.{element_written, written_both, written_length}
use Rattle.script.specs.Lines.{Line, encode_identifier, encode_row, used_of, decode_identifier}
use Rattle.script.specs.Lines.{identifiers_of, number_of, text_length_of, text_of, decode_row}
use Rattle.script.specs.Sound.{SoundLine, SoundRow}
use Rattle.script.proofs.Identifiers.{identifiers_length}

-- An identifier's three bytes.

pub record FittingIdentifier (i : Identifier) : Type 0 where
  pub integer : i.integer < 65536
  pub site : i.site < 256

pub identifier_length : (i : Identifier) → length (encode_identifier i) ≡ 3
unfolding encode_identifier
identifier_length i = simp (length-append, bytes_length)

-- the next identifier, its integer and then its site, written behind those before it
pub identifier_written : (ids : List Identifier) (i at next end : ℕ) (s : List ℕ) → i < length ids
    → next ≡ at + i * 3 → end ≡ next + 2 → end ≤ length s
    → let id = get_or ids i pad in
    written end (bytes_of 1 id.site) (written next (bytes_of 2 id.integer) (written at (flat encode_identifier (take i ids)) s))
    ≡ written at (flat encode_identifier (take (i + 1) ids)) s
unfolding encode_identifier
identifier_written ids i at next end s h n e k =
    let id = get_or ids i pad in
    let passed = flat encode_identifier (take i ids) in
    let so_far = written at passed s in
    let bytes : length passed ≡ i * 3 =
    rw (flat_length encode_identifier 3 identifier_length, length-take-le i ids (omega arith)) in
    let size : length so_far ≡ length s = written_length at passed s (omega arith) in
    let integer = bytes_of 2 id.integer in
    let behind : end ≡ next + length integer = omega (arith, bytes_length 2 id.integer) in
    written_both next end integer (bytes_of 1 id.site) so_far behind (omega arith)
    ∙ element_written encode_identifier 3 identifier_length ids i pad h at next s n (omega arith)

pub identifier_back : (i : Identifier) → FittingIdentifier i → (rest : List ℕ)
    → decode_identifier (encode_identifier i ++ rest) ≡ i
unfolding encode_identifier decode_identifier
identifier_back i fits rest =
    let x = bytes_of 2 i.integer in
    let s = bytes_of 1 i.site ++ rest in
    let two : drop 2 (x ++ s) ≡ s = drop_at x s 2 (bytes_length 2 i.integer) in
    rw append_assoc (λ d.
    record {
      integer = num_back 2 i.integer s fits.integer d;
      site = byte_there i.site 2 (x ++ s) rest fits.site two d;
    })

pub identifier_bytes : (s : List ℕ) → Bytes s → 3 ≤ length s
    → encode_identifier (decode_identifier s) ≡ take 3 s
unfolding encode_identifier decode_identifier
identifier_bytes s b h =
    rw (bytes_back 2 0 s b (omega arith), byte_back 2 s b (omega arith)) (sym (take-add 2 1 s))

-- A row's bytes: what stands in it from each place on, with anything behind the row.

module _ (l : Line) (rest : List ℕ) where
  abbrev row : List ℕ
  row = encode_row l ++ rest

  abbrev slots : List ℕ
  slots = slots_of encode_identifier 24 l.position

  abbrev text : List ℕ
  text = filled 48 l.text

  abbrev after_number : List ℕ
  after_number = bytes_of 1 (length l.text) ++ (text ++ rest)

  abbrev after_slots : List ℕ
  after_slots = bytes_of 4 l.number ++ after_number

  from_0 : row ≡ bytes_of 1 (length l.position) ++ (slots ++ after_slots)
  unfolding encode_row
  from_0 = simp append_assoc

  from_1 : drop 1 row ≡ slots ++ after_slots
  from_1 =
      read_on 0 1 row (bytes_of 1 (length l.position)) (slots ++ after_slots) from_0
      (bytes_length 1 (length l.position))

  from_25 : drop 25 row ≡ after_slots
  from_25 = read_on 1 24 row slots after_slots from_1 (slots_length encode_identifier 24 l.position)

  from_29 : drop 29 row ≡ after_number
  from_29 = read_on 25 4 row (bytes_of 4 l.number) after_number from_25 (bytes_length 4 l.number)

  from_30 : drop 30 row ≡ text ++ rest
  from_30 =
      read_on 29 1 row (bytes_of 1 (length l.text)) (text ++ rest) from_29
      (bytes_length 1 (length l.text))

  pub used_back : length l.position < 256 → used_of (encode_row l ++ rest) ≡ length l.position
  used_back h = byte_there (length l.position) 0 row (slots ++ after_slots) h from_0

  pub number_back : l.number < 256 ^ 4 → number_of (encode_row l ++ rest) ≡ l.number
  number_back h = num_there 4 l.number 25 row after_number h from_25

  pub text_length_back : length l.text < 256 → text_length_of (encode_row l ++ rest) ≡ length l.text
  text_length_back h = byte_there (length l.text) 29 row (text ++ rest) h from_29

pub row_length : (l : Line) → length (encode_row l) ≡ 78
unfolding encode_row
row_length l = simp (length-append, bytes_length, slots_length, filled_length)

-- A line that its row can hold.
pub record Fitting (l : Line) : Type 0 where
  pub most : length l.position ≤ 8
  pub identifiers : (k : ℕ) → k < length l.position → FittingIdentifier (get_or l.position k pad)
  pub number : l.number < 256 ^ 4
  pub text : length l.text ≤ 48

module _ (l : Line) (fits : Fitting l) (rest : List ℕ) where
  identifiers_back : identifiers_of (encode_row l ++ rest) ≡ l.position
  unfolding identifiers_of
  identifiers_back =
      rw (used_back l rest (omega (arith, fits.most)), from_1 l rest)
      (slots_back encode_identifier 3 identifier_length FittingIdentifier decode_identifier identifier_back pad
      24 l.position (omega (arith, fits.most)) fits.identifiers (after_slots l rest))

  text_back : text_of (encode_row l ++ rest) ≡ l.text
  text_back =
      rw (text_length_back l rest (omega (arith, fits.text)), from_30 l rest)
      (filled_back 48 l.text rest fits.text)

  pub row_back : decode_row (encode_row l ++ rest) ≡ l
  unfolding decode_row
  row_back = λ d. record {
    position = identifiers_back d;
    number = number_back l rest fits.number d;
    text = text_back d;
  }

-- the bytes of a sound row are written as they were read
pub row_bytes : (counts row : List ℕ) → Bytes row → 78 ≤ length row → SoundRow counts row
    → encode_row (decode_row row) ≡ take 78 row
unfolding encode_row decode_row identifiers_of
row_bytes counts row b h sound =
    let after-1 = drop 1 row in
    let after-30 = drop 30 row in
    let used = identifiers_length row in
    let most : used_of row ≤ 8 = omega (arith, sound.line.position.most) in
    let slots-long : length after-1 ≡ length row - 1 = length-drop 1 row in
    let text-long : length after-30 ≡ length row - 30 = length-drop 30 row in
    let identifiers : slots_of encode_identifier 24 (identifiers_of row) ≡ take 24 after-1 =
    slots_front decode_identifier 3 encode_identifier (used_of row) 24 after-1
    (λ i to.
    identifier_bytes (drop (i * 3) after-1) (bytes_drop (i * 3) after-1 (bytes_drop 1 row b))
    (rw length-drop (omega arith)))
    (omega arith)
    (λ j from to. get_or-drop 1 row j 0 ∙ sound.unused_identifiers j from to) in
    let count : length (text_of row) ≡ text_length_of row =
    length-take-le (text_length_of row) after-30 (omega (arith, sound.text_length)) in
    let text : filled 48 (text_of row) ≡ take 48 after-30 =
    filled_front 48 (text_length_of row) after-30 (omega arith)
    (λ j from to. get_or-drop 30 row j 0 ∙ sound.unused_text j from to) in
    rw (used, byte_back 0 row b (omega arith), identifiers, bytes_back 4 25 row b (omega arith))
    (rw (count, byte_back 29 row b (omega arith), text)
    (rw (take-add 1 77 row, take-add 24 53 after-1, drop-drop 24 1 row)
    (rw (take-add 4 49 (drop 25 row), drop-drop 4 25 row, take-add 1 48 (drop 29 row), drop-drop 1 29 row))))

-- a sound line fits its row
pub line_fits : (counts : List ℕ) (l : Line) → SoundLine counts l → Fitting l
line_fits counts l sound =
    record {
      most = sound.position.most;
      identifiers = λ k h.
          let proper = sound.position.proper k h in
          record { integer = omega arith; site = omega arith };
      number = omega (arith, sound.number_most);
      text = sound.text;
    }

-- and its row is sound
pub row_sound : (counts : List ℕ) (l : Line) (rest : List ℕ) → SoundLine counts l
    → SoundRow counts (encode_row l ++ rest)
row_sound counts l rest sound =
    let fits = line_fits counts l sound in
    let slots-long : length (slots l rest) ≡ 24 = slots_length encode_identifier 24 l.position in
    let text-long : length (text l rest) ≡ 48 = filled_length 48 l.text in
    let used-is = used_back l rest (omega (arith, fits.most)) in
    let count-is = text_length_back l rest (omega (arith, fits.text)) in
    record {
      line = rw (row_back l fits rest) sound;
      text_length = omega (arith, fits.text);
      unused_identifiers = λ j from to.
          part_at 1 j (row l rest) (slots l rest) (after_slots l rest) (from_1 l rest) (omega arith)
          ∙ zero_behind encode_identifier 3 identifier_length 24 l.position j (omega arith);
      unused_text = λ j from to.
          part_at 30 j (row l rest) (text l rest) rest (from_30 l rest) (omega arith)
          ∙ filled_zero 48 l.text j (omega arith);
    }
