-- What a well-formed patch's bytes are read as: each field and section is found where the layout puts
-- it, with anything behind the patch.
-- Assumes nothing.
use Prim.Native.Nat.{ℕ, zero, suc, ◌*◌, ◌^◌, ◌<◌}
use native.Mathlib.Nat.{le_of_suc-le-suc}
use native.Mathlib.Omega.{arith}
use mathlib.Core.Path.{◌≡◌, refl, sym, ap, ◌∙◌}
use mathlib.Core.List.{List, ◌++◌, append_assoc}
use lib.ListN.{length, take, drop, get_or, length-take}
use lib.Seq.{drop_at, take_at, drop-drop}
use Rattle.position.specs.declared.Identifier.{Identifier}
use Rattle.position.specs.Positions.{pad, ids_of, position_of}
use Rattle.position.proofs.Ids.{ids_position}
use Rattle.rows.specs.Numbers.{num_at, bytes_of}
use Rattle.rows.specs.Rows.{filled, flat}
use Rattle.rows.proofs.Digits.{bytes_length, read_on, num_there, byte_there}
use Rattle.rows.proofs.Slots.{Each, flat_length, rows_back}
use Rattle.script.specs.Lines.{encode_identifier, decode_identifier}
use Rattle.script.proofs.Encoded.{FittingIdentifier, identifier_length, identifier_back}
use Rattle.format.specs.declared.Edit.{Edit}
use Rattle.format.specs.declared.Edit.TheVariants.{Insert, Delete}
use Rattle.format.specs.declared.Entry.{Entry}
use Rattle.format.specs.declared.Patch.{Patch}
use Rattle.format.specs.Patches.{head_size, section, kind_of, head_bytes, encode_entry, entries_from, before_bytes, place_bytes, line_bytes, patch_bytes}
use Rattle.format.specs.WellFormed.{LineFits}
use Rattle.format.specs.Steps.{FieldsFit}
use Rattle.format.proofs.Places.{ids_used, id_at, used_proper, unused_pad}
use Rattle.format.proofs.Sizes.{head_length, entry_length, entries_most}
use Rattle.reader.proofs.Counts.{Rising, before_rises, entered_entries}
use Rattle.reader.proofs.Repeated.Behind.{none, next}
use Rattle.reader.proofs.Sections.{text_filled}
use Rattle.reader.specs.Read.{rows_in, after_section, before_in, place_in, line_in, decode_entry, counts_in, edit_in, text_in, patch_in}

-- A section: its count byte, its bytes, its rows, and what is behind it.

count_first_lem : (n : ℕ) (bytes rest : List ℕ) → n < 256 → get_or (section n bytes ++ rest) 0 0 ≡ n
count_first_lem n bytes rest h =
    byte_there n 0 (section n bytes ++ rest) (bytes ++ rest) h (append_assoc (bytes_of 1 n) bytes rest)

count_behind : (n : ℕ) (bytes rest : List ℕ) → drop 1 (section n bytes ++ rest) ≡ bytes ++ rest
count_behind n bytes rest =
    rw (append_assoc (bytes_of 1 n) bytes rest) (drop_at (bytes_of 1 n) (bytes ++ rest) 1 (bytes_length 1 n))

module _ {ℓ} {A : Type ℓ} (encode : A → List ℕ) (width : ℕ) (each : (x : A) → length (encode x) ≡ width) where
  section_behind : (xs : List A) (rest : List ℕ) → length xs < 256
      → after_section width (section (length xs) (flat encode xs) ++ rest) ≡ rest
  section_behind xs rest h =
      rw (count_first_lem (length xs) (flat encode xs) rest h)
      (sym (drop-drop (length xs * width) 1 (section (length xs) (flat encode xs) ++ rest))
      ∙ ap (drop (length xs * width)) (count_behind (length xs) (flat encode xs) rest)
      ∙ drop_at (flat encode xs) rest (length xs * width) (flat_length encode width each xs))

  module _ {κ} (Good : A → Type κ) (decode : List ℕ → A)
      (back : (x : A) → Good x → (rest : List ℕ) → decode (encode x ++ rest) ≡ x) (d : A) where
    section_rows : (xs : List A) (rest : List ℕ) → length xs < 256 → Each d Good xs
        → rows_in decode width (section (length xs) (flat encode xs) ++ rest) ≡ xs
    section_rows xs rest h good =
        rw (count_first_lem (length xs) (flat encode xs) rest h, count_behind (length xs) (flat encode xs) rest)
        (rows_back encode width each Good decode back d xs good rest)

-- An entry of Before.

record FittingEntry (e : Entry) : Type 0 where
  site : e.site < 256
  count : e.count < 256 ^ 4

abbrev no_entry : Entry
no_entry = record { site = 0; count = 0 }

-- entries that rise are in range
rising_fit : {last : ℕ} {es : List Entry} → Rising last es → Each no_entry FittingEntry es
rising_fit none i h = absurd (omega arith)
rising_fit (next above later) zero h = record { site = omega (arith, above.0.1); count = omega (arith, above.1.1) }
rising_fit (next above later) (suc i) h = rising_fit later i (le_of_suc-le-suc h)

entry_back : (e : Entry) → FittingEntry e → (rest : List ℕ) → decode_entry (encode_entry e ++ rest) ≡ e
unfolding encode_entry decode_entry
entry_back e fits rest =
    let site = bytes_of 1 e.site in
    let count = bytes_of 4 e.count ++ rest in
    rw append_assoc (λ d.
    record {
      site = byte_there e.site 0 (site ++ count) count fits.site refl d;
      count = num_there 4 e.count 1 (site ++ count) rest fits.count (drop_at site count 1 (bytes_length 1 e.site)) d;
    })

-- The head, with anything behind it.

module _ (kind author number : ℕ) (rest : List ℕ) where
  abbrev headed : List ℕ
  headed = head_bytes kind author number ++ rest

  fields : headed ≡ bytes_of 1 kind ++ (bytes_of 1 author ++ (bytes_of 4 number ++ rest))
  unfolding head_bytes
  fields = rw (append_assoc, append_assoc)

  behind_kind : drop 1 headed ≡ bytes_of 1 author ++ (bytes_of 4 number ++ rest)
  behind_kind = read_on 0 1 headed (bytes_of 1 kind) (bytes_of 1 author ++ (bytes_of 4 number ++ rest)) fields (bytes_length 1 kind)

  kind_back : kind < 256 → get_or headed 0 0 ≡ kind
  kind_back h = byte_there kind 0 headed (bytes_of 1 author ++ (bytes_of 4 number ++ rest)) h fields

  author_back : author < 256 → get_or headed 1 0 ≡ author
  author_back h = byte_there author 1 headed (bytes_of 4 number ++ rest) h behind_kind

  number_back : number < 256 ^ 4 → num_at 4 headed 2 ≡ number
  number_back h =
      num_there 4 number 2 headed rest h
      (read_on 1 1 headed (bytes_of 1 author) (bytes_of 4 number ++ rest) behind_kind (bytes_length 1 author))

-- The line: the edit and the text beside it.

edit_back : (edit : Edit) (text rest : List ℕ) → LineFits edit text → edit_in (kind_of edit) (line_bytes edit text ++ rest) ≡ edit
unfolding edit_in line_bytes
edit_back (Insert n) text rest (most, fits) =
    let as_long : length (take n text) ≡ n = length-take n text ∙ omega (arith, fits.size) in
    ap Insert (count_first_lem (length (take n text)) (take n text) rest (omega arith) ∙ as_long)
edit_back (Delete n) text rest (number, fits) =
    ap Delete (num_there 4 n 1 (line_bytes (Delete n) text ++ rest) rest (omega (arith, number.1)) (count_behind (length (bytes_of 4 n)) (bytes_of 4 n) rest))

text_back : (edit : Edit) (text rest : List ℕ) → LineFits edit text → text_in (kind_of edit) (line_bytes edit text ++ rest) ≡ text
unfolding text_in line_bytes filled
text_back (Insert n) text rest (most, fits) =
    let as_long : length (take n text) ≡ n = length-take n text ∙ omega (arith, fits.size) in
    rw (count_first_lem (length (take n text)) (take n text) rest (omega arith), count_behind (length (take n text)) (take n text) rest)
    (ap (filled 48) (take_at (take n text) rest (length (take n text)) refl) ∙ text_filled n text fits)
text_back (Delete n) text rest (number, fits) = text_filled 0 text fits

-- The whole patch.

kind_small : (e : Edit) → kind_of e < 256
kind_small (Insert n) = omega arith
kind_small (Delete n) = omega arith

module _ (p : Patch) (text rest : List ℕ) (fits : FieldsFit p text) where
  abbrev entries : List Entry
  entries = entries_from 1 p.before

  abbrev ids : List Identifier
  ids = ids_of p.place

  abbrev line : List ℕ
  line = line_bytes p.edit text ++ rest

  abbrev place : List ℕ
  place = place_bytes ids ++ line

  abbrev before : List ℕ
  before = before_bytes p.before ++ place

  abbrev whole : List ℕ
  whole = patch_bytes p text ++ rest

  abbrev head : List ℕ
  head = head_bytes (kind_of p.edit) p.author p.number

  in_order : whole ≡ head ++ before
  unfolding patch_bytes
  in_order = rw (append_assoc, append_assoc, append_assoc)

  before_there : before_in whole ≡ before
  before_there = ap (drop head_size) in_order ∙ drop_at head before head_size (head_length (kind_of p.edit) p.author p.number)

  few_entries : length entries < 256
  few_entries = omega (arith, entries_most 1 p.before, fits.before.size)

  few_ids : length ids < 256
  few_ids = omega (arith, ids_used p.place fits.place, fits.place.most)

  place_there : place_in whole ≡ place
  unfolding before_bytes
  place_there = ap (after_section 5) before_there ∙ section_behind encode_entry 5 entry_length entries place few_entries

  line_there : line_in whole ≡ line
  unfolding place_bytes
  line_there = ap (after_section 3) place_there ∙ section_behind encode_identifier 3 identifier_length ids line few_ids

  entries_there : rows_in decode_entry 5 (before_in whole) ≡ entries
  unfolding before_bytes
  entries_there =
      ap (rows_in decode_entry 5) before_there
      ∙ section_rows encode_entry 5 entry_length FittingEntry decode_entry entry_back no_entry entries place few_entries
      (rising_fit (before_rises p.before fits.before))

  id_fits : Each pad FittingIdentifier ids
  id_fits k h =
      let used : k < p.place.used = omega (arith, ids_used p.place fits.place) in
      let proper = used_proper p.place fits.place k used in
      rw (id_at p.place fits.place k used) (record { integer = omega (arith, proper.integer); site = omega (arith, proper.site) })

  ids_there : rows_in decode_identifier 3 (place_in whole) ≡ ids
  unfolding place_bytes
  ids_there =
      ap (rows_in decode_identifier 3) place_there
      ∙ section_rows encode_identifier 3 identifier_length FittingIdentifier decode_identifier identifier_back pad ids line few_ids id_fits

  kind_there : get_or whole 0 0 ≡ kind_of p.edit
  kind_there = ap (λ (s : List ℕ). get_or s 0 0) in_order ∙ kind_back (kind_of p.edit) p.author p.number before (kind_small p.edit)

  pub patch_back : patch_in whole ≡ p
  unfolding patch_in
  patch_back =
      let h = fits.head in
      λ d. record {
        author = (ap (λ (s : List ℕ). get_or s 1 0) in_order ∙ author_back (kind_of p.edit) p.author p.number before (omega (arith, h.author_most))) d;
        number = (ap (λ (s : List ℕ). num_at 4 s 2) in_order ∙ number_back (kind_of p.edit) p.author p.number before (omega (arith, h.numbered.1))) d;
        before = (ap counts_in entries_there ∙ entered_entries p.before fits.before.size) d;
        place = (ap position_of ids_there ∙ ids_position p.place fits.place.most fits.place.size (unused_pad p.place fits.place)) d;
        edit = (ap (λ (k : ℕ). edit_in k (line_in whole)) kind_there ∙ ap (edit_in (kind_of p.edit)) line_there ∙ edit_back p.edit text rest fits.line) d;
      }

  pub beside_back : text_in (get_or whole 0 0) (line_in whole) ≡ text
  beside_back =
      ap (λ (k : ℕ). text_in k (line_in whole)) kind_there ∙ ap (text_in (kind_of p.edit)) line_there ∙ text_back p.edit text rest fits.line
