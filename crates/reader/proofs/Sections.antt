-- What is made of fields: an entry of Before, the head, the line. Of each, how it is read from its fields, and that
-- it is not there where one of them is not; of an entry and the head also that bytes begin with at most one.
-- Assumes nothing.
use Prim.Native.Nat.{ℕ, ◌+◌, ◌<◌}
use native.Mathlib.Omega.{arith}
use mathlib.Core.Path.{◌≡◌, refl, sym, ap, subst, ◌∙◌}
use mathlib.Core.List.{List, [], ◌++◌, append-nil}
use lib.ListN.{length, take, drop}
use lib.Seq.{take_all, length-take-le}
use Rattle.rows.specs.Numbers.{bytes_of}
use Rattle.rows.specs.Rows.{filled}
use Rattle.rows.proofs.Bytes.{drop-replicate}
use Rattle.rows.proofs.Digits.{bytes_length}
use Rattle.rows.proofs.Slots.{zeros, filled_is, filled_length, filled_zero, filled_front, filled_back}
use Rattle.format.specs.declared.Edit.{Edit}
use Rattle.format.specs.declared.Edit.TheVariants.{Insert, Delete}
use Rattle.format.specs.declared.Entry.{Entry}
use Rattle.format.specs.declared.Kind.{Kind}
use Rattle.format.specs.Patches.{kind_of, encode_entry, head_bytes, line_bytes}
use Rattle.format.specs.WellFormed.{TextFits, NumberFits, LineFits}
use Rattle.reader.specs.declared.cursor.Head.{Head}
use Rattle.reader.specs.declared.cursor.Line.{Line}
use Rattle.reader.specs.Steps.{Found, Missing, Within, encode_kind, AnyKind, EntryAbove, encode_head, HeadFits, encode_line, LineOfKind}
use Rattle.reader.proofs.Codes.{Unique, unique_byte, unique_count, unique_kind, encode_both, FitBoth, unique_both, Retold, unique_retold}
use Rattle.reader.proofs.Composed.{too_short, found_both, missing_first, missing_second, found_retold, missing_retold}

-- A number behind a byte: an entry; of a head, author and number; of a delete, its count byte and the number.

abbrev encode_numbered : ℕ × ℕ → List ℕ
encode_numbered = encode_both (bytes_of 1) (λ _. bytes_of 4)

abbrev NumberedFits : ℕ → ℕ → ℕ × ℕ → Type 0
NumberedFits least most = FitBoth (Within least most) (λ _. NumberFits)

module _ (least most : ℕ) (small : most < 256) where
  unique_numbered : Unique encode_numbered (NumberedFits least most)
  unique_numbered = unique_both (unique_byte least most small) (λ _. bytes_of 4) (λ _. NumberFits) (λ _ _. unique_count)

  module _ {s : List ℕ} where
    numbered_found : {byte number : ℕ} {t u : List ℕ} → Found (bytes_of 1) (Within least most) s byte t
        → Found (bytes_of 4) NumberFits t number u → Found encode_numbered (NumberedFits least most) s (byte, number) u
    numbered_found = found_both (λ _. bytes_of 4) (λ _. NumberFits)

    no_byte : Missing (bytes_of 1) (Within least most) s → Missing encode_numbered (NumberedFits least most) s
    no_byte = missing_first (λ _. bytes_of 4) (λ _. NumberFits)

    no_number : {byte : ℕ} {t : List ℕ} → Found (bytes_of 1) (Within least most) s byte t
        → Missing (bytes_of 4) NumberFits t → Missing encode_numbered (NumberedFits least most) s
    no_number = missing_second (λ _. bytes_of 4) (λ _. NumberFits) (unique_byte least most small)

-- An entry whose site is above the last one.
module _ (last : ℕ) where
  -- a site and a count
  entry_told : Retold (λ p. record { site = p.0; count = p.1 }) (λ e. (e.site, e.count))
      encode_numbered (NumberedFits (last + 1) 16) encode_entry (EntryAbove last)
  unfolding encode_entry
  entry_told =
      record {
        fits_to = λ p fits. ((omega (arith, fits.0.0), fits.0.1), fits.1);
        fits_from = λ e fits. ((omega (arith, fits.0.0), fits.0.1), fits.1);
        back = λ e fits. refl;
        bytes = λ p fits. refl;
      }

  pub unique_entry : Unique encode_entry (EntryAbove last)
  unique_entry = unique_retold entry_told (unique_numbered (last + 1) 16 (omega arith))

module _ {last : ℕ} {s : List ℕ} where
  pub entry_found : {e : Entry} {t u : List ℕ} → Found (bytes_of 1) (Within (last + 1) 16) s e.site t
      → Found (bytes_of 4) NumberFits t e.count u → Found encode_entry (EntryAbove last) s e u
  entry_found site count = found_retold (entry_told last) (numbered_found (last + 1) 16 (omega arith) site count)

  pub entry_without_site : Missing (bytes_of 1) (Within (last + 1) 16) s → Missing encode_entry (EntryAbove last) s
  entry_without_site missing = missing_retold (entry_told last) (no_byte (last + 1) 16 (omega arith) missing)

  pub entry_without_count : {site : ℕ} {t : List ℕ} → Found (bytes_of 1) (Within (last + 1) 16) s site t
      → Missing (bytes_of 4) NumberFits t → Missing encode_entry (EntryAbove last) s
  entry_without_count site missing = missing_retold (entry_told last) (no_number (last + 1) 16 (omega arith) site missing)

-- The head: a kind, an author and a number.

head_told : Retold (λ p. record { kind = p.0; author = p.1.0; number = p.1.1 }) (λ h. (h.kind, (h.author, h.number)))
    (encode_both encode_kind (λ _. encode_numbered)) (FitBoth AnyKind (λ _. NumberedFits 1 16)) encode_head HeadFits
unfolding head_bytes
head_told =
    record {
      fits_to = λ p fits.
          record { author_least = fits.1.0.0; author_most = fits.1.0.1; numbered = fits.1.1 };
      fits_from = λ h fits. (tt, ((fits.author_least, fits.author_most), fits.numbered));
      back = λ h fits. refl;
      bytes = λ p fits. refl;
    }

pub unique_head : Unique encode_head HeadFits
unique_head =
    unique_retold head_told
    (unique_both unique_kind (λ _. encode_numbered) (λ _. NumberedFits 1 16) (λ _ _. unique_numbered 1 16 (omega arith)))

module _ {s : List ℕ} where
  pub head_found : {h : Head} {t u v : List ℕ} → Found encode_kind AnyKind s h.kind t
      → Found (bytes_of 1) (Within 1 16) t h.author u → Found (bytes_of 4) NumberFits u h.number v
      → Found encode_head HeadFits s h v
  head_found kind author number =
      found_retold head_told
      (found_both (λ _. encode_numbered) (λ _. NumberedFits 1 16) kind (numbered_found 1 16 (omega arith) author number))

  pub head_without_kind : Missing encode_kind AnyKind s → Missing encode_head HeadFits s
  head_without_kind missing =
      missing_retold head_told (missing_first (λ _. encode_numbered) (λ _. NumberedFits 1 16) missing)

  module _ {kind : Kind} {t : List ℕ} (first : Found encode_kind AnyKind s kind t) where
    without_rest : Missing encode_numbered (NumberedFits 1 16) t → Missing encode_head HeadFits s
    without_rest missing =
        missing_retold head_told (missing_second (λ _. encode_numbered) (λ _. NumberedFits 1 16) unique_kind first missing)

    pub head_without_author : Missing (bytes_of 1) (Within 1 16) t → Missing encode_head HeadFits s
    head_without_author missing = without_rest (no_byte 1 16 (omega arith) missing)

    pub head_without_number : {author : ℕ} {u : List ℕ} → Found (bytes_of 1) (Within 1 16) t author u
        → Missing (bytes_of 4) NumberFits u → Missing encode_head HeadFits s
    head_without_number author missing = without_rest (no_number 1 16 (omega arith) author missing)

-- The line: of an insert its text behind a length, of a delete a number.

-- the number in an edit: the length of its text, or that of the line struck
abbrev in_edit : Edit → ℕ
in_edit (Insert n) = n
in_edit (Delete n) = n

-- an edit is told by its kind and that number
is_insert : (e : Edit) → kind_of e ≡ 1 → e ≡ Insert (in_edit e)
is_insert (Insert n) kind = refl
is_insert (Delete n) kind = absurd (omega (arith, kind))

is_delete : (e : Edit) → kind_of e ≡ 2 → e ≡ Delete (in_edit e)
is_delete (Insert n) kind = absurd (omega (arith, kind))
is_delete (Delete n) kind = refl

-- a text is its first n bytes, filled up
pub text_filled : (n : ℕ) (text : List ℕ) → TextFits n text → filled 48 (take n text) ≡ text
text_filled n text fits =
    filled_front 48 n text (omega (arith, fits.size)) fits.unused ∙ take_all 48 text (omega (arith, fits.size))

-- and bytes that are filled up are a text
text_fits : (n : ℕ) (l : List ℕ) → length l ≡ n → TextFits n (filled 48 l)
text_fits n l size = record { size = filled_length 48 l; unused = λ j from to. filled_zero 48 l j (omega arith) }

-- an insert's line: a length and a text
text_told : Retold (λ p. record { edit = Insert p.0; text = p.1 }) (λ l. (in_edit l.edit, l.text))
    (encode_both (bytes_of 1) take) (FitBoth (Within 0 48) TextFits) encode_line (LineOfKind Kind.Insert)
unfolding line_bytes
text_told =
    record {
      fits_to = λ p fits. (refl, (fits.0.1, fits.1));
      fits_from = λ l fits.
          let found = subst (λ (e : Edit). LineFits e l.text) (is_insert l.edit fits.0) fits.1 in
          ((omega arith, found.0), found.1);
      back = λ l fits i. record { edit = sym (is_insert l.edit fits.0) i; text = l.text };
      bytes = λ p fits. rw (length-take-le p.0 p.1 (omega (arith, fits.0.1, fits.1.size)));
    }

-- a delete's line: the count byte 4 and a number
struck_told : Retold (λ p. record { edit = Delete p.1; text = zeros 48 }) (λ l. (4, in_edit l.edit))
    encode_numbered (NumberedFits 4 4) encode_line (LineOfKind Kind.Delete)
unfolding line_bytes filled
struck_told =
    record {
      fits_to = λ p fits. (refl, (fits.1, text_fits 0 [] refl));
      fits_from = λ l fits. ((omega arith, omega arith), (number l fits).0);
      back = λ l fits i.
          record {
            edit = sym (is_delete l.edit fits.0) i;
            text = text_filled 0 l.text (number l fits).1 i;
          };
      bytes = λ p fits.
          let four : length (bytes_of 4 p.1) ≡ p.0 = omega (arith, bytes_length 4 p.1, fits.0.0, fits.0.1) in
          ap (λ (k : ℕ). bytes_of 1 k ++ bytes_of 4 p.1) four;
    }
  where
    number : (l : Line) → LineOfKind Kind.Delete l → NumberFits (in_edit l.edit) × TextFits 0 l.text
    number l fits = subst (λ (e : Edit). LineFits e l.text) (is_delete l.edit fits.0) fits.1

module _ {s : List ℕ} where
  pub struck_found : {count number : ℕ} {t u : List ℕ} → Found (bytes_of 1) (Within 4 4) s count t
      → Found (bytes_of 4) NumberFits t number u
      → Found encode_line (LineOfKind Kind.Delete) s (record { edit = Delete number; text = zeros 48 }) u
  struck_found count number = found_retold struck_told (numbered_found 4 4 (omega arith) count number)

  pub struck_without_count : Missing (bytes_of 1) (Within 4 4) s → Missing encode_line (LineOfKind Kind.Delete) s
  struck_without_count missing = missing_retold struck_told (no_byte 4 4 (omega arith) missing)

  pub struck_without_number : {count : ℕ} {t : List ℕ} → Found (bytes_of 1) (Within 4 4) s count t
      → Missing (bytes_of 4) NumberFits t → Missing encode_line (LineOfKind Kind.Delete) s
  struck_without_number count missing = missing_retold struck_told (no_number 4 4 (omega arith) count missing)

  pub text_without_count : Missing (bytes_of 1) (Within 0 48) s → Missing encode_line (LineOfKind Kind.Insert) s
  text_without_count missing = missing_retold text_told (missing_first take TextFits missing)

-- A text, behind its length n.
module _ {s t : List ℕ} {n : ℕ} (count : Found (bytes_of 1) (Within 0 48) s n t) where
  -- what is copied over zeros is the text
  pub text_found : (front : List ℕ) {back text : List ℕ} → t ≡ front ++ back → length front ≡ n
      → text ≡ take 48 front ++ drop (length front) (zeros 48)
      → Found encode_line (LineOfKind Kind.Insert) s (record { edit = Insert n; text = text }) back
  text_found front {back} {text} here size copied =
      let filled-up : text ≡ filled 48 front =
      copied ∙ rw (take_all 48 front (omega (arith, count.fits.1)), drop-replicate {A = ℕ} 0 (length front) 48, filled_is 48 front (omega (arith, count.fits.1))) in
      let own : take n text ≡ front =
      ap (λ (k : ℕ). take k text) (sym size)
      ∙ ap (take (length front)) (filled-up ∙ sym (append-nil (filled 48 front))) ∙ filled_back 48 front [] (omega (arith, count.fits.1)) in
      found_retold text_told
      (found_both take TextFits count
      (record {
        fits = subst (TextFits n) (sym filled-up) (text_fits n front size);
        bytes = here ∙ ap (λ (l : List ℕ). l ++ back) (sym own);
      }))

  -- where fewer bytes are there, no text is
  pub text_short : length t < n → Missing encode_line (LineOfKind Kind.Insert) s
  text_short short =
      missing_retold text_told
      (missing_second take TextFits (unique_byte 0 48 (omega arith)) count
      (too_short n (λ text fits. length-take-le n text (omega (arith, count.fits.1, fits.size))) short))

pub ruleset entry_rules = (entry_found, entry_without_site, entry_without_count)

pub ruleset head_rules = (head_found, head_without_kind, head_without_author, head_without_number)

pub ruleset struck_rules = (struck_found, struck_without_count, struck_without_number)
