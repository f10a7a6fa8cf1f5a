-- The four sections read one behind the other are a patch whose fields fit; where one is missing, no patch is there.
-- And what is handed out of either.
-- Assumes nothing.
use Prim.Native.Nat.{ℕ, ◌-◌}
use native.Mathlib.Omega.{arith}
use mathlib.Core.Path.{◌≡◌, refl, sym, ap, subst, ◌∙◌}
use mathlib.Core.List.{List}
use lib.ListN.{length, drop, length-append}
use Rattle.std.specs.Prelude.{Some, None}
use Rattle.position.specs.declared.Position.{Position}
use Rattle.format.specs.declared.Edit.{Edit}
use Rattle.format.specs.declared.Edit.TheVariants.{Insert, Delete}
use Rattle.format.specs.declared.Kind.{Kind}
use Rattle.format.specs.declared.Patch.{Patch}
use Rattle.format.specs.Kinds.{kind_byte}
use Rattle.format.specs.Patches.{kind_of, before_bytes, patch_bytes}
use Rattle.format.specs.WellFormed.{WellFormed, BeforeFits}
use Rattle.format.specs.Steps.{PlaceFits, FieldsFit, Agrees}
use Rattle.format.proofs.Parts.{fields_agree}
use Rattle.reader.specs.declared.cursor.Head.{Head}
use Rattle.reader.specs.declared.cursor.Line.{Line}
use Rattle.reader.specs.Read.{reading_of, patch_in, read_first, taken}
use Rattle.reader.specs.Steps.{Found, Missing, encode_head, HeadFits, encode_place, encode_line, LineOfKind}
use Rattle.reader.proofs.Codes.{encode_both, FitBoth, Retold}
use Rattle.reader.proofs.Composed.{found_both, missing_first, missing_second, found_retold, missing_retold}
use Rattle.reader.proofs.Sections.{unique_head}
use Rattle.reader.proofs.Counts.{unique_before}
use Rattle.reader.proofs.Placed.{unique_place}
use Rattle.reader.proofs.Back.{patch_back}
use Rattle.reader.proofs.Readings.{stands_whole, reads_back, not_read, taken_read}

-- The sections as they are read: head, Before, place, line; the line of the head's kind.

abbrev Behind_before : Type 0
Behind_before = Position × Line

abbrev Behind_head : Type 0
Behind_head = List ℕ × Behind_before

abbrev encode_placed : Behind_before → List ℕ
encode_placed = encode_both encode_place (λ _. encode_line)

abbrev FitPlaced : Kind → Behind_before → Type 0
FitPlaced kind = FitBoth PlaceFits (λ _. LineOfKind kind)

abbrev encode_behind : Behind_head → List ℕ
encode_behind = encode_both before_bytes (λ _. encode_placed)

abbrev FitBehind : Kind → Behind_head → Type 0
FitBehind kind = FitBoth BeforeFits (λ _. FitPlaced kind)

abbrev encode_sections : Head × Behind_head → List ℕ
encode_sections = encode_both encode_head (λ _. encode_behind)

abbrev FitSections : Head × Behind_head → Type 0
FitSections = FitBoth HeadFits (λ h. FitBehind h.kind)

-- A patch with its text, and its sections.

abbrev WithText : Type 0
WithText = Patch × List ℕ

abbrev kind_in : Edit → Kind
kind_in (Insert n) = Kind.Insert
kind_in (Delete n) = Kind.Delete

kind_kept : (e : Edit) → kind_byte (kind_in e) ≡ kind_of e
kind_kept (Insert n) = refl
kind_kept (Delete n) = refl

abbrev joined : Head × Behind_head → WithText
joined (h, (before, (place, line))) =
    (record { author = h.author; number = h.number; before = before; place = place; edit = line.edit }, line.text)

abbrev apart : WithText → Head × Behind_head
apart (p, text) =
    (record { kind = kind_in p.edit; author = p.author; number = p.number }, (p.before, (p.place, record { edit = p.edit; text = text })))

abbrev encode_patch : WithText → List ℕ
encode_patch (p, text) = patch_bytes p text

abbrev FitPatch : WithText → Type 0
FitPatch (p, text) = FieldsFit p text

told : Retold joined apart encode_sections FitSections encode_patch FitPatch
unfolding patch_bytes
told =
    record {
      fits_to = λ a fits. record { head = fits.0; before = fits.1.0; place = fits.1.1.0; line = fits.1.1.1.1 };
      fits_from = λ b fits. (fits.head, (fits.before, (fits.place, (sym (kind_kept b.0.edit), fits.line))));
      back = λ b fits. refl;
      bytes = λ a fits. rw fits.1.1.1.0 refl;
    }

-- no patch is there
abbrev pub NoPatch : List ℕ → Type 0
NoPatch s = Missing encode_patch FitPatch s

-- so none is handed out
pub none_taken : {s : List ℕ} → NoPatch s → None ≡ taken (read_first s)
none_taken {s} missing =
    ap taken (sym (not_read s (λ p text first.
    missing.none (p, text) (drop (length (patch_bytes p text)) s)
    (record { fits = ((fields_agree p text).0 first.0).0; bytes = sym (stands_whole (patch_bytes p text) s first.1) }))))

module _ {s : List ℕ} where
  pub without_head : Missing encode_head HeadFits s → NoPatch s
  without_head missing = missing_retold told (missing_first (λ _. encode_behind) (λ h. FitBehind h.kind) missing)

  module _ {h : Head} {s₁ : List ℕ} (head : Found encode_head HeadFits s h s₁) where
    behind_head : Missing encode_behind (FitBehind h.kind) s₁ → NoPatch s
    behind_head missing =
        missing_retold told (missing_second (λ _. encode_behind) (λ h. FitBehind h.kind) unique_head head missing)

    pub without_before : Missing before_bytes BeforeFits s₁ → NoPatch s
    without_before missing = behind_head (missing_first (λ _. encode_placed) (λ _. FitPlaced h.kind) missing)

    module _ {counts s₂ : List ℕ} (before : Found before_bytes BeforeFits s₁ counts s₂) where
      behind_before : Missing encode_placed (FitPlaced h.kind) s₂ → NoPatch s
      behind_before missing =
          behind_head (missing_second (λ _. encode_placed) (λ _. FitPlaced h.kind) unique_before before missing)

      pub without_place : Missing encode_place PlaceFits s₂ → NoPatch s
      without_place missing = behind_before (missing_first (λ _. encode_line) (λ _. LineOfKind h.kind) missing)

      module _ {position : Position} {s₃ : List ℕ} (place : Found encode_place PlaceFits s₂ position s₃) where
        pub without_line : Missing encode_line (LineOfKind h.kind) s₃ → NoPatch s
        without_line missing =
            behind_before (missing_second (λ _. encode_line) (λ _. LineOfKind h.kind) unique_place place missing)

        module _ {line : Line} {left : List ℕ} (last : Found encode_line (LineOfKind h.kind) s₃ line left) where
          -- the patch that was read
          abbrev p : Patch
          p = (joined (h, (counts, (position, line)))).0

          whole : Found encode_patch FitPatch s (p, line.text) left
          whole =
              found_retold told
              (found_both (λ _. encode_behind) (λ h. FitBehind h.kind) head
              (found_both (λ _. encode_placed) (λ _. FitPlaced h.kind) before
              (found_both (λ _. encode_line) (λ _. LineOfKind h.kind) place last)))

          -- what the fields' agreement may ask for
          pub fields : FieldsFit p line.text
          fields = whole.fits

          -- how many bytes were used
          used : length s - length left ≡ length (patch_bytes p line.text)
          used = omega (arith, ap length whole.bytes, length-append (patch_bytes p line.text) left)

          -- They agree: it is the first patch.
          pub agreed : Agrees p → Some (record { patch = p; text = line.text; used = length s - length left }) ≡ taken (read_first s)
          agreed agrees =
              let good : WellFormed p line.text = (fields_agree p line.text).1 (fields, agrees) in
              let first : read_first s ≡ reading_of p line.text =
              subst (λ (l : List ℕ). read_first l ≡ reading_of p line.text) (sym whole.bytes) (reads_back p line.text left good) in
              (λ d. Some (record { patch = p; text = line.text; used = used d }))
              ∙ sym (ap taken first ∙ taken_read p line.text good)

          -- They do not: any patch there would have the same fields.
          pub disagreed : (Agrees p → ⊥) → None ≡ taken (read_first s)
          disagreed wrong =
              ap taken (sym (not_read s (λ q text first.
              let parts = (fields_agree q text).0 first.0 in
              let here : patch_in s ≡ p =
              subst (λ (l : List ℕ). patch_in l ≡ p) (sym whole.bytes) (patch_back p line.text left fields) in
              let there : patch_in s ≡ q =
              subst (λ (l : List ℕ). patch_in l ≡ q) (stands_whole (patch_bytes q text) s first.1)
              (patch_back q text (drop (length (patch_bytes q text)) s) parts.0) in
              wrong (subst Agrees (sym there ∙ here) parts.1))))
