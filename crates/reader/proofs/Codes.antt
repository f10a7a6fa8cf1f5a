-- Values and their bytes: where bytes begin with those of a value that fits, they tell it, and what is left behind
-- it. Of the fields of a patch, of one thing behind another, and of a value told otherwise.
-- Assumes nothing.
use Prim.Native.Nat.{ℕ, ◌<◌}
use native.Mathlib.Nat.{mod-eq_of_lt}
use native.Mathlib.Omega.{arith}
use mathlib.Core.Path.{◌≡◌, refl, sym, ap, subst, ◌∙◌}
use mathlib.Core.List.{List, [], ◌∷◌, ◌++◌, append_assoc}
use lib.ListN.{length, drop}
use lib.Seq.{drop_at}
use Rattle.position.specs.Positions.{Proper}
use Rattle.rows.specs.Numbers.{num_at, bytes_of}
use Rattle.rows.proofs.Digits.{bytes_length, num_back}
use Rattle.script.specs.Lines.{encode_identifier, decode_identifier}
use Rattle.script.proofs.Encoded.{identifier_length, identifier_back}
use Rattle.format.specs.declared.Kind.{Kind}
use Rattle.format.specs.declared.Kind.TheVariants.{Insert, Delete}
use Rattle.format.specs.Kinds.{kind_byte}
use Rattle.format.specs.WellFormed.{NumberFits}
use Rattle.reader.specs.Steps.{Within, encode_kind, AnyKind}

-- Bytes begin with those of at most one value that fits.
pub record Unique {A : Type 0} (encode : A → List ℕ) (Fits : A → Type 0) : Type 0 where
  pub only : (v w : A) (s t : List ℕ) → Fits v → Fits w → encode v ++ s ≡ encode w ++ t → (v ≡ w) × (s ≡ t)

-- A field: all have n bytes, and one that fits is read back from its bytes.
pub record Fixed {A : Type 0} (encode : A → List ℕ) (decode : List ℕ → A) (Fits : A → Type 0) (n : ℕ) : Type 0 where
  pub width : (v : A) → length (encode v) ≡ n
  pub back : (v : A) → Fits v → (rest : List ℕ) → decode (encode v ++ rest) ≡ v

-- so bytes begin with at most one
unique_fixed : {A : Type 0} {encode : A → List ℕ} {decode : List ℕ → A} {Fits : A → Type 0} {n : ℕ}
    → Fixed encode decode Fits n → Unique encode Fits
unique_fixed {encode = encode} {decode} {n = n} field =
    record {
      only = λ v w s t fits-v fits-w e. (
        sym (field.back v fits-v s) ∙ ap decode e ∙ field.back w fits-w t,
        sym (drop_at (encode v) s n (field.width v)) ∙ ap (drop n) e ∙ drop_at (encode w) t n (field.width w),
      );
    }

-- The fields of a patch: a byte, a patch's number or a count, an identifier, a kind.

-- a byte's own bytes
pub byte_is : (v : ℕ) → v < 256 → bytes_of 1 v ≡ v ∷ []
unfolding bytes_of
byte_is v h = ap (λ (n : ℕ). n ∷ []) (mod-eq_of_lt h)

pub byte_field : (least most : ℕ) → most < 256 → Fixed (bytes_of 1) (λ s. num_at 1 s 0) (Within least most) 1
byte_field least most small =
    record { width = bytes_length 1; back = λ v fits rest. num_back 1 v rest (omega (arith, fits.1)) }

pub count_field : Fixed (bytes_of 4) (λ s. num_at 4 s 0) NumberFits 4
count_field = record { width = bytes_length 4; back = λ v fits rest. num_back 4 v rest (omega (arith, fits.1)) }

pub identifier_field : Fixed encode_identifier decode_identifier Proper 3
identifier_field =
    record {
      width = identifier_length;
      back = λ i proper rest. identifier_back i (record { integer = omega arith; site = omega arith }) rest;
    }

pub unique_byte : (least most : ℕ) → most < 256 → Unique (bytes_of 1) (Within least most)
unique_byte least most small = unique_fixed (byte_field least most small)

pub unique_count : Unique (bytes_of 4) NumberFits
unique_count = unique_fixed count_field

pub unique_identifier : Unique encode_identifier Proper
unique_identifier = unique_fixed identifier_field

-- a kind is told by its number
same_kind : (k l : Kind) → kind_byte k ≡ kind_byte l → k ≡ l
same_kind Insert Insert e = refl
same_kind Insert Delete e = absurd (omega (arith, e))
same_kind Delete Insert e = absurd (omega (arith, e))
same_kind Delete Delete e = refl

pub kind_within : (k : Kind) → Within 1 2 (kind_byte k)
kind_within Insert = (omega arith, omega arith)
kind_within Delete = (omega arith, omega arith)

pub unique_kind : Unique encode_kind AnyKind
unique_kind =
    record {
      only = λ k l s t _ _ e.
          let bytes = (unique_byte 1 2 (omega arith)).only (kind_byte k) (kind_byte l) s t (kind_within k) (kind_within l) e in
          (same_kind k l bytes.0, bytes.1);
    }

-- One thing behind another: what may follow the first depends on it.

abbrev pub encode_both : {A B : Type 0} → (A → List ℕ) → (A → B → List ℕ) → A × B → List ℕ
encode_both encodeA encodeB p = encodeA p.0 ++ encodeB p.0 p.1

abbrev pub FitBoth : {A B : Type 0} → (A → Type 0) → (A → B → Type 0) → A × B → Type 0
FitBoth FitsA FitsB p = FitsA p.0 × FitsB p.0 p.1

-- the first is told by the bytes, and the second by those behind it
pub unique_both : {A B : Type 0} {encodeA : A → List ℕ} {FitsA : A → Type 0} → Unique encodeA FitsA
    → (encodeB : A → B → List ℕ) (FitsB : A → B → Type 0) → ((a : A) → FitsA a → Unique (encodeB a) (FitsB a))
    → Unique (encode_both encodeA encodeB) (FitBoth FitsA FitsB)
unique_both {A} {encodeA} first encodeB FitsB second =
    record {
      only = λ v w s t fits-v fits-w e.
          let behind-v = encodeB v.0 v.1 in
          let behind-w = encodeB w.0 w.1 in
          let one =
          first.only v.0 w.0 (behind-v ++ s) (behind-w ++ t) fits-v.0 fits-w.0
          (sym (append_assoc (encodeA v.0) behind-v s) ∙ e ∙ append_assoc (encodeA w.0) behind-w t) in
          let other =
          subst (λ (a : A). FitsB a w.1 × (behind-v ++ s ≡ encodeB a w.1 ++ t)) (sym one.0) (fits-w.1, one.1) in
          let two = (second v.0 fits-v.0).only v.1 w.1 s t fits-v.1 other.0 other.1 in
          (λ i. (one.0 i, two.0 i), two.1);
    }

-- A value told otherwise, as a pair and as a struct: it fits as one where it fits as the other, and has the
-- same bytes.
pub record Retold {A B : Type 0} (to : A → B) (from : B → A) (encodeA : A → List ℕ) (FitsA : A → Type 0)
    (encodeB : B → List ℕ) (FitsB : B → Type 0) : Type 0 where
  pub fits_to : (a : A) → FitsA a → FitsB (to a)
  pub fits_from : (b : B) → FitsB b → FitsA (from b)
  pub back : (b : B) → FitsB b → to (from b) ≡ b
  pub bytes : (a : A) → FitsA a → encodeB (to a) ≡ encodeA a

module _ {A B : Type 0} {to : A → B} {from : B → A} {encodeA : A → List ℕ} {FitsA : A → Type 0}
    {encodeB : B → List ℕ} {FitsB : B → Type 0} (told : Retold to from encodeA FitsA encodeB FitsB) where
  pub bytes_from : (b : B) → FitsB b → encodeB b ≡ encodeA (from b)
  bytes_from b fits = ap encodeB (sym (told.back b fits)) ∙ told.bytes (from b) (told.fits_from b fits)

  -- it is told by the bytes as one where it is as the other
  pub unique_retold : Unique encodeA FitsA → Unique encodeB FitsB
  unique_retold unique =
      record {
        only = λ v w s t fits-v fits-w e.
            let same =
            unique.only (from v) (from w) s t (told.fits_from v fits-v) (told.fits_from w fits-w)
            (ap (λ (l : List ℕ). l ++ s) (sym (bytes_from v fits-v)) ∙ e ∙ ap (λ (l : List ℕ). l ++ t) (bytes_from w fits-w)) in
            (sym (told.back v fits-v) ∙ ap to same.0 ∙ told.back w fits-w, same.1);
      }
