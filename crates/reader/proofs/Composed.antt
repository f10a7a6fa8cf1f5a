-- How reading is put together: a field and its test, one thing behind another, a value told otherwise; of each, where it
-- is found, and where none is there.
-- Assumes nothing.
use Prim.Native.Nat.{ℕ, ◌<◌}
use native.Mathlib.Omega.{arith}
use mathlib.Core.Path.{◌≡◌, refl, sym, ap, subst, ◌∙◌}
use mathlib.Core.Bool.{Bool, true, false}
use mathlib.Core.List.{List, [], ◌∷◌, ◌++◌, append-nil, append_assoc}
use lib.ListN.{length, take, drop, get_or, length-append, take-append-drop}
use lib.Seq.{take_at}
use Rattle.std.specs.Prelude.{Option, Some, None}
use Rattle.std.specs.Bool.{then_some}
use Rattle.rows.specs.Numbers.{bytes_of}
use Rattle.format.specs.declared.Kind.{Kind}
use Rattle.format.specs.Kinds.{kind_byte}
use Rattle.reader.specs.Steps.{Found, Missing, Within, encode_kind, AnyKind}
use Rattle.reader.proofs.Codes.{Unique, Fixed, byte_is, kind_within, encode_both, FitBoth, Retold, bytes_from}

-- bytes cut in two
pub cut : (n : ℕ) (s : List ℕ) {front back : List ℕ} → front ≡ take n s → back ≡ drop n s → s ≡ front ++ back
cut n s front back = sym (take-append-drop n s) ∙ (λ d. sym front d ++ sym back d)

-- what is handed out where a test says so
pub handed : {A : Type 0} (P : Option A → Type 0) (b : Bool) {x : A} {r : Option A} → r ≡ then_some b x
    → (b ≡ true → P (Some x)) → (b ≡ false → P None) → P r
handed P true e yes-so not-so = subst P (sym e) (yes-so refl)
handed P false e yes-so not-so = subst P (sym e) (not-so refl)

-- fewer bytes than a value that fits has are those of none
pub too_short : {A : Type 0} {encode : A → List ℕ} {Fits : A → Type 0} {s : List ℕ} (n : ℕ)
    → ((v : A) → Fits v → length (encode v) ≡ n) → length s < n → Missing encode Fits s
too_short {encode = encode} n width short =
    record {
      none = λ v left found.
          omega (arith, ap length found.bytes, length-append (encode v) left, width v found.fits, short);
    }

-- the field that the first bytes are read as does not fit: so none does
pub unfit : {A : Type 0} {encode : A → List ℕ} {decode : List ℕ → A} {Fits : A → Type 0} {n : ℕ}
    → Fixed encode decode Fits n → {s bytes : List ℕ} {v : A} → bytes ≡ take n s → v ≡ decode bytes → (Fits v → ⊥)
    → Missing encode Fits s
unfit {encode = encode} {decode} {Fits} {n} field first read wrong =
    record {
      none = λ w left found.
          let own = encode w in
          let whole = first ∙ ap (take n) found.bytes ∙ take_at own left n (field.width w) ∙ sym (append-nil own) in
          wrong (subst Fits (sym (read ∙ ap decode whole ∙ field.back w found.fits [])) found.fits);
    }

-- A byte that stands in front.
module _ {s rest : List ℕ} {v : ℕ} (here : s ≡ v ∷ rest) where
  own_byte : (w : ℕ) → w < 256 → w ≡ v → s ≡ bytes_of 1 w ++ rest
  own_byte w small same = here ∙ (λ d. sym same d ∷ rest) ∙ ap (λ (l : List ℕ). l ++ rest) (sym (byte_is w small))

  -- no other does
  same_byte : (w : ℕ) (left : List ℕ) → w < 256 → s ≡ bytes_of 1 w ++ left → w ≡ v
  same_byte w left small bytes =
      ap (λ (l : List ℕ). get_or l 0 0)
      (ap (λ (l : List ℕ). l ++ left) (sym (byte_is w small)) ∙ sym bytes ∙ here)

  -- one in a range
  module _ (least most : ℕ) (small : most < 256) where
    pub byte_found : Within least most v → Found (bytes_of 1) (Within least most) s v rest
    byte_found fits = record { fits = fits; bytes = own_byte v (omega (arith, fits.1)) refl }

    pub byte_unfit : (Within least most v → ⊥) → Missing (bytes_of 1) (Within least most) s
    byte_unfit wrong =
        record {
          none = λ w left found.
              wrong (subst (Within least most) (same_byte w left (omega (arith, found.fits.1)) found.bytes) found.fits);
        }

  -- a kind
  pub kind_found : (k : Kind) → kind_byte k ≡ v → Found encode_kind AnyKind s k rest
  kind_found k same = record { fits = tt; bytes = own_byte (kind_byte k) (omega (arith, (kind_within k).1)) same }

  pub kind_unfit : ((k : Kind) → kind_byte k ≡ v → ⊥) → Missing encode_kind AnyKind s
  kind_unfit wrong =
      record {
        none = λ k left found.
            wrong k (same_byte (kind_byte k) left (omega (arith, (kind_within k).1)) found.bytes);
      }

-- One thing behind another.
module _ {A B : Type 0} {encodeA : A → List ℕ} {FitsA : A → Type 0} (encodeB : A → B → List ℕ) (FitsB : A → B → Type 0)
    {s : List ℕ} where
  pub found_both : {a : A} {b : B} {t u : List ℕ} → Found encodeA FitsA s a t → Found (encodeB a) (FitsB a) t b u
      → Found (encode_both encodeA encodeB) (FitBoth FitsA FitsB) s (a, b) u
  found_both {a} {b} {u = u} first second =
      record {
        fits = (first.fits, second.fits);
        bytes =
            first.bytes ∙ ap (λ (l : List ℕ). encodeA a ++ l) second.bytes
            ∙ sym (append_assoc (encodeA a) (encodeB a b) u);
      }

  -- the first is not there
  pub missing_first : Missing encodeA FitsA s → Missing (encode_both encodeA encodeB) (FitBoth FitsA FitsB) s
  missing_first missing =
      record {
        none = λ p left found.
            missing.none p.0 (encodeB p.0 p.1 ++ left)
            (record {
              fits = found.fits.0;
              bytes = found.bytes ∙ append_assoc (encodeA p.0) (encodeB p.0 p.1) left;
            });
      }

  -- the second is not, behind the first
  pub missing_second : {a : A} {t : List ℕ} → Unique encodeA FitsA → Found encodeA FitsA s a t
      → Missing (encodeB a) (FitsB a) t → Missing (encode_both encodeA encodeB) (FitBoth FitsA FitsB) s
  missing_second {a} {t} unique first missing =
      record {
        none = λ p left found.
            let behind = encodeB p.0 p.1 ++ left in
            let same =
            unique.only p.0 a behind t found.fits.0 first.fits
            (sym (append_assoc (encodeA p.0) (encodeB p.0 p.1) left) ∙ sym found.bytes ∙ first.bytes) in
            let second : Found (encodeB p.0) (FitsB p.0) t p.1 left = record { fits = found.fits.1; bytes = sym same.1 } in
            missing.none p.1 left (subst (λ (x : A). Found (encodeB x) (FitsB x) t p.1 left) same.0 second);
      }

-- A value told otherwise.
module _ {A B : Type 0} {to : A → B} {from : B → A} {encodeA : A → List ℕ} {FitsA : A → Type 0}
    {encodeB : B → List ℕ} {FitsB : B → Type 0} (told : Retold to from encodeA FitsA encodeB FitsB) {s : List ℕ} where
  pub found_retold : {a : A} {left : List ℕ} → Found encodeA FitsA s a left → Found encodeB FitsB s (to a) left
  found_retold {a} {left} found =
      record {
        fits = told.fits_to a found.fits;
        bytes = found.bytes ∙ ap (λ (l : List ℕ). l ++ left) (sym (told.bytes a found.fits));
      }

  pub missing_retold : Missing encodeA FitsA s → Missing encodeB FitsB s
  missing_retold missing =
      record {
        none = λ b left found.
            missing.none (from b) left
            (record {
              fits = told.fits_from b found.fits;
              bytes = found.bytes ∙ ap (λ (l : List ℕ). l ++ left) (bytes_from told b found.fits);
            });
      }
