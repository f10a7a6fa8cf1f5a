-- What the steps of reading mean: one sentence for every field, every section and the patch before its
-- fields are held against each other. `read_first` promises what specs/Read.antt says and nothing of
-- this: the steps are tied to it in proofs/.
-- Assumes nothing.
use Rattle.std.specs.Prelude.{ℕ, suc, ◌≤◌, ◌≡◌, List, ◌++◌, Option, None, Some}
use Rattle.position.specs.declared.Position.{Position}
use Rattle.position.specs.Positions.{ids_of}
use Rattle.rows.specs.Numbers.{bytes_of}
use Rattle.format.specs.declared.Entry.{Entry}
use Rattle.format.specs.declared.Kind.{Kind}
use Rattle.format.specs.Kinds.{kind_byte}
use Rattle.format.specs.Patches.{kind_of, head_bytes, place_bytes, line_bytes}
use Rattle.format.specs.WellFormed.{NumberFits, LineFits}
use Rattle.format.specs.WellFormed.{HeadFits as AuthorAndNumber}
use Rattle.reader.specs.declared.cursor.Field.{Field}
use Rattle.reader.specs.declared.cursor.Head.{Head}
use Rattle.reader.specs.declared.cursor.Line.{Line}

-- The bytes s are those of the value v, which fits, and behind them what is left.
pub record Found {A : Type 0} (encode : A → List ℕ) (Fits : A → Type 0) (s : List ℕ) (v : A) (left : List ℕ) : Type 0 where
  pub fits : Fits v
  pub bytes : s ≡ encode v ++ left

-- They are those of no value that fits, whatever is left.
pub record Missing {A : Type 0} (encode : A → List ℕ) (Fits : A → Type 0) (s : List ℕ) : Type 0 where
  pub none : (v : A) (left : List ℕ) → Found encode Fits s v left → ⊥

-- Reading at a spot where these bytes are left: a value is found and the spot is behind it, or none is there.
abbrev pub Reads : {A : Type 0} → (A → List ℕ) → (A → Type 0) → List ℕ → Option (Field A) → Type 0
Reads encode Fits s (Some f) = Found encode Fits s f.value f.next.rest.now
Reads encode Fits s None = Missing encode Fits s

-- What is read: the bytes of a value, and what fits.

abbrev pub Within : ℕ → ℕ → ℕ → Type 0
Within least most v = (least ≤ v) × (v ≤ most)

abbrev pub encode_kind : Kind → List ℕ
encode_kind kind = bytes_of 1 (kind_byte kind)

abbrev pub AnyKind : Kind → Type 0
AnyKind kind = Unit {0}

abbrev pub encode_head : Head → List ℕ
encode_head h = head_bytes (kind_byte h.kind) h.author h.number

abbrev pub HeadFits : Head → Type 0
HeadFits h = AuthorAndNumber h.author h.number

-- "sites rising strictly"
abbrev pub EntryAbove : ℕ → Entry → Type 0
EntryAbove last e = Within (suc last) 16 e.site × NumberFits e.count

abbrev pub encode_place : Position → List ℕ
encode_place p = place_bytes (ids_of p)

abbrev pub encode_line : Line → List ℕ
encode_line l = line_bytes l.edit l.text

abbrev pub LineOfKind : Kind → Line → Type 0
LineOfKind kind l = (kind_of l.edit ≡ kind_byte kind) × LineFits l.edit l.text
