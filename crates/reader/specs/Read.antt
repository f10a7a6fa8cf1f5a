-- Reading a patch (01, 'Patch layout'): "The reader also takes the first patch off a longer run of bytes
-- and says how many bytes it used; refused, 0."
--
-- The patch that bytes would be is put together from what stands at each field's place, whatever it is;
-- it is what was read if it is well-formed and its own bytes are the first of those given.
-- Assumes nothing.
use Rattle.std.specs.Prelude.{ℕ, ◌+◌, ◌-◌, ◌*◌, cond, eqb, length, take, drop, get_or, set, replicate, Option, None, Some}
use Rattle.std.proofs.Math.Decide.{ℕ_discrete}
use Rattle.std.proofs.Math.Logic.{ite}
use Rattle.std.proofs.Math.Logic.Dec
use mathlib.Core.List.{List, [], ◌∷◌, List-discrete}
use Rattle.position.specs.Positions.{position_of}
use Rattle.rows.specs.Numbers.{num_at}
use Rattle.rows.specs.Rows.{Stands, filled, rows_of}
use Rattle.script.specs.Lines.{decode_identifier}
use Rattle.format.specs.declared.Edit.{Edit}
use Rattle.format.specs.declared.Edit.TheVariants.{Insert, Delete}
use Rattle.format.specs.declared.Entry.{Entry}
use Rattle.format.specs.declared.Patch.{Patch}
use Rattle.format.specs.Patches.{head_size, patch_bytes}
use Rattle.format.specs.WellFormed.{WellFormed}
use Rattle.format.proofs.Decided.{well_formed?}
use Rattle.reader.specs.declared.Reading.{Reading}

-- What stands in a section, a count byte and rows of this width, and what stands behind it.

abbrev pub rows_in {ℓ} : {A : Type ℓ} → (List ℕ → A) → ℕ → List ℕ → List A
rows_in decode width s = rows_of decode width (get_or s 0 0) (drop 1 s)

abbrev pub after_section : ℕ → List ℕ → List ℕ
after_section width s = drop (1 + get_or s 0 0 * width) s

-- The sections, each found behind the one before: Before, place, line.

abbrev pub before_in : List ℕ → List ℕ
before_in s = drop head_size s

abbrev pub place_in : List ℕ → List ℕ
place_in s = after_section 5 (before_in s)

abbrev pub line_in : List ℕ → List ℕ
line_in s = after_section 3 (place_in s)

unfoldable pub decode_entry : List ℕ → Entry
decode_entry s = record { site = get_or s 0 0; count = num_at 4 s 1 }

-- these counts with those of the entries put in
unfoldable pub entered : List ℕ → List Entry → List ℕ
entered counts [] = counts
entered counts (e ∷ entries) = entered (set counts (e.site - 1) e.count) entries

-- Before as sixteen counts, 0 where there is no entry
abbrev pub counts_in : List Entry → List ℕ
counts_in entries = entered (replicate 16 0) entries

-- the edit of a patch of this kind, and the text beside it
unfoldable pub edit_in : ℕ → List ℕ → Edit
edit_in kind line = cond (eqb kind 1) (Insert (get_or line 0 0)) (Delete (num_at 4 line 1))

unfoldable pub text_in : ℕ → List ℕ → List ℕ
text_in kind line = cond (eqb kind 1) (filled 48 (take (get_or line 0 0) (drop 1 line))) (replicate 48 0)

-- the patch that these bytes would be
unfoldable pub patch_in : List ℕ → Patch
patch_in s = record {
  author = get_or s 1 0;
  number = num_at 4 s 2;
  before = counts_in (rows_in decode_entry 5 (before_in s));
  place = position_of (rows_in decode_identifier 3 (place_in s));
  edit = edit_in (get_or s 0 0) (line_in s);
}

-- "A refused patch reading gives all zeros with an insert as the edit."
abbrev pub refused : Reading
refused = record {
  patch = record { author = 0; number = 0; before = replicate 16 0; place = position_of []; edit = Insert 0 };
  text = replicate 48 0;
  used = 0;
}

-- the first patch of these bytes is p: it is well-formed, and its bytes are the first
abbrev pub FirstIs : List ℕ → Patch → List ℕ → Type 0
FirstIs s p text = WellFormed p text × Stands (patch_bytes p text) s

abbrev pub first_is? : (s : List ℕ) (p : Patch) (text : List ℕ) → Dec (FirstIs s p text)
first_is? s p text = Dec.and (well_formed? p text) (List-discrete ℕ_discrete (take (length (patch_bytes p text)) s) (patch_bytes p text))

-- what reading p comes to
abbrev pub reading_of : Patch → List ℕ → Reading
reading_of p text = record { patch = p; text = text; used = length (patch_bytes p text) }

-- "the first patch off a longer run of bytes"
unfoldable pub read_first : List ℕ → Reading
read_first s =
    let p : Patch = patch_in s in
    let text : List ℕ = text_in (get_or s 0 0) (line_in s) in
    ite (first_is? s p text) (reading_of p text) refused

-- exactly one patch: "a byte left over [..] is malformed"
unfoldable pub read_one : List ℕ → Reading
read_one s = cond (eqb (read_first s).used (length s)) (read_first s) refused

-- what a caller is handed: a reading, where bytes were used; refused, none
abbrev pub taken : Reading → Option Reading
taken reading = cond (eqb reading.used 0) None (Some reading)

-- and what 01 has for it: "all zeros" where there is none
abbrev pub given : Option Reading → Reading
given None = refused
given (Some reading) = reading
