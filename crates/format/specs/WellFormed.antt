-- When a patch is well-formed (01, 'Patch layout', with the ranges of 'Numbers that bound it'), section by
-- section, then the fields against each other, in the order of the document. "Anything else [..] is
-- malformed."
-- Assumes nothing.
use Rattle.std.specs.Prelude.{ℕ, ◌-◌, ◌≤◌, ◌<◌, ◌≡◌, List, length, get_or}
use Rattle.position.specs.Positions.{pad, ids_of, author_of, LinePosition}
use Rattle.record.specs.Records.{count_of, CountsFit}
use Rattle.format.specs.declared.Edit.{Edit}
use Rattle.format.specs.declared.Edit.TheVariants.{Insert, Delete}
use Rattle.format.specs.declared.Patch.{Patch}

-- "Patch number, per site: 1 to 1,000,000"
abbrev pub NumberFits : ℕ → Type 0
NumberFits n = (1 ≤ n) × (n ≤ 1000000)

-- "1. Head: [..] author (1), number (4)": "Site: 1 to 16"
pub record HeadFits (author number : ℕ) : Type 0 where
  pub author_least : 1 ≤ author
  pub author_most : author ≤ 16
  pub numbered : NumberFits number

-- "2. Before: 0 to 16 entries [..] counts 1 to 1,000,000": sixteen counts, 0 where there is no entry
pub record BeforeFits (counts : List ℕ) : Type 0 where
  pub size : length counts ≡ 16
  pub most : CountsFit counts

-- "Beside it stand 48 bytes of text, zero where unused": behind the first n
pub record TextFits (n : ℕ) (text : List ℕ) : Type 0 where
  pub size : length text ≡ 48
  pub unused : (j : ℕ) → n ≤ j → j < 48 → get_or text j 0 ≡ 0

-- "4. Line: for an insert the text, 0 to 48 bytes; for a delete [..] the number of the line struck",
-- which is that of a patch
abbrev pub LineFits : Edit → List ℕ → Type 0
LineFits (Insert n) text = (n ≤ 48) × TextFits n text
LineFits (Delete n) text = NumberFits n × TextFits 0 text

-- "An insert's place ends in its author's site. A delete's Before has an entry for the place's last
-- site, at least the line number."
abbrev pub EditAgrees : Patch → Edit → Type 0
EditAgrees p (Insert n) = author_of (ids_of p.place) ≡ p.author
EditAgrees p (Delete n) = (1 ≤ author_of (ids_of p.place)) × (n ≤ count_of p.before (author_of (ids_of p.place)))

-- a patch, with the text beside it
pub record WellFormed (p : Patch) (text : List ℕ) : Type 0 where
  -- 1. Head
  pub head : HeadFits p.author p.number
  -- 2. Before. "The author's own entry is number - 1, and is absent exactly when number is 1."
  pub before : BeforeFits p.before
  pub own_entry : count_of p.before p.author ≡ p.number - 1
  -- 3. Place: "1 to 8 identifiers", those of a line's position (01, 'Positions'); what is unused is the
  -- pad
  pub place : LinePosition (ids_of p.place)
  pub used : p.place.used ≤ 8
  pub identifiers : length p.place.ids ≡ 8
  pub unused : (j : ℕ) → p.place.used ≤ j → j < 8 → get_or p.place.ids j pad ≡ pad
  -- 4. Line
  pub line : LineFits p.edit text
  pub edit : EditAgrees p p.edit
