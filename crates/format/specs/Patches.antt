-- The bytes of a patch (01, 'Patch layout'): "Sections in a fixed order, each of the last three after
-- its count byte". Numbers have the high byte first.
-- Assumes nothing.
use Rattle.std.specs.Prelude.{ℕ, zero, suc, ◌+◌, ◌*◌, List, [], ◌∷◌, ◌++◌, length, take}
use Rattle.position.specs.declared.Identifier.{Identifier}
use Rattle.position.specs.Positions.{ids_of}
use Rattle.rows.specs.Numbers.{bytes_of}
use Rattle.rows.specs.Rows.{flat}
use Rattle.script.specs.Lines.{encode_identifier}
use Rattle.format.specs.declared.Edit.{Edit}
use Rattle.format.specs.declared.Edit.TheVariants.{Insert, Delete}
use Rattle.format.specs.declared.Entry.{Entry}
use Rattle.format.specs.declared.Patch.{Patch}

-- a section: its count byte, then its bytes
abbrev pub section : ℕ → List ℕ → List ℕ
section count bytes = bytes_of 1 count ++ bytes

-- "1. Head: kind (1 insert, 2 delete), author (1), number (4)."
abbrev pub kind_of : Edit → ℕ
kind_of (Insert n) = 1
kind_of (Delete n) = 2

unfoldable pub head_bytes : ℕ → ℕ → ℕ → List ℕ
head_bytes kind author number = bytes_of 1 kind ++ (bytes_of 1 author ++ bytes_of 4 number)

-- "2. Before: 0 to 16 entries of site (1) and count (4)"
unfoldable pub encode_entry : Entry → List ℕ
encode_entry e = bytes_of 1 e.site ++ bytes_of 4 e.count

-- "sites rising strictly", "all its counts that aren't zero": the entries of the counts from this site
-- on
unfoldable pub entries_from : ℕ → List ℕ → List Entry
entries_from site [] = []
entries_from site (zero ∷ counts) = entries_from (suc site) counts
entries_from site (suc n ∷ counts) = record { site = site; count = suc n } ∷ entries_from (suc site) counts

unfoldable pub before_bytes : List ℕ → List ℕ
before_bytes counts =
    let entries : List Entry = entries_from 1 counts in
    section (length entries) (flat encode_entry entries)

-- "3. Place: 1 to 8 identifiers."
unfoldable pub place_bytes : List Identifier → List ℕ
place_bytes ids = section (length ids) (flat encode_identifier ids)

-- "4. Line: for an insert the text, 0 to 48 bytes; for a delete always 4 bytes, the number of the
-- line struck."
abbrev pub line_of : Edit → List ℕ → List ℕ
line_of (Insert n) text = take n text
line_of (Delete n) text = bytes_of 4 n

unfoldable pub line_bytes : Edit → List ℕ → List ℕ
line_bytes edit text = section (length (line_of edit text)) (line_of edit text)

-- a patch, with the 48 bytes of text that stand beside it
unfoldable pub patch_bytes : Patch → List ℕ → List ℕ
patch_bytes p text =
    head_bytes (kind_of p.edit) p.author p.number ++
    (before_bytes p.before ++
    (place_bytes (ids_of p.place) ++
    line_bytes p.edit text))

-- How many bytes: the head has 6; each section has its count byte, then entries of 5 bytes, identifiers
-- of 3, or the line's.
abbrev pub head_size : ℕ
head_size = 6

abbrev pub before_most : ℕ
before_most = 1 + 16 * 5

abbrev pub place_most : ℕ
place_most = 1 + 8 * 3

abbrev pub line_most : ℕ
line_most = 1 + 48

-- "Patch: 12 to 161 bytes": at least no entry, one identifier, no text
abbrev pub least_size : ℕ
least_size = head_size + (1 + ((1 + 3) + 1))

abbrev pub most_size : ℕ
most_size = head_size + (before_most + (place_most + line_most))
