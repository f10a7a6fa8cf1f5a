-- How many bytes a patch has: of each section, and of the whole, 12 to 161.
-- Assumes nothing.
use Prim.Native.Nat.{ℕ, zero, suc, ◌+◌, ◌*◌, ◌≤◌}
use native.Mathlib.Omega.{arith}
use mathlib.Core.Path.{◌≡◌}
use mathlib.Core.List.{List, [], ◌∷◌}
use lib.ListN.{length, length-append, length-take}
use Rattle.position.specs.declared.Identifier.{Identifier}
use Rattle.position.specs.Positions.{ids_of}
use Rattle.rows.proofs.Digits.{bytes_length}
use Rattle.rows.proofs.Slots.{flat_length}
use Rattle.script.specs.Lines.{encode_identifier}
use Rattle.script.proofs.Encoded.{identifier_length}
use Rattle.format.specs.declared.Edit.{Edit}
use Rattle.format.specs.declared.Edit.TheVariants.{Insert, Delete}
use Rattle.format.specs.declared.Entry.{Entry}
use Rattle.format.specs.declared.Patch.{Patch}
use Rattle.format.specs.Patches.{section, head_bytes, encode_entry, entries_from, before_bytes, place_bytes, line_of, line_bytes}
use Rattle.format.specs.Patches.{patch_bytes, head_size, least_size, most_size}
use Rattle.format.specs.WellFormed.{LineFits, WellFormed}

-- the head: kind, author, number
pub head_length : (kind author number : ℕ) → length (head_bytes kind author number) ≡ head_size
unfolding head_bytes
head_length kind author number = simp (length-append, bytes_length)

-- a section has its count byte and its bytes
pub section_length : (count : ℕ) (bytes : List ℕ) → length (section count bytes) ≡ 1 + length bytes
section_length count bytes = simp (length-append, bytes_length)

-- an entry of Before: site and count
pub entry_length : (e : Entry) → length (encode_entry e) ≡ 5
unfolding encode_entry
entry_length e = simp (length-append, bytes_length)

-- at most one entry for each count
pub entries_most : (site : ℕ) (counts : List ℕ) → length (entries_from site counts) ≤ length counts
unfolding entries_from
entries_most site [] = omega arith
entries_most site (zero ∷ counts) = omega (arith, entries_most (suc site) counts)
entries_most site (suc n ∷ counts) = omega (arith, entries_most (suc site) counts)

-- Before: its entries, 5 bytes each
pub before_length : (counts : List ℕ) → length (before_bytes counts) ≡ 1 + length (entries_from 1 counts) * 5
unfolding before_bytes
before_length counts = rw (section_length, flat_length encode_entry 5 entry_length)

-- Place: its identifiers, 3 bytes each
pub place_length : (ids : List Identifier) → length (place_bytes ids) ≡ 1 + length ids * 3
unfolding place_bytes
place_length ids = rw (section_length, flat_length encode_identifier 3 identifier_length)

-- Line: the text, or the number of the line struck
line_length : (e : Edit) (text : List ℕ) → length (line_bytes e text) ≡ 1 + length (line_of e text)
unfolding line_bytes
line_length e text = section_length (length (line_of e text)) (line_of e text)

-- a line that fits has at most 48 bytes
line_most_lem : (e : Edit) (text : List ℕ) → LineFits e text → length (line_of e text) ≤ 48
line_most_lem (Insert n) text fits = omega (arith, length-take n text, fits.0)
line_most_lem (Delete n) text fits = omega (arith, bytes_length 4 n)

-- the sections behind one another
patch_length : (p : Patch) (text : List ℕ) → length (patch_bytes p text)
    ≡ head_size + ((1 + length (entries_from 1 p.before) * 5) + ((1 + length (ids_of p.place) * 3) + (1 + length (line_of p.edit text))))
unfolding patch_bytes
patch_length p text =
    rw (length-append, length-append, length-append, head_length, before_length, place_length, line_length)

-- "Patch: 12 to 161 bytes"
pub sizes : (p : Patch) (text : List ℕ) → WellFormed p text
    → (least_size ≤ length (patch_bytes p text)) × (length (patch_bytes p text) ≤ most_size)
sizes p text h =
    let whole = patch_length p text in
    let entries = entries_most 1 p.before in
    let line = line_most_lem p.edit text h.line in
    (omega (arith, whole, h.place.least), omega (arith, whole, h.before.size, h.place.most))
