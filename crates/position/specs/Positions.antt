-- Identifiers and positions (01, 'Positions'; the report's definition 1).
--
-- A position is read as the list of its identifiers; each list of at most 8 has one value of the
-- struct `Position`, in which what is unused is the pad. Any other value is read too: by the
-- identifiers that its `used` counts, at most the 8 that there are.
-- Assumes nothing.
use Rattle.std.specs.Prelude.{ℕ, ◌-◌, ◌≤◌, ◌<◌, ◌≡◌, ◌⊎◌, List, [], ◌∷◌, ◌++◌, length, take, replicate, get_or}
use Rattle.position.specs.declared.Identifier.{Identifier}
use Rattle.position.specs.declared.Position.{Position}

-- "An identifier is (integer, site)."
abbrev pub identifier : ℕ → ℕ → Identifier
identifier x s = record { integer = x; site = s }

-- "the pad (0,0)"
abbrev pub pad : Identifier
pad = identifier 0 0

-- "begin is (0,0) and end is (65535,0)"
abbrev pub begin : List Identifier
begin = pad ∷ []

abbrev pub end : List Identifier
end = identifier 65535 0 ∷ []

-- the identifiers of a position
abbrev pub ids_of : Position → List Identifier
ids_of p = take p.used p.ids

-- the one value of a list of at most 8 identifiers: what is unused is the pad
abbrev pub position_of : List Identifier → Position
position_of l = record { used = length l; ids = l ++ replicate (8 - length l) pad }

-- "An identifier [..] is either the pad (0,0) or has both parts at least 1": with 01's ranges
pub record Proper (i : Identifier) : Type 0 where
  pub pad_or_whole : (i ≡ pad) ⊎ ((1 ≤ i.integer) × (1 ≤ i.site))
  pub integer : i.integer ≤ 65535
  pub site : i.site ≤ 16

-- the identifier at the end
abbrev pub last_of : List Identifier → Identifier
last_of l = get_or l (length l - 1) pad

-- "The last site in the position is its author."
abbrev pub author_of : List Identifier → ℕ
author_of l = (last_of l).site

-- "Identifiers in a position: 1 to 8." "A line's position does not end in a pad, and its first
-- integer is at most 65,534."
pub record LinePosition (l : List Identifier) : Type 0 where
  pub least : 1 ≤ length l
  pub most : length l ≤ 8
  pub proper : (k : ℕ) → k < length l → Proper (get_or l k pad)
  pub unpadded : last_of l ≡ pad → ⊥
  pub first : (get_or l 0 pad).integer ≤ 65534

-- "between neighbours P and Q [..], either of which may be an end"
pub data Neighbour (l : List Identifier) : Type 0 where
  a_line : LinePosition l → Neighbour l
  the_begin : l ≡ begin → Neighbour l
  the_end : l ≡ end → Neighbour l
