-- How a position is written: "its position as integer.site joined by commas" (01, 'Listing program').
-- Assumes nothing.
use Rattle.std.specs.Prelude.{ℕ, List, [], ◌∷◌, ◌++◌}
use Rattle.std.specs.Fmt.{decimal}
use Rattle.std.specs.List.{flat_map}
use Rattle.position.specs.declared.Identifier.{Identifier}

-- a number in decimal, a dot, a number in decimal
abbrev pub identifier_text : Identifier → List ℕ
identifier_text i = decimal i.integer ++ (46 ∷ decimal i.site)

-- an identifier that is not the first, behind its comma
abbrev pub next_text : Identifier → List ℕ
next_text i = 44 ∷ identifier_text i

abbrev pub position_text : List Identifier → List ℕ
position_text [] = []
position_text (i ∷ is) = identifier_text i ++ flat_map next_text is
