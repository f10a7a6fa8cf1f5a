-- The order of positions (01, 'Positions'; the report's definition 2).
-- Assumes nothing.
use Rattle.std.specs.Prelude.{ℕ, List, [], ◌∷◌, ◌≡◌}
use Rattle.std.specs.Ordering.{nat_cmp, ordering_then}
use Rattle.position.specs.declared.Identifier.{Identifier}
use Rattle.std.specs.declared.cmp.Ordering.{Ordering}
use Rattle.std.specs.declared.cmp.Ordering.TheVariants.{Less, Equal, Greater}

-- the first answer, unless it is `Equal`: then the rest decides
abbrev pub then_by : Ordering → Ordering → Ordering
then_by = ordering_then

-- numbers, as the library compares them
unfoldable pub number_order : ℕ → ℕ → Ordering
number_order = nat_cmp

-- "Identifiers are ordered by integer, then by site."
unfoldable pub identifier_order : Identifier → Identifier → Ordering
identifier_order i j = then_by (number_order i.integer j.integer) (number_order i.site j.site)

-- "The order looks at the first identifiers and, where these are equal, at the rest; a position
-- that runs out first is the smaller."
unfoldable pub order_of : List Identifier → List Identifier → Ordering
order_of [] [] = Equal
order_of [] (j ∷ js) = Less
order_of (i ∷ is) [] = Greater
order_of (i ∷ is) (j ∷ js) = then_by (identifier_order i j) (order_of is js)

-- p stands below q
infix 50 ◌≺◌
abbrev pub ◌≺◌ : List Identifier → List Identifier → Type 0
p ≺ q = order_of p q ≡ Less
