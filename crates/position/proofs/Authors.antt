-- A position that ends in a site, and one that does not end in the pad.
-- Assumes nothing.
use Prim.Native.Nat.{◌-◌, ◌≤◌}
use native.Mathlib.Omega.{arith}
use mathlib.Core.Path.{◌≡◌, ap}
use mathlib.Core.Logic.{⊎_elim}
use mathlib.Core.List.{List}
use lib.ListN.{length}
use Rattle.position.specs.declared.Identifier.{Identifier}
use Rattle.position.specs.Positions.{pad, last_of, author_of, LinePosition}

-- a list that ends in a site does not end in a pad
pub ends_unpadded : (l : List Identifier) → 1 ≤ author_of l → last_of l ≡ pad → ⊥
ends_unpadded l least e = omega (arith, ap (λ (i : Identifier). i.site) e)

-- a line's position does not end in the pad: so it ends in a site
pub author_least : (l : List Identifier) → LinePosition l → 1 ≤ author_of l
author_least l h =
    ⊎_elim (λ is-pad. absurd (h.unpadded is-pad)) (λ whole. whole.1)
    (h.proper (length l - 1) (omega (arith, h.least))).pad_or_whole
