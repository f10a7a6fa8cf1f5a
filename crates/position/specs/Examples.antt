-- P1 to P11 of 01's 'Examples on both sides', as one table under one statement: `Holds` says what a
-- case says, `cases` is the table. That every case holds is proofs/Examples.antt.
-- Assumes nothing.
use Rattle.std.specs.Prelude.{ℕ, ◌+◌, ◌-◌, ◌%◌, ◌≡◌, List, [], ◌∷◌, replicate}
use Rattle.std.proofs.Math.Option.{none, some}
use Rattle.position.specs.declared.Identifier.{Identifier}
use Rattle.std.specs.declared.cmp.Ordering.{Ordering}
use Rattle.std.specs.declared.cmp.Ordering.TheVariants.{Less}
use Rattle.position.specs.Positions.{identifier, pad, begin, end}
use Rattle.position.specs.Order.{order_of}
use Rattle.position.specs.Rule.{followed_by}
use Rattle.position.specs.Place.{place_of}

pub data Case : Type 0 where
  -- p against q
  against : List Identifier → List Identifier → Ordering → Case
  -- between p and q for site s: this front, then x from lo to last
  run : List Identifier → List Identifier → ℕ → List Identifier → ℕ → ℕ → Case
  -- between p and q for site s: this draw gives this place
  drawn : List Identifier → List Identifier → ℕ → ℕ → List Identifier → Case
  -- between p and q for site s: answer 12
  nowhere : List Identifier → List Identifier → ℕ → Case

-- What a case says. A run is stated for every draw, and so is that there is no place; a single place
-- is a run from x to x.
abbrev pub Holds : Case → Type 0
Holds (against p q order) = order_of p q ≡ order
Holds (run p q s front lo last) = (draw : ℕ) → place_of p q s draw ≡ some (followed_by front (lo + draw % (last + 1 - lo)) s)
Holds (drawn p q s draw place) = place_of p q s draw ≡ some place
Holds (nowhere p q s) = (draw : ℕ) → place_of p q s draw ≡ none

-- 01's (x,s)
infix 80 ◌#◌
abbrev pub ◌#◌ : ℕ → ℕ → Identifier
x # s = identifier x s

-- the neighbours of P6, P7 and P8
abbrev pub p6 : List Identifier
p6 = 5 # 1 ∷ 1 # 6 ∷ 10 # 2 ∷ []

abbrev pub q6 : List Identifier
q6 = 5 # 1 ∷ 2 # 1 ∷ 15 # 2 ∷ []

-- P1 to P11 in their order; P4 has a run and a draw
abbrev pub cases : List Case
cases =
    against (2 # 4 ∷ 9 # 9 ∷ []) (2 # 5 ∷ []) Less ∷
    against (2 # 4 ∷ []) (2 # 4 ∷ 1 # 1 ∷ []) Less ∷
    run begin end 3 [] 1 65534 ∷
    run (2 # 4 ∷ []) (10 # 5 ∷ []) 4 [] 3 10 ∷
    drawn (2 # 4 ∷ []) (10 # 5 ∷ []) 4 9 (4 # 4 ∷ []) ∷
    run (2 # 4 ∷ []) (10 # 5 ∷ []) 5 [] 2 9 ∷
    run p6 q6 7 (5 # 1 ∷ []) 1 1 ∷
    run p6 q6 1 (5 # 1 ∷ []) 2 2 ∷
    run p6 q6 6 (5 # 1 ∷ 1 # 6 ∷ []) 10 65535 ∷
    run (2 # 4 ∷ []) (2 # 4 ∷ 1 # 3 ∷ []) 2 (2 # 4 ∷ []) 1 1 ∷
    run (2 # 4 ∷ []) (2 # 4 ∷ 1 # 3 ∷ []) 5 (2 # 4 ∷ pad ∷ []) 1 65535 ∷
    nowhere (5 # 3 ∷ replicate 7 (65535 # 9)) (5 # 4 ∷ 9 # 3 ∷ []) 2 ∷
    []
