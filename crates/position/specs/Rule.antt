-- The rule for a new place, as 01's 'A new place' states it (the report's definition 3, completed).
-- It knows no algorithm, and asks neither that P stands below Q nor that the two are sound.
-- Place.antt computes it; that the two agree, in both directions, is proofs/Made.antt.
-- Assumes nothing.
use Rattle.std.specs.Prelude.{ℕ, ◌+◌, ◌-◌, ◌%◌, ◌≤◌, ◌<◌, ◌≡◌, ◌↔◌, List, [], ◌∷◌, ◌++◌, length, take, replicate}
use Rattle.position.specs.declared.Identifier.{Identifier}
use Rattle.position.specs.Positions.{identifier, pad}
use Rattle.position.specs.Order.{◌≺◌}

-- "its first d-1 identifiers those of P, continued by pads where P is shorter": the first n
unfoldable pub padded : List Identifier → ℕ → List Identifier
padded p n = take n p ++ replicate (n - length p) pad

-- "then (x, s)"
abbrev pub followed_by : List Identifier → ℕ → ℕ → List Identifier
followed_by front x s = front ++ (identifier x s ∷ [])

-- "A candidate of length d has as its first d-1 identifiers those of P, continued by pads where P
-- is shorter, then (x, s) with x from 1 to 65,535; it lies strictly between P and Q."
abbrev pub of_length : ℕ → List Identifier → ℕ → ℕ → List Identifier
of_length d p s x = followed_by (padded p (d - 1)) x s

pub record Candidate (p q : List Identifier) (s d x : ℕ) : Type 0 where
  pub least : 1 ≤ x
  pub most : x ≤ 65535
  pub over : p ≺ of_length d p s x
  pub under : of_length d p s x ≺ q

-- "Take the smallest d up to 8 that has candidates. Their x form an unbroken run from lo, of c
-- values. The place has x = lo + (draw mod c)."
pub record Placement (p q : List Identifier) (s draw : ℕ) (place : List Identifier) : Type 0 where
  pub d : ℕ
  pub lo : ℕ
  pub c : ℕ
  pub from_1 : 1 ≤ d
  pub up_to_8 : d ≤ 8
  pub smallest : (e : ℕ) → 1 ≤ e → e < d → (x : ℕ) → Candidate p q s e x → ⊥
  pub some : 1 ≤ c
  pub run : (x : ℕ) → Candidate p q s d x ↔ ((lo ≤ x) × (x < lo + c))
  pub place_is : place ≡ of_length d p s (lo + draw % c)

-- "If no d up to 8 has a candidate, the answer is 12, and only then."
abbrev pub NoPlace : List Identifier → List Identifier → ℕ → Type 0
NoPlace p q s = (d : ℕ) → 1 ≤ d → d ≤ 8 → (x : ℕ) → Candidate p q s d x → ⊥
