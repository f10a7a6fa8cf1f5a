-- "rows held plus different lines struck equals inserts done, both counted from the calls that a replica
-- answered 0 or 15" (01, 'Answer numbers').
-- Assumes nothing.
use Rattle.std.specs.Prelude.{ℕ, suc, Bool, true, false, cond, ◌&&◌, ◌||◌, List, [], ◌∷◌, eqb}
use Rattle.position.specs.declared.Identifier.{Identifier}
use Rattle.std.specs.declared.cmp.Ordering.{Ordering}
use Rattle.std.specs.declared.cmp.Ordering.TheVariants.{Less, Equal, Greater}
use Rattle.position.specs.Positions.{ids_of}
use Rattle.position.specs.Order.{order_of}
use Rattle.format.specs.declared.Edit.{Edit}
use Rattle.format.specs.declared.Edit.TheVariants.{Insert, Delete}
use Rattle.format.specs.declared.Patch.{Patch}
use Rattle.effect.specs.Effect.{inserts}
use Rattle.exercise.specs.Scripts.{patch_of}

-- "A line's identity is its position and the number of the patch that inserted it."
pub record Identity : Type 0 where
  pub position : List Identifier
  pub number : ℕ

abbrev pub is_same_order : Ordering → Bool
is_same_order Less = false
is_same_order Equal = true
is_same_order Greater = false

abbrev pub one_line : Identity → Identity → Bool
one_line x y = is_same_order (order_of x.position y.position) && eqb x.number y.number

unfoldable pub among : Identity → List Identity → Bool
among x [] = false
among x (y ∷ ys) = one_line x y || among x ys

-- the lines that a patch strikes, with those before, each once
abbrev pub struck_by : Patch → Edit → List Identity → List Identity
struck_by p (Insert n) struck = struck
struck_by p (Delete n) struck =
    let x : Identity = record { position = ids_of p.place; number = n } in
    cond (among x struck) struck (x ∷ struck)

-- the different lines struck
unfoldable pub struck_in : List (List ℕ) → List Identity
struck_in [] = []
struck_in (b ∷ g) = struck_by (patch_of b) (patch_of b).edit (struck_in g)

-- the inserts done
unfoldable pub inserts_in : List (List ℕ) → ℕ
inserts_in [] = 0
inserts_in (b ∷ g) = cond (inserts (patch_of b).edit) (suc (inserts_in g)) (inserts_in g)
