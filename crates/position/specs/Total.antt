-- The order of positions is the library's lexicographic one, by the fields of an identifier and then along
-- the list: so it has the laws that the comparisons of positions give.
-- Assumes nothing.
use Rattle.std.specs.Prelude.{List, [], ◌∷◌, ◌≡◌, refl}
use Rattle.std.proofs.Common.{ap, subst}
use Rattle.std.specs.Cmp.{IsTotalOrder}
use Rattle.std.specs.Cmp.Lexicographic.{slice_cmp}
use Rattle.std.proofs.lemmas.Cmp.{nat_cmp_total, on_total, then_total, lists_total}
use Rattle.position.specs.declared.Identifier.{Identifier}
use Rattle.position.specs.Order.{then_by, number_order, identifier_order, order_of}

pub identifiers_ordered : IsTotalOrder identifier_order
unfolding number_order identifier_order
identifiers_ordered =
    then_total (on_total (λ (i : Identifier). i.integer) nat_cmp_total) (on_total (λ (i : Identifier). i.site) nat_cmp_total)

lexicographic : (p q : List Identifier) → slice_cmp identifier_order p q ≡ order_of p q
unfolding order_of
lexicographic [] [] = refl
lexicographic [] (j ∷ q) = refl
lexicographic (i ∷ p) [] = refl
lexicographic (i ∷ p) (j ∷ q) = ap (then_by (identifier_order i j)) (lexicographic p q)

pub ordered : IsTotalOrder order_of
ordered = subst IsTotalOrder (λ d p q. lexicographic p q d) (lists_total identifiers_ordered)
