-- Bytes that methods put in, one run behind the other, and what is left of a whole that a loop puts in.
-- Assumes nothing.
use Rattle.std.proofs.Common.{◌≡◌, ℕ, List, [], ◌++◌, refl, sym, subst, ◌∙◌}
use Rattle.listed.specs.declared.output.Output.{Output}
use Rattle.listed.specs.Output.{behind}
use Rattle.listed.specs.Steps.{Puts, shown}
use Rattle.listed.proofs.Behind.{and_then, behind_nothing, is_left}

-- what two calls put in is one run
pub both_put : {a b : List ℕ} {was then is : Output} → Puts a was then → Puts b then is → Puts (a ++ b) was is
both_put first second =
    record {
      same_buffer = second.same_buffer ∙ first.same_buffer;
      put_in = and_then _ _ _ first.put_in second.put_in;
    }

-- what is left, put in from here, gives the whole
pub record Still (left whole : List ℕ) (was is : Output) : Type 0 where
  pub same_buffer : is.bytes.ghost_name ≡ was.bytes.ghost_name
  pub gives : behind left (shown is) ≡ behind whole (shown was)

-- before anything is put in, that is all of it
pub whole_left : {whole : List ℕ} {was : Output} → Still whole whole was was
whole_left = record { same_buffer = refl; gives = refl }

module _ {left whole : List ℕ} {was is : Output} (still : Still left whole was is) where
  -- a front of what is left is put in
  pub less_left : {a rest : List ℕ} {then : Output} → left ≡ a ++ rest → Puts a is then → Still rest whole was then
  less_left {a} {rest} e put =
      let from : Still (a ++ rest) whole was is = subst (λ (l : List ℕ). Still l whole was is) e still in
      record { same_buffer = put.same_buffer ∙ from.same_buffer; gives = is_left a rest _ put.put_in ∙ from.gives }

  -- nothing is left: the whole is put in
  pub none_left : left ≡ [] → Puts whole was is
  none_left e =
      let from : Still [] whole was is = subst (λ (l : List ℕ). Still l whole was is) e still in
      record { same_buffer = from.same_buffer; put_in = sym (behind_nothing (shown is)) ∙ from.gives }
