-- What a caller is handed of a reading: it is there exactly where bytes were used, and then it is what was read.
-- Assumes nothing.
use Rattle.std.proofs.Common.{◌≡◌, Bool, true, false, cond, eqb, None, Some, refl, sym}
use Rattle.std.proofs.lemmas.Option.{same_Some, none-some}
use borrow.Author.Tests.{eqb-true, eq-eqb}
use Rattle.reader.specs.declared.Reading.{Reading}
use Rattle.reader.specs.Read.{taken}

handed_none : (b : Bool) (r : Reading) → cond b None (Some r) ≡ None → b ≡ true
handed_none true r none = refl
handed_none false r none = absurd (none-some r (sym none))

handed_some : (b : Bool) (r v : Reading) → cond b None (Some r) ≡ Some v → (v ≡ r) × (b ≡ true → ⊥)
handed_some true r v some = absurd (none-some v some)
handed_some false r v some = (sym (same_Some r v some), (λ e. cc))

-- none: no bytes were used
pub none_taken : (r : Reading) → taken r ≡ None → r.used ≡ 0
none_taken r none = eqb-true r.used 0 (handed_none (eqb r.used 0) r none)

-- some: it is that reading, and bytes were used
pub some_taken : (r v : Reading) → taken r ≡ Some v → (v ≡ r) × (r.used ≡ 0 → ⊥)
some_taken r v some =
    let both = handed_some (eqb r.used 0) r v some in (both.0, (λ e. both.1 (eq-eqb r.used 0 e)))
