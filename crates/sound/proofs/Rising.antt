-- Rows that rise by their words rise by position, and the other way round; the first word of no row is
-- above that of the last.
-- Assumes nothing.
use Prim.Native.Nat.{ℕ, zero, suc, ◌≤◌, ◌<◌}
use native.Mathlib.Nat.{eq-or-lt_of_le, le_of_suc-le-suc}
use native.Mathlib.Omega.{arith}
use mathlib.Core.Path.{refl, ap}
use mathlib.Core.Logic.{⊎_elim}
use mathlib.Core.List.{List, []}
use lib.ListN.{get_or}
use Rattle.position.specs.Order.{◌≺◌}
use Rattle.script.specs.Lines.{identifiers_of}
use Rattle.sound.specs.Steps.{word, RowRises}
use Rattle.sound.proofs.OneNumber.{RowPosition, below_is_less, unused_zero, used_positive, start}
use Rattle.sound.proofs.Words.{three_words}

module _ (a b : List ℕ) (h : RowPosition a) (k : RowPosition b) where
  pub rises_below : RowRises a b → identifiers_of a ≺ identifiers_of b
  rises_below l = (below_is_less a b h k).1 ((three_words a b h.bytes k.bytes).1 l)

  pub below_rises : identifiers_of a ≺ identifiers_of b → RowRises a b
  below_rises l = (three_words a b h.bytes k.bytes).0 ((below_is_less a b h k).0 l)

-- the first row rises over what stands before it
pub first_rises : (row : List ℕ) → RowPosition row → 1 ≤ get_or row 0 0 → RowRises [] row
first_rises row h l =
    (three_words [] row start.bytes h.bytes).0 (rw (unused_zero [] start refl) (used_positive row h l))

pub rises_first : (a b : List ℕ) → RowRises a b → word a 0 ≤ word b 0
rises_first a b = ⊎_elim (λ l. omega arith) (λ w. omega arith)

-- what does not fall from one to the next is highest at the last
pub last_highest : (f : ℕ → ℕ) (n : ℕ) → ((i : ℕ) → i < n → f i ≤ f (suc i)) → (i : ℕ) → i ≤ n → f i ≤ f n
last_highest f zero up zero l = omega arith
last_highest f zero up (suc i) l = absurd (omega arith)
last_highest f (suc n) up i l =
    ⊎_elim
    (λ e. omega (arith, ap f e))
    (λ m.
    let before = last_highest f n (λ j k. up j (omega arith)) i (le_of_suc-le-suc m) in
    omega (arith, up n (omega arith)))
    (eq-or-lt_of_le l)
