-- Order is one number: unused identifiers are zero and the last one used is no pad, so the positions of
-- two rows order as the numbers do that their 24 bytes of identifiers make.
-- Assumes nothing.
use Prim.Native.Nat.{ℕ, zero, suc, ◌+◌, ◌*◌, ◌-◌, ◌≤◌, ◌<◌}
use native.Mathlib.Omega.{arith}
use mathlib.Core.Path.{◌≡◌, refl, sym, ◌∙◌}
use mathlib.Core.Logic.{◌↔◌, ◌≢◌}
use mathlib.Core.List.{List, []}
use lib.ListN.{get_or, drop}
use lib.Seq.{get_or-drop}
use Rattle.position.specs.Order.{number_order, identifier_order, order_of, ◌≺◌}
use Rattle.position.proofs.Ordered.{less_below, below_less, equal_same, more_above}
use Rattle.rows.specs.Numbers.{num_at}
use Rattle.rows.specs.Rows.{rows_of}
use Rattle.rows.proofs.Digits.{Bytes, bytes_drop, num_drop, num_one}
use Rattle.script.specs.Lines.{decode_identifier, identifiers_of}
use Rattle.sound.proofs.Compared.{compared}
use Rattle.sound.proofs.Zeros.{num_zero, num_positive}

-- n slots of 3 bytes, u of them used: what is unused is zero, and the last byte used, a site, is not
pub record Slots (n u : ℕ) (s : List ℕ) : Type 0 where
  pub bytes : Bytes s
  pub most : u ≤ n
  pub unused : (j : ℕ) → u * 3 ≤ j → j < n * 3 → get_or s j 0 ≡ 0
  pub last : (j : ℕ) → suc j ≡ u * 3 → get_or s j 0 ≢ 0

module _ (n u : ℕ) (s : List ℕ) where
  none_zero : u ≡ 0 → Slots n u s → num_at (n * 3) s 0 ≡ 0
  none_zero e h = num_zero (n * 3) 0 s (λ j k l. h.unused j (omega arith) (omega arith))

  some_positive : 1 ≤ u → Slots n u s → 0 < num_at (n * 3) s 0
  some_positive l h =
      let last = h.last (u * 3 - 1) (omega arith) in
      num_positive (n * 3) 0 s (u * 3 - 1) (omega arith) (omega (arith, h.most)) last

  behind_first : Slots (suc n) (suc u) s → Slots n u (drop 3 s)
  behind_first h =
      record {
        bytes = bytes_drop 3 s h.bytes;
        most = omega (arith, h.most);
        unused = λ j k l. get_or-drop 3 s j 0 ∙ h.unused (3 + j) (omega arith) (omega arith);
        last = λ j k. rw (get_or-drop 3 s j 0) (h.last (3 + j) (omega arith));
      }

identifiers_compared : (s t : List ℕ) → Bytes s → Bytes t →
    identifier_order (decode_identifier s) (decode_identifier t) ≡ number_order (num_at 3 s 0) (num_at 3 t 0)
unfolding identifier_order decode_identifier
identifiers_compared s t h k = rw (compared 2 1 0 s t h k, num_one 2 s, num_one 2 t)

-- the first slots decide and, where these are the same, the slots behind them
pub slots_compared : (n u v : ℕ) (s t : List ℕ) → Slots n u s → Slots n v t →
    order_of (rows_of decode_identifier 3 u s) (rows_of decode_identifier 3 v t)
    ≡ number_order (num_at (n * 3) s 0) (num_at (n * 3) t 0)
unfolding order_of rows_of
slots_compared n zero zero s t h k = rw (none_zero n 0 s refl h, none_zero n 0 t refl k) (sym (equal_same 0))
slots_compared n zero (suc v) s t h k =
    rw (none_zero n 0 s refl h) (sym (less_below (some_positive n (suc v) t (omega arith) k)))
slots_compared n (suc u) zero s t h k =
    rw (none_zero n 0 t refl k) (sym (more_above (some_positive n (suc u) s (omega arith) h)))
slots_compared zero (suc u) (suc v) s t h k = absurd (omega (arith, h.most))
slots_compared (suc n) (suc u) (suc v) s t h k =
    let width : suc n * 3 ≡ 3 + n * 3 = omega arith in
    rw (
      width,
      compared 3 (n * 3) 0 s t h.bytes k.bytes,
      identifiers_compared s t h.bytes k.bytes,
      slots_compared n u v (drop 3 s) (drop 3 t) (behind_first n u s h) (behind_first n v t k),
      num_drop (n * 3) 3 0 s,
      num_drop (n * 3) 3 0 t,
    )

-- What a row's position has to be, by index; behind its 25 bytes a row may hold any bytes.
pub record RowPosition (row : List ℕ) : Type 0 where
  pub bytes : Bytes row
  pub most : get_or row 0 0 ≤ 8
  pub unused : (j : ℕ) → get_or row 0 0 * 3 ≤ j → j < 24 → get_or row (1 + j) 0 ≡ 0
  pub last : 1 ≤ get_or row 0 0 → get_or row (3 * get_or row 0 0) 0 ≢ 0

row_slots : (row : List ℕ) → RowPosition row → Slots 8 (get_or row 0 0) (drop 1 row)
row_slots row h =
    record {
      bytes = bytes_drop 1 row h.bytes;
      most = h.most;
      unused = λ j k l. get_or-drop 1 row j 0 ∙ h.unused j k l;
      last = λ j k.
          let at : 1 + j ≡ 3 * get_or row 0 0 = omega arith in
          rw (get_or-drop 1 row j 0, at) (h.last (omega arith));
    }

-- order is one number
pub order_is_number : (a b : List ℕ) → RowPosition a → RowPosition b →
    order_of (identifiers_of a) (identifiers_of b) ≡ number_order (num_at 24 a 1) (num_at 24 b 1)
unfolding identifiers_of
order_is_number a b h k =
    rw (num_drop 24 1 0 a, num_drop 24 1 0 b)
    at (slots_compared 8 (get_or a 0 0) (get_or b 0 0) (drop 1 a) (drop 1 b) (row_slots a h) (row_slots b k))

pub below_is_less : (a b : List ℕ) → RowPosition a → RowPosition b →
    (identifiers_of a ≺ identifiers_of b) ↔ (num_at 24 a 1 < num_at 24 b 1)
below_is_less a b h k =
    let both = order_is_number a b h k in
    (λ l. below_less _ _ (sym both ∙ l), λ l. both ∙ less_below l)

pub unused_zero : (row : List ℕ) → RowPosition row → get_or row 0 0 ≡ 0 → num_at 24 row 1 ≡ 0
unused_zero row h e =
    rw (num_drop 24 1 0 row) at (none_zero 8 (get_or row 0 0) (drop 1 row) e (row_slots row h))

pub used_positive : (row : List ℕ) → RowPosition row → 1 ≤ get_or row 0 0 → 0 < num_at 24 row 1
used_positive row h l =
    rw (num_drop 24 1 0 row) at (some_positive 8 (get_or row 0 0) (drop 1 row) l (row_slots row h))

-- the start: what stands before the first row has no identifier, and its number is 0
pub start : RowPosition []
start =
    record {
      bytes = λ i. omega arith;
      most = omega arith;
      unused = λ j k l. refl;
      last = λ l. absurd (omega arith);
    }
