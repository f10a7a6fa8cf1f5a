-- The identifiers of a row as the scan sees them: which bytes each one is, and the author's byte.
-- Assumes nothing.
use Prim.Native.Nat.{ℕ, ◌+◌, ◌*◌, ◌-◌, ◌≤◌, ◌<◌}
use native.Mathlib.Omega.{arith}
use mathlib.Core.Path.{◌≡◌, ap, subst, ◌∙◌}
use mathlib.Core.List.{List}
use lib.ListN.{get_or}
use Rattle.position.specs.declared.Identifier.{Identifier}
use Rattle.position.specs.Positions.{identifier, pad, author_of}
use Rattle.rows.specs.Numbers.{num_at}
use Rattle.rows.specs.Rows.{Upto}
use Rattle.script.specs.Lines.{used_of, identifiers_of}
use Rattle.script.proofs.Identifiers.{identifiers_length, identifier_at}
use Rattle.sound.specs.Steps.{SlotFits, author_byte}

-- the identifier that starts at byte j of the eight
abbrev pub slot_at : List ℕ → ℕ → Identifier
slot_at row j = identifier (get_or row (j + 1) 0 * 256 + get_or row (j + 2) 0) (get_or row (j + 3) 0)

module _ (row : List ℕ) where
  slot_is : (k : ℕ) → identifier (num_at 2 row (1 + 3 * k)) (get_or row (3 + 3 * k) 0) ≡ slot_at row (k * 3)
  unfolding num_at
  slot_is k =
      let byte : (m n : ℕ) → m ≡ n → get_or row m 0 ≡ get_or row n 0 = λ m n. ap (λ (i : ℕ). get_or row i 0) in
      let high = byte (1 + 3 * k + 0) (k * 3 + 1) (omega arith) in
      let low = byte (1 + 3 * k + 1) (k * 3 + 2) (omega arith) in
      let integer : num_at 2 row (1 + 3 * k) ≡ (slot_at row (k * 3)).integer = omega arith in
      λ d. record { integer = integer d; site = byte (3 + 3 * k) (k * 3 + 3) (omega arith) d }

  pub slot_at_lem : (k : ℕ) → k < used_of row → get_or (identifiers_of row) k pad ≡ slot_at row (k * 3)
  slot_at_lem k h = identifier_at row k h ∙ slot_is k

  pub author_at : 1 ≤ used_of row → author_of (identifiers_of row) ≡ author_byte row
  author_at h =
      let k = used_of row - 1 in
      let last = ap (λ (n : ℕ). get_or (identifiers_of row) (n - 1) pad) (identifiers_length row) in
      let byte : k * 3 + 3 ≡ 3 * used_of row = omega arith in
      ap (λ (i : Identifier). i.site) (last ∙ slot_at_lem k (omega arith))
      ∙ ap (λ (n : ℕ). get_or row n 0) byte

  -- the last identifier in use is proper, so the author is at most 16
  pub author_most : (used : ℕ) → 1 ≤ used → used ≤ 8 → Upto 32 (SlotFits used row) → get_or row (3 * used) 0 ≤ 16
  author_most used least most slots =
      let j = 3 * (used - 1) in
      let at : j + 3 ≡ 3 * used = omega arith in
      subst (λ (n : ℕ). get_or row n 0 ≤ 16) at (slots j (omega arith) (omega arith, omega arith)).0.site
