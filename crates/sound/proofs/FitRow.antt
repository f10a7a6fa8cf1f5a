-- A row is sound exactly where it fits and its first integer is in range.
-- Assumes nothing.
use Prim.Native.Nat.{ℕ, zero, suc, ◌+◌, ◌*◌, ◌-◌, ◌/◌, ◌%◌, ◌≤◌, ◌<◌}
use native.Mathlib.Nat.{add_comm}
use native.Mathlib.Decide.{dec_lt}
use native.Mathlib.Omega.{arith}
use mathlib.Core.Path.{◌≡◌, sym, ap, ◌∙◌, subst}
use mathlib.Core.Logic.{inl, ⊎_elim, by_cases}
use mathlib.Core.List.{List}
use lib.ListN.{drop, get_or, length-take}
use Rattle.position.specs.declared.Identifier.{Identifier}
use Rattle.position.specs.Positions.{pad, Proper, LinePosition}
use Rattle.position.proofs.Authors.{author_least}
use Rattle.rows.specs.Numbers.{num_at}
use Rattle.rows.proofs.Digits.{Bytes}
use Rattle.script.specs.Lines.{used_of, text_length_of, identifiers_of, decode_row}
use Rattle.script.specs.Sound.{SoundRow}
use Rattle.script.proofs.Identifiers.{identifiers_length}
use Rattle.sound.specs.Steps.{SlotFits, author_byte, RowFits}
use Rattle.sound.proofs.OneNumber.{RowPosition}
use Rattle.sound.proofs.Identifiers.{slot_at, slot_at_lem, author_at, author_most}

-- a proper identifier is the pad where it has no site
no_site_pad : (i : Identifier) → Proper i → i.site ≡ 0 → i ≡ pad
no_site_pad i h e = ⊎_elim (λ p. p) (λ w. absurd (omega arith)) h.pad_or_whole

module _ (counts row : List ℕ) where
  -- What fits is sound.
  module _ (h : RowFits counts row) where
    slot_proper : (k : ℕ) → k < 8 → Proper (slot_at row (k * 3))
    slot_proper k l = (h.slots (k * 3) (omega arith) (omega arith, omega arith)).0

    -- an unused identifier has no site: so it is the pad, and its three bytes are zero
    behind_zero : (j : ℕ) → used_of row * 3 ≤ j → j < 24 → get_or row (1 + j) 0 ≡ 0
    behind_zero j l m = subst (λ (n : ℕ). get_or row n 0 ≡ 0) place (each (j % 3) (omega arith))
      where
        at : ℕ
        at = j / 3 * 3

        place : at + suc (j % 3) ≡ 1 + j
        place = omega arith

        site : get_or row (at + 3) 0 ≡ 0
        site = (h.slots at (omega arith) (omega arith, omega arith)).1 (omega arith)

        integer : (slot_at row at).integer ≡ 0
        integer =
            ap (λ (i : Identifier). i.integer)
            (no_site_pad (slot_at row at) (slot_proper (j / 3) (omega arith)) site)

        each : (n : ℕ) → n < 3 → get_or row (at + suc n) 0 ≡ 0
        each zero b = omega (arith, integer)
        each (suc zero) b = omega (arith, integer)
        each (suc (suc zero)) b = site
        each (suc (suc (suc n))) b = absurd (omega arith)

    pub row_position : Bytes row → RowPosition row
    row_position bytes =
        record {
          bytes = bytes;
          most = h.used_most;
          unused = behind_zero;
          last = λ l e. omega (arith, h.author);
        }

    line_position : num_at 2 row 1 ≤ 65534 → LinePosition (identifiers_of row)
    unfolding num_at
    line_position first =
        let used = identifiers_length row in
        let author = author_at row h.used_least in
        record {
          least = omega (arith, h.used_least);
          most = omega (arith, h.used_most);
          proper = λ k l.
              rw (slot_at_lem row k (omega arith)) (slot_proper k (omega (arith, h.used_most)));
          unpadded = λ e. omega (arith, h.author, sym author ∙ ap (λ (i : Identifier). i.site) e);
          first = rw (slot_at_lem row 0 h.used_least) (omega arith);
        }

    pub fits_row : ((i : ℕ) → i < 16 → get_or counts i 0 ≤ 1000000) → num_at 2 row 1 ≤ 65534 →
        SoundRow counts row
    unfolding decode_row
    fits_row most first =
        let site = author_most row (used_of row) h.used_least h.used_most h.slots in
        let author : author_byte row - 1 < 16 = omega arith in
        record {
          line =
              record {
                position = line_position first;
                number_least = h.number_least;
                number_most = omega (arith, h.counted, most (author_byte row - 1) author);
                text = omega (arith, length-take (text_length_of row) (drop 30 row), h.text_length);
                counted = rw (author_at row h.used_least) h.counted;
              };
          text_length = h.text_length;
          unused_identifiers = behind_zero;
          unused_text = λ j l m. rw (add_comm 30 j) (h.text j m l);
        }

  -- What is sound fits.
  module _ (h : SoundRow counts row) where
    position : LinePosition (identifiers_of row)
    unfolding decode_row
    position = h.line.position

    used_least : 1 ≤ used_of row
    used_least = omega (arith, identifiers_length row, position.least)

    author_there : 1 ≤ author_byte row
    author_there = rw (author_at row used_least) at (author_least (identifiers_of row) position)

    unused_byte : (n : ℕ) → used_of row * 3 < n → n ≤ 24 → get_or row n 0 ≡ 0
    unused_byte n l m =
        let at : 1 + (n - 1) ≡ n = omega arith in
        subst (λ (i : ℕ). get_or row i 0 ≡ 0) at (h.unused_identifiers (n - 1) (omega arith) (omega arith))

    slot_fits : (j : ℕ) → SlotFits (used_of row) row j
    slot_fits j (third, m) =
        let proper = by_cases (dec_lt j (used_of row * 3)) inside outside in
        (proper, λ l. unused_byte (j + 3) (omega arith) (omega arith))
      where
        inside : j < used_of row * 3 → Proper (slot_at row j)
        inside l =
            let k = j / 3 in
            let at : k * 3 ≡ j = omega arith in
            let own = position.proper k (omega (arith, identifiers_length row)) in
            subst (λ (n : ℕ). Proper (slot_at row n)) at (rw (slot_at_lem row k (omega arith)) at own)

        outside : ¬ (j < used_of row * 3) → Proper (slot_at row j)
        outside l =
            let high = unused_byte (j + 1) (omega arith) (omega arith) in
            let low = unused_byte (j + 2) (omega arith) (omega arith) in
            let site = unused_byte (j + 3) (omega arith) (omega arith) in
            let integer : (slot_at row j).integer ≡ 0 = omega arith in
            let pads : slot_at row j ≡ pad = λ d. record { integer = integer d; site = site d } in
            record { pad_or_whole = inl pads; integer = omega arith; site = omega arith }

    pub row_fits : RowFits counts row
    unfolding decode_row
    row_fits =
        record {
          used_least = used_least;
          used_most = omega (arith, identifiers_length row, position.most);
          text_length = h.text_length;
          slots = λ j l. slot_fits j;
          text = λ j m l. rw (add_comm j 30) (h.unused_text j l m);
          author = author_there;
          number_least = h.line.number_least;
          counted = rw (author_at row used_least) at h.line.counted;
        }

    pub first_most : num_at 2 row 1 ≤ 65534
    unfolding num_at
    first_most = omega (arith, rw (slot_at_lem row 0 used_least) at position.first)
