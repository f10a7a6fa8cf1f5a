-- The place as its identifiers and as eight slots: each gives the other back, so a place is read by its
-- identifiers and bytes begin with at most one.
-- Assumes nothing.
use Prim.Native.Nat.{ℕ, zero, suc, ◌+◌, ◌-◌, ◌<◌, suc-le-suc}
use native.Mathlib.Nat.{le_of_suc-le-suc, zero-lt-suc}
use native.Mathlib.Omega.{arith}
use mathlib.Core.Path.{◌≡◌, sym, ap, subst, ◌∙◌}
use mathlib.Core.List.{List, [], ◌∷◌, ◌++◌}
use lib.Dec.{ltb}
use lib.ListN.{length, get_or, replicate, length-append, length-replicate, get_or-replicate, get_or-append}
use lib.Seq.{take_at, get_or-append-add}
use Rattle.position.specs.declared.Identifier.{Identifier}
use Rattle.position.specs.Positions.{pad, ids_of, position_of, Proper}
use Rattle.position.proofs.Ids.{ids_position}
use Rattle.rows.proofs.Slots.{Each}
use Rattle.script.specs.Lines.{encode_identifier}
use Rattle.format.specs.Patches.{place_bytes}
use Rattle.format.specs.Steps.{SlotFits, PlaceFits}
use Rattle.format.proofs.Places.{slot_fits, ids_used, id_at, used_proper, unused_pad}
use Rattle.reader.specs.Steps.{encode_place}
use Rattle.reader.proofs.Codes.{Unique, unique_identifier, Retold}
use Rattle.reader.proofs.Repeated.{Elements, Behind, encode_counted, CountedFit, unique_section}
use Rattle.reader.proofs.Repeated.Behind.{none, next}

-- an identifier fits whatever stands before it
abbrev pub identifiers : Elements Identifier
identifiers = record { encode = encode_identifier; mark = λ _. 0; After = λ _. Proper; unique = λ _. unique_identifier }

-- Identifiers that fit are those of which each is proper.

all_proper : {last : ℕ} {ids : List Identifier} → Behind identifiers last ids → Each pad Proper ids
all_proper none k inside = absurd (omega arith)
all_proper (next proper later) zero inside = proper
all_proper (next proper later) (suc k) inside = all_proper later k (le_of_suc-le-suc inside)

proper_behind : (last : ℕ) (ids : List Identifier) → Each pad Proper ids → Behind identifiers last ids
proper_behind last [] proper = none
proper_behind last (i ∷ ids) proper =
    next (proper zero (zero-lt-suc (length ids))) (proper_behind 0 ids (λ k inside. proper (suc k) (suc-le-suc inside)))

-- each slot of the position that they make fits
slot_of : (ids : List Identifier) (n : ℕ) → length ids ≡ n → Each pad Proper ids → (k : ℕ) → k < 8
    → SlotFits (get_or (position_of ids).ids k pad) (ltb k n)
slot_of ids n e proper k below =
    let pads = replicate (8 - length ids) pad in
    slot_fits (get_or (ids ++ pads) k pad) k n
    (λ used.
    let inside : k < length ids = omega arith in
    rw (get_or-append ids pads pad k inside) (proper k inside))
    (λ from.
    let behind = k - length ids in
    let there : length ids + behind ≡ k = omega arith in
    ap (λ (j : ℕ). get_or (ids ++ pads) j pad) (sym there) ∙ get_or-append-add ids pads behind pad
    ∙ get_or-replicate (8 - length ids) behind pad pad (omega arith))

-- A place is told by how many of its identifiers are used, and these.
pub place_told : Retold (λ p. record { used = p.0; ids = (position_of p.1).ids }) (λ p. (p.used, ids_of p))
    (encode_counted identifiers) (CountedFit identifiers 1 8) encode_place PlaceFits
unfolding place_bytes
place_told =
    record {
      fits_to = λ p fits.
          record {
            least = fits.0.0;
            most = fits.0.1;
            size = simp (length-append, length-replicate) (omega (arith, fits.0.1, fits.1.0));
            slot = slot_of p.1 p.0 fits.1.0 (all_proper fits.1.1);
          };
      fits_from = λ p fits.
          let proper : Each pad Proper (ids_of p) =
          λ k inside.
          let used : k < p.used = omega (arith, ids_used p fits) in
          subst Proper (sym (id_at p fits k used)) (used_proper p fits k used) in
          ((fits.least, fits.most), (ids_used p fits, proper_behind 0 (ids_of p) proper));
      back = λ p fits i.
          record { used = p.used; ids = (ids_position p fits.most fits.size (unused_pad p fits) i).ids };
      bytes = λ p fits. rw (take_at p.1 (replicate (8 - length p.1) pad) p.0 fits.1.0, fits.1.0);
    }

-- bytes begin with at most one place
pub unique_place : Unique encode_place PlaceFits
unique_place = unique_section identifiers (omega arith) place_told
