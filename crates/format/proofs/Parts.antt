-- The two parts in which the rules are tested are the whole: each field by itself, and the fields against
-- each other.
-- Assumes nothing.
use Prim.Native.Nat.{ℕ, ◌≤◌, ◌<◌}
use native.Mathlib.Omega.{arith}
use mathlib.Core.Path.{◌≡◌, sym, subst}
use mathlib.Core.Logic.{◌↔◌}
use mathlib.Core.List.{List}
use lib.ListN.{length, get_or}
use Rattle.position.specs.Positions.{pad, ids_of, author_of, Proper, LinePosition}
use Rattle.position.proofs.Authors.{ends_unpadded}
use Rattle.position.proofs.Ids.{ids_length, next_id}
use Rattle.format.specs.declared.Edit.{Edit}
use Rattle.format.specs.declared.Edit.TheVariants.{Insert, Delete}
use Rattle.format.specs.declared.Patch.{Patch}
use Rattle.format.specs.WellFormed.{WellFormed, EditAgrees}
use Rattle.format.specs.Steps.{PlaceFits, FieldsFit, Agrees}
use Rattle.format.proofs.Places.{slot_fits, ids_used, id_at, used_proper, unused_pad}

module _ (p : Patch) (text : List ℕ) where
  -- the place of a well-formed patch fits by itself
  place_fits : WellFormed p text → PlaceFits p.place
  place_fits h =
      let counted = ids_length p.place h.identifiers in
      record {
        least = omega (arith, h.place.least);
        most = h.used;
        size = h.identifiers;
        slot = λ k below.
            slot_fits (get_or p.place.ids k pad) k p.place.used
            (λ used.
            let inside : k < length (ids_of p.place) = omega arith in
            subst Proper (next_id p.place k inside) (h.place.proper k inside))
            (λ from. h.unused k from below);
      }

  -- The place of a patch that fits and agrees is a line's position.
  module _ (fits : FieldsFit p text) (agrees : Agrees p) where
    -- the place ends in a site: the author's, or one that Before counts
    site_least : (e : Edit) → EditAgrees p e → 1 ≤ author_of (ids_of p.place)
    site_least (Insert n) edit = omega (arith, edit, fits.head.author_least)
    site_least (Delete n) edit = edit.0

    -- so it is a line's position
    line_position : LinePosition (ids_of p.place)
    line_position =
        let counted : length (ids_of p.place) ≡ p.place.used = ids_used p.place fits.place in
        record {
          least = omega (arith, fits.place.least);
          most = omega (arith, fits.place.most);
          proper = λ k below.
              let inside : k < p.place.used = omega arith in
              subst Proper (sym (id_at p.place fits.place k inside)) (used_proper p.place fits.place k inside);
          unpadded = ends_unpadded (ids_of p.place) (site_least p.edit agrees.edit);
          first = agrees.first;
        }

  -- the two parts are the whole
  pub fields_agree : WellFormed p text ↔ (FieldsFit p text × Agrees p)
  fields_agree = (
    λ h. (
      record { head = h.head; before = h.before; place = place_fits h; line = h.line },
      record { own_entry = h.own_entry; first = h.place.first; edit = h.edit },
    ),
    λ parts.
        let fits = parts.0 in
        record {
          head = fits.head;
          before = fits.before;
          own_entry = parts.1.own_entry;
          place = line_position fits parts.1;
          used = fits.place.most;
          identifiers = fits.place.size;
          unused = unused_pad p.place fits.place;
          line = fits.line;
          edit = parts.1.edit;
        },
  )
