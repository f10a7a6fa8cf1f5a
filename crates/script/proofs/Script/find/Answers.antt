-- Among rising lines the comparison with the line in the middle tells of all lines on one side of it.
use Rattle.std.proofs.Common.{◌≡◌, ℕ, ◌+◌, ◌-◌, ◌/◌, ◌<◌, List, length, sym, ap, ◌∙◌, arith}
use Rattle.position.specs.declared.Position.{Position}
use Rattle.position.specs.declared.Identifier.{Identifier}
use Rattle.std.specs.declared.cmp.Ordering.{Ordering}
use Rattle.std.specs.declared.cmp.Ordering.TheVariants.{Less, Equal, Greater}
use Rattle.position.specs.Positions.{ids_of, position_of}
use Rattle.position.specs.Order.{order_of}
use Rattle.position.proofs.Ids.{position_ids}
use Rattle.record.specs.declared.Replica.{Replica}
use Rattle.script.specs.declared.table.Found.TheVariants.{Row}
use Rattle.script.specs.Lines.{identifiers_of, decode_table}
use Rattle.script.specs.Sound.{Sound}
use Rattle.script.specs.Find.{find_in}
use Rattle.script.proofs.Decided.{sound_of}
use Rattle.script.proofs.Tables.{lines_length}
use Rattle.script.proofs.Held.{sound_lines}
use Rattle.script.proofs.Finding.{place_at, Under, found_same, found_gap, under_below}
use Rattle.script.proofs.Lent.{lent_row, row_read}
use Rattle.script.proofs.Script.find.Goals as goal

-- what the comparison with row k tells: of its line, of the lines up to it where that is below the place, and
-- of where the place is found where it is the same
module _ {r : Replica} {t : List ℕ} (sound : ∥ Sound r t ∥₁) (k : ℕ) (h : k < r.rows) (q place : Position)
    (read : q ≡ position_of (identifiers_of (lent_row t k))) where
  compared : (o : Ordering) → o ≡ order_of (ids_of q) (ids_of place)
      → order_of (place_at (decode_table r.rows t) k) (ids_of place) ≡ o
  compared o told =
      let ids : ids_of q ≡ place_at (decode_table r.rows t) k =
      ap ids_of read ∙ position_ids (identifiers_of (lent_row t k)) ∙ row_read r.rows k t h in
      sym (told ∙ ap (λ (l : List Identifier). order_of l (ids_of place)) ids)

  there : k < length (decode_table r.rows t)
  there = omega (arith, lines_length r.rows t)

  below : Less ≡ order_of (ids_of q) (ids_of place) → Under (ids_of place) (k + 1) (decode_table r.rows t)
  below told =
      under_below (decode_table r.rows t) (sound_lines r t (sound_of sound)).rising (ids_of place) k there
      (compared Less told)

  same : Equal ≡ order_of (ids_of q) (ids_of place) → Row k ≡ find_in (ids_of place) (decode_table r.rows t)
  same told =
      sym (found_same (decode_table r.rows t) (sound_lines r t (sound_of sound)).rising (ids_of place) k there
      (compared Equal told))

pub loop-low-preserved-in-Less : goal.loop-low-preserved-in-Less
loop-low-preserved-in-Less c =
    let at = c.loop-low in
    record {
      between = omega arith;
      inside = omega arith;
      below = below c.args.self.sound (at.low + (at.high - at.low) / 2) (omega arith) c.position.result c.args.place.now
          c.position.ensures c.in-Less.ensures;
      above = at.invariant.above;
    }

pub returns-in-Equal : goal.returns-in-Equal
returns-in-Equal c =
    let at = c.loop-low in
    same c.args.self.sound (at.low + (at.high - at.low) / 2) (omega arith) c.position.result c.args.place.now
    c.position.ensures c.in-Equal.ensures

pub loop-low-preserved : goal.loop-low-preserved
loop-low-preserved c =
    let at = c.loop-low in
    record {
      between = omega arith;
      inside = omega arith;
      below = at.invariant.below;
      above = λ h. compared c.args.self.sound (at.low + (at.high - at.low) / 2) h c.position.result c.args.place.now
          c.position.ensures Greater c.in-Greater.ensures;
    }

pub returns : goal.returns
returns c =
    let at = c.loop-low in
    let a = c.args.self in
    let lines = decode_table a.replica.rows a.table.now in
    let size : length lines ≡ a.replica.rows = lines_length a.replica.rows a.table.now in
    let end : at.low ≡ at.high = omega arith in
    sym (found_gap (ids_of c.args.place.now) at.low lines (omega arith) at.invariant.below
    (λ h. rw end (at.invariant.above (omega arith))))
