-- The answers of `place`: where front k has room, the place is in it; where it has none, the search goes on.
use Rattle.std.proofs.Common.{◌≡◌, ℕ, suc, ◌+◌, ◌-◌, ◌<◌, ◌≤◌, max, List, sym, ap, ◌∙◌, add-one, arith}
use Rattle.std.proofs.Math.Option.{none, some}
use Rattle.position.specs.declared.Identifier.{Identifier}
use Rattle.position.specs.declared.Position.{Position}
use Rattle.position.specs.Positions.{ids_of, position_of}
use Rattle.position.specs.Rule.{followed_by}
use Rattle.position.specs.Place.{front_at, x_of, first_over, room_at, room_from, room_of, place_of}
use Rattle.position.proofs.Ids.{position_ids}
use Rattle.position.proofs.Rooms.{fronted, room_none, room_here, room_later, room_is, place_in, place_none}
use Rattle.position.proofs.place.place.Goals as goal

module _ (p q : List Identifier) where
  module _ (s k : ℕ) (left : k < 8) (same : room_from p q s (8 - k) k ≡ room_of p q s) where
    -- what the calls behind front k tell of it: the first x over p, the first from 1 on, and the first over q
    module _ (f : Position) (first lo past : ℕ) (e : f ≡ position_of (front_at p q k)) (over : first ≡ first_over 1 p (ids_of f) s) (low : lo ≡ max first 1) (high : past ≡ first_over 0 q (ids_of f) s) (most : past ≤ 65536) where
      found : room_at p q s k ≡ record { front = ids_of f; lo = lo; c = past - lo }
      found =
          room_is p q s k lo past (ids_of f) (ap ids_of e ∙ position_ids (front_at p q k)) (omega arith) high most

      -- where front k has room, the place is in it
      ends : lo < past → (draw : ℕ) → place_of p q s draw ≡ some (followed_by (ids_of f) (x_of lo (past - lo) draw) s)
      ends h draw =
          let more : 8 - k ≡ suc (7 - k) = omega arith in
          let here : 0 < (room_at p q s k).c = rw found (omega arith) in
          place_in p q s draw (record { front = ids_of f; lo = lo; c = past - lo })
          (sym same ∙ ap (λ (n : ℕ). room_from p q s n k) more ∙ room_here p q s (7 - k) k here ∙ ap some found)

      -- where it has none, the search goes on
      goes_on : past ≤ lo → room_from p q s (8 - (k + 1)) (k + 1) ≡ room_of p q s
      goes_on h =
          let more : 8 - k ≡ suc (8 - (k + 1)) = omega arith in
          let none_here : (room_at p q s k).c ≡ 0 = rw found (omega arith) in
          ap (room_from p q s (8 - (k + 1))) (add-one k)
          ∙ sym (room_later p q s (8 - (k + 1)) k none_here)
          ∙ ap (λ (n : ℕ). room_from p q s n k) (sym more)
          ∙ same

  -- where no front is left, there is no place
  nowhere : (s k : ℕ) → 8 ≤ k → room_from p q s (8 - k) k ≡ room_of p q s → (draw : ℕ) → place_of p q s draw ≡ none
  nowhere s k h same draw =
      let over : 8 - k ≡ 0 = omega arith in
      place_none p q s draw (sym same ∙ ap (λ (n : ℕ). room_from p q s n k) over ∙ room_none p q s k)

pub first_over-requires : goal.first_over-requires
first_over-requires c = fronted _ _ _ _ c.front_at-front.ensures (omega arith)

pub first_over-past-requires : goal.first_over-past-requires
first_over-past-requires c = fronted _ _ _ _ c.front_at-front.ensures (omega arith)

pub followed_by-requires : goal.followed_by-requires
followed_by-requires c = fronted _ _ _ _ c.front_at-front.ensures (omega arith)

pub returns-then-lo-past : goal.returns-then-lo-past
returns-then-lo-past c =
    let here =
    ends (ids_of c.args.p.now) (ids_of c.args.q.now) c.args.site c.loop-k.k (omega arith) c.loop-k.invariant
    c.front_at-front.result _ _ _ c.front_at-front.ensures c.first_over.ensures.first c.max-lo.ensures c.first_over-past.ensures.first c.first_over-past.ensures.most
    c.if-lo-past.true c.args.draw in
    rw (here, c.followed_by.ensures, c.x_of-x.ensures)

pub loop-k-preserved : goal.loop-k-preserved
loop-k-preserved c =
    goes_on (ids_of c.args.p.now) (ids_of c.args.q.now) c.args.site c.loop-k.k (omega arith) c.loop-k.invariant
    c.front_at-front.result _ _ _ c.front_at-front.ensures c.first_over.ensures.first c.max-lo.ensures c.first_over-past.ensures.first c.first_over-past.ensures.most
    c.if-lo-past.false

pub returns : goal.returns
returns c =
    let none_left = nowhere (ids_of c.args.p.now) (ids_of c.args.q.now) c.args.site c.loop-k.k (omega arith) c.loop-k.invariant c.args.draw in
    rw none_left
