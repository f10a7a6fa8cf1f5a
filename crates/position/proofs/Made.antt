-- `place_of` is the rule of specs/Rule.antt, in both directions: what it gives is the rule's place
-- (`made`), and the rule's place is what it gives (`only_made`); it gives none exactly where there is
-- no candidate (`missing`, `only_then`). A place made lies strictly between P and Q.
-- Assumes nothing.
use Prim.Native.Nat.{ℕ, zero, suc, ◌+◌, ◌-◌, ◌%◌, ◌≤◌, ◌<◌, min, max}
use native.Mathlib.Nat.{mod-lt, eq-or-lt_of_le}
use native.Mathlib.Omega.{arith}
use mathlib.Core.Path.{◌≡◌, refl, sym, ap, ◌∙◌, subst}
use mathlib.Core.Logic.{⊎_elim, ◌↔◌}
use mathlib.Core.Option.{Option, none, some}
use mathlib.Core.List.{List}
use Rattle.position.specs.declared.Identifier.{Identifier}
use Rattle.position.specs.Order.{◌≺◌}
use Rattle.position.specs.Place.{front_at, x_of, first_over, Room, room_at, room_from, room_of, place_of}
use Rattle.position.specs.Rule.{padded, followed_by, Candidate, Placement, NoPlace}
use Rattle.position.proofs.Ordered.{never}
use Rattle.position.proofs.Bounds.{over_from, under_before}
use Rattle.position.proofs.Rooms.{room_none, room_here, room_later, room_starts, place_in, place_none}

module _ (p q : List Identifier) (s : ℕ) where
  -- the candidates of length d are the room behind the front of d - 1
  pub candidates : (d x : ℕ) → Candidate p q s d x ↔ (((room_at p q s (d - 1)).lo ≤ x) × (x < (room_at p q s (d - 1)).lo + (room_at p q s (d - 1)).c))
  unfolding room_at front_at
  candidates d x = (inside, outside)
    where
      f : List Identifier
      f = padded p (d - 1)

      lo : ℕ
      lo = max 1 (first_over 1 p f s)

      inside : Candidate p q s d x → (lo ≤ x) × (x < lo + (min 65536 (first_over 0 q f s) - lo))
      inside h =
          let over : first_over 1 p f s ≤ x = (over_from p f s x h.most).0 h.over in
          let under : x < first_over 0 q f s = (under_before q f s x h.most).0 h.under in
          (omega arith, omega arith)

      outside : (lo ≤ x) × (x < lo + (min 65536 (first_over 0 q f s) - lo)) → Candidate p q s d x
      outside h =
          let most : x ≤ 65535 = omega arith in
          record {
            least = omega arith;
            most = most;
            over = (over_from p f s x most).1 (omega arith);
            under = (under_before q f s x most).1 (omega arith);
          }

  -- What a search over the fronts k, k + 1, .., of which `left` are left, comes to.
  data Search (left k : ℕ) : Option Room → Type 0 where
    hit : (m : ℕ) → k ≤ m → m < k + left → 0 < (room_at p q s m).c → ((j : ℕ) → k ≤ j → j < m → (room_at p q s j).c ≡ 0) → Search left k (some (room_at p q s m))
    miss : ((j : ℕ) → k ≤ j → j < k + left → (room_at p q s j).c ≡ 0) → Search left k none

  later : (left k : ℕ) (o : Option Room) → (room_at p q s k).c ≡ 0 → Search left (suc k) o → Search (suc left) k o
  later left k o e found = by o found
    where
      none_before : (n : ℕ) → ((j : ℕ) → suc k ≤ j → j < n → (room_at p q s j).c ≡ 0) → (j : ℕ) → k ≤ j → j < n → (room_at p q s j).c ≡ 0
      none_before n h j from to = ⊎_elim (λ same. subst (λ (i : ℕ). (room_at p q s i).c ≡ 0) same e) (λ l. h j l to) (eq-or-lt_of_le from)

      by : (o : Option Room) → Search left (suc k) o → Search (suc left) k o
      by none (miss h) = miss (λ j from to. none_before (suc k + left) h j from (omega arith))
      by (some r) (hit m from to room h) = hit m (omega arith) (omega arith) room (none_before m h)

  searched : (left k : ℕ) → Search left k (room_from p q s left k)
  searched zero k = rw (room_none p q s k) (miss (λ j from to. absurd (omega arith)))
  searched (suc left) k = by (room_at p q s k).c refl (searched left (suc k))
    where
      by : (c : ℕ) → (room_at p q s k).c ≡ c → Search left (suc k) (room_from p q s left (suc k)) → Search (suc left) k (room_from p q s (suc left) k)
      by zero e found = rw (room_later p q s left k e) (later left k (room_from p q s left (suc k)) e found)
      by (suc c) e found =
          let room : 0 < (room_at p q s k).c = omega arith in
          rw (room_here p q s left k room) (hit k (omega arith) (omega arith) room (λ j from to. absurd (omega arith)))

  -- a front without room has no candidate
  no_candidate : (d x : ℕ) → (room_at p q s (d - 1)).c ≡ 0 → Candidate p q s d x → ⊥
  no_candidate d x e h = let within = (candidates d x).0 h in omega arith

  -- the rule's place in the room that the search found
  placed_at : (draw m : ℕ) → m < 8 → 0 < (room_at p q s m).c → ((j : ℕ) → j < m → (room_at p q s j).c ≡ 0) → let room = room_at p q s m in Placement p q s draw (followed_by (padded p m) (room.lo + draw % room.c) s)
  placed_at draw m short room before =
      record {
        d = m + 1;
        lo = (room_at p q s m).lo;
        c = (room_at p q s m).c;
        from_1 = omega arith;
        up_to_8 = omega arith;
        smallest = λ e from to x. no_candidate e x (before (e - 1) (omega arith));
        some = room;
        run = λ x. subst (λ (k : ℕ). Candidate p q s (m + 1) x ↔ (((room_at p q s k).lo ≤ x) × (x < (room_at p q s k).lo + (room_at p q s k).c))) back (candidates (m + 1) x);
        place_is = ap (λ (k : ℕ). followed_by (padded p k) ((room_at p q s m).lo + draw % (room_at p q s m).c) s) (sym back);
      }
    where
      back : (m + 1) - 1 ≡ m
      back = omega arith

  -- What `place_of` comes to: the rule's place, or none where there is no candidate.
  data Outcome (draw : ℕ) : Option (List Identifier) → Type 0 where
    a_place : (place : List Identifier) → Placement p q s draw place → Outcome draw (some place)
    no_place : NoPlace p q s → Outcome draw none

  outcome : (draw : ℕ) → Outcome draw (place_of p q s draw)
  unfolding x_of room_at front_at
  outcome draw = by (room_from p q s 8 0) (searched 8 0) (room_starts p q s)
    where
      by : (o : Option Room) → Search 8 0 o → o ≡ room_of p q s → Outcome draw (place_of p q s draw)
      by none (miss h) e = rw (place_none p q s draw (sym e)) (no_place (λ d from to x. no_candidate d x (h (d - 1) (omega arith) (omega arith))))
      by (some r) (hit m from to room h) e =
          rw (place_in p q s draw (room_at p q s m) (sym e))
          (a_place _ (placed_at draw m (omega arith) room (λ j. h j (omega arith))))

  -- the first of a run is a candidate
  first_of : {draw : ℕ} {l : List Identifier} (r : Placement p q s draw l) → Candidate p q s r.d r.lo
  first_of r = (r.run r.lo).1 (omega arith, omega (arith, r.some))

  -- The rule leaves no choice: its length, its run and so its place are one.
  unshorter : {draw : ℕ} {a b : List Identifier} (one : Placement p q s draw a) (other : Placement p q s draw b) → one.d < other.d → ⊥
  unshorter one other h = other.smallest one.d one.from_1 h one.lo (first_of one)

  same_length : {draw : ℕ} {a b : List Identifier} (one : Placement p q s draw a) (other : Placement p q s draw b) → one.d ≡ other.d
  same_length one other =
      let no : ¬ (one.d < other.d) = unshorter one other in
      let nor : ¬ (other.d < one.d) = unshorter other one in
      omega arith

  inside_run : {draw : ℕ} {a b : List Identifier} (one : Placement p q s draw a) (other : Placement p q s draw b) (x : ℕ) → one.lo ≤ x → x < one.lo + one.c → (other.lo ≤ x) × (x < other.lo + other.c)
  inside_run one other x h k =
      (other.run x).0 (subst (λ (d : ℕ). Candidate p q s d x) (same_length one other) ((one.run x).1 (h, k)))

  same_place : {draw : ℕ} {a b : List Identifier} → Placement p q s draw a → Placement p q s draw b → a ≡ b
  same_place {draw} {a} {b} one other =
      let d : one.d ≡ other.d = same_length one other in
      let first = inside_run one other one.lo (omega arith) (omega (arith, one.some)) in
      let first' = inside_run other one other.lo (omega arith) (omega (arith, other.some)) in
      let last = inside_run one other (one.lo + one.c - 1) (omega (arith, one.some)) (omega (arith, one.some)) in
      let last' = inside_run other one (other.lo + other.c - 1) (omega (arith, other.some)) (omega (arith, other.some)) in
      let lo : one.lo ≡ other.lo = omega arith in
      let c : one.c ≡ other.c = omega (arith, one.some, other.some) in
      one.place_is
      ∙ (λ t. followed_by (padded p (d t - 1)) (lo t + draw % c t) s)
      ∙ sym other.place_is

  pub made : (draw : ℕ) (place : List Identifier) → place_of p q s draw ≡ some place → Placement p q s draw place
  made draw place e = by (place_of p q s draw) (outcome draw) e
    where
      by : (o : Option (List Identifier)) → Outcome draw o → o ≡ some place → Placement p q s draw place
      by none (no_place h) k = never (cc)
      by (some l) (a_place m r) k = subst (Placement p q s draw) (cc) r

  pub missing : (draw : ℕ) → place_of p q s draw ≡ none → NoPlace p q s
  missing draw e = by (place_of p q s draw) (outcome draw) e
    where
      by : (o : Option (List Identifier)) → Outcome draw o → o ≡ none → NoPlace p q s
      by none (no_place h) k = h
      by (some l) (a_place m r) k = never (cc)

  pub only_then : (draw : ℕ) → NoPlace p q s → place_of p q s draw ≡ none
  only_then draw h = by (place_of p q s draw) (outcome draw)
    where
      by : (o : Option (List Identifier)) → Outcome draw o → o ≡ none
      by none (no_place k) = refl
      by (some l) (a_place m r) = absurd (h r.d r.from_1 r.up_to_8 r.lo (first_of r))

  pub only_made : (draw : ℕ) (place : List Identifier) → Placement p q s draw place → place_of p q s draw ≡ some place
  only_made draw place one = by (place_of p q s draw) (outcome draw)
    where
      by : (o : Option (List Identifier)) → Outcome draw o → o ≡ some place
      by none (no_place h) = absurd (h one.d one.from_1 one.up_to_8 one.lo (first_of one))
      by (some l) (a_place m r) = ap some (same_place r one)

  -- the x that the draw picks is one of the run
  pub picked : {draw : ℕ} {l : List Identifier} (r : Placement p q s draw l) → Candidate p q s r.d (r.lo + draw % r.c)
  picked {draw} r = (r.run (r.lo + draw % r.c)).1 (omega arith, omega (arith, mod-lt draw r.some))

  pub made_between : (draw : ℕ) (place : List Identifier) → place_of p q s draw ≡ some place → (p ≺ place) × (place ≺ q)
  made_between draw place e =
      let r = made draw place e in
      rw r.place_is ((picked r).over, (picked r).under)
