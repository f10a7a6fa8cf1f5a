-- The identifiers of a position, and the one value of a list: what the functions' proofs need of
-- `ids_of` and `position_of`. A law that asks `length p.ids ≡ 8` asks what the type says.
-- Assumes nothing.
use Prim.Native.Nat.{ℕ, suc, ◌+◌, ◌-◌, ◌<◌, ◌≤◌, min}
use native.Mathlib.Numerals.{add-one}
use native.Mathlib.Omega.{arith}
use mathlib.Core.Path.{◌≡◌, refl, sym, ap, ◌∙◌, subst}
use mathlib.Core.List.{List, [], ◌∷◌, ◌++◌, append_assoc, map}
use Rattle.std.proofs.lemmas.List.{drop-replicate, take_min}
use lib.ListN.{length, take, drop, set, get_or, replicate, length-take, length-append, length-replicate, length-map, length-drop, get_or-replicate, take-append-drop, replicate-append-replicate}
use lib.Seq.{drop-cons, ext_get_or, get_or-drop, get_or-take, take_at, set_at, append_snoc}
use Rattle.position.specs.declared.Identifier.{Identifier}
use Rattle.position.specs.declared.Position.{Position}
use Rattle.position.specs.Positions.{identifier, pad, ids_of, position_of}
use Rattle.position.specs.Rule.{padded, followed_by}
use Rattle.position.specs.Place.{Front}

-- A field that is an array of structs is known by the length of its elements' images.
pub length_mapped {ℓ ℓ'} : {A : Type ℓ} {B : Type ℓ'} (f : A → B) (l : List A) (n : ℕ) → length (map f l) ≡ n → length l ≡ n
length_mapped f l n h = sym (length-map l f) ∙ h

pub ids_length : (p : Position) → length p.ids ≡ 8 → length (ids_of p) ≡ min p.used 8
ids_length p h = simp (length-take, h)

pub position_ids : (l : List Identifier) → ids_of (position_of l) ≡ l
position_ids l = take_at l (replicate (8 - length l) pad) (length l) refl

-- a value with pads behind its identifiers is the one value of their list
pub ids_position : (p : Position) → p.used ≤ 8 → length p.ids ≡ 8 → ((k : ℕ) → p.used ≤ k → k < 8 → get_or p.ids k pad ≡ pad)
    → position_of (ids_of p) ≡ p
ids_position p most size unused =
    let used : length (ids_of p) ≡ p.used = ids_length p size ∙ omega arith in
    let behind : drop p.used p.ids ≡ replicate (8 - p.used) pad =
    ext_get_or pad (drop p.used p.ids) (replicate (8 - p.used) pad)
    (simp (length-drop, length-replicate) (omega arith))
    (λ k less.
    let inside : k < 8 - p.used = omega (arith, length-drop p.used p.ids) in
    get_or-drop p.used p.ids k pad ∙ unused (p.used + k) (omega arith) (omega arith)
    ∙ sym (get_or-replicate (8 - p.used) k pad pad inside)) in
    λ d. record {
      used = used d;
      ids = (ap (λ (n : ℕ). ids_of p ++ replicate (8 - n) pad) used
          ∙ ap (λ (l : List Identifier). ids_of p ++ l) (sym behind)
          ∙ take-append-drop p.used p.ids) d;
    }

pub next_id : (p : Position) (n : ℕ) → n < length (ids_of p) → get_or (ids_of p) n pad ≡ get_or p.ids n pad
next_id p n h =
    let h' : n < p.used = omega (arith, length-take p.used p.ids) in
    get_or-take p.used p.ids n pad h'

-- what remains from n on, where something does
pub rest_cons : (p : Position) (n : ℕ) → n < length (ids_of p) → drop n (ids_of p) ≡ get_or p.ids n pad ∷ drop (n + 1) (ids_of p)
rest_cons p n h =
    rw (add-one n) (drop-cons (ids_of p) n pad h ∙ ap (λ (i : Identifier). i ∷ drop (suc n) (ids_of p)) (next_id p n h))

-- the first of the pads is written over
pub next_written : (l : List Identifier) (i : Identifier) → length l < 8 → set (position_of l).ids (length l) i ≡ (position_of (l ++ (i ∷ []))).ids
next_written l i h =
    let more : length (l ++ (i ∷ [])) ≡ length l + 1 = length-append l (i ∷ []) in
    let left : 8 - length (l ++ (i ∷ [])) ≡ 7 - length l = omega arith in
    let first : 8 - length l ≡ suc (7 - length l) = omega arith in
    rw (first, left)
    (set_at l pad (replicate (7 - length l) pad) i (length l) refl
    ∙ sym (append_snoc l i (replicate (7 - length l) pad)))

-- one identifier more, where there is room
list_extended : (l : List Identifier) (x s : ℕ) → length l < 8 → record { used = length l + 1; ids = set (position_of l).ids (length l) (identifier x s) } ≡ position_of (followed_by l x s)
list_extended l x s h =
    let more : length (followed_by l x s) ≡ length l + 1 = length-append l (identifier x s ∷ []) in
    λ d. record { used = sym more d; ids = next_written l (identifier x s) h d }

pub extended : (p : Position) (x s : ℕ) → Front p → record { used = p.used + 1; ids = set p.ids p.used (identifier x s) } ≡ position_of (followed_by (ids_of p) x s)
extended p x s h =
    let used : p.used ≡ length (ids_of p) = ap (λ (r : Position). r.used) h.pads in
    let short : length (ids_of p) < 8 = omega (arith, h.short) in
    subst
    (λ (r : Position). record { used = r.used + 1; ids = set r.ids r.used (identifier x s) } ≡ position_of (followed_by (ids_of p) x s))
    (sym h.pads)
    (list_extended (ids_of p) x s short)

-- the front that a list of fewer than 8 makes
pub is_front : (p : Position) (l : List Identifier) → p ≡ position_of l → length l < 8 → Front p
is_front p l e h =
    subst Front (sym e) (record { short = h; pads = ap position_of (sym (position_ids l)) })

pub padded_length : (l : List Identifier) (n : ℕ) → length (padded l n) ≡ n
unfolding padded
padded_length l n =
    simp (length-append, length-take, length-replicate) (omega arith)

-- p's identifiers in front of pads: `padded` writes them over the first of 8 pads
pub front_filled : (p : Position) (n own : ℕ) (part : List Identifier) (i : Identifier) → n ≤ 8 → own ≡ min n (length (ids_of p)) → part ≡ take own (ids_of p) → i.integer ≡ 0 → i.site ≡ 0 → record { used = n; ids = part ++ drop own (replicate 8 i) } ≡ position_of (padded (ids_of p) n)
unfolding padded
front_filled p n own part i h e first integer site =
    let ids = ids_of p in
    let own-part = take n ids in
    let more = replicate (n - length ids) pad in
    let taken : part ≡ own-part = first ∙ ap (λ (m : ℕ). take m ids) e ∙ take_min n ids in
    let a-pad : i ≡ pad = λ d. record { integer = integer d; site = site d } in
    let pads : 8 - own ≡ (n - length ids) + (8 - n) = omega (arith, length-take n ids) in
    let whole : length (own-part ++ more) ≡ n = padded_length ids n in
    let filled : part ++ drop own (replicate 8 i) ≡ (position_of (own-part ++ more)).ids =
    rw (taken, drop-replicate own 8 i, a-pad, pads, whole)
    (ap (λ (l : List Identifier). own-part ++ l) (sym (replicate-append-replicate (n - length ids) (8 - n) pad))
    ∙ sym (append_assoc own-part more (replicate (8 - n) pad))) in
    λ d. record { used = sym whole d; ids = filled d }
