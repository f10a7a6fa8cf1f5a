-- What is decided: records field by field, what holds at each number below a bound, identifiers, a
-- line's position, and which of two positions stands below.
-- Assumes nothing.
use Prim.Native.Nat.{ℕ, zero, suc, ◌≤◌, ◌<◌}
use native.Mathlib.Omega.{arith}
use native.Mathlib.Nat.{eq-or-lt_of_le}
use native.Mathlib.Decide.{map_dec, ℕ_discrete, dec_le}
use mathlib.Core.Path.{◌≡◌, refl, sym, ap, subst}
use mathlib.Core.Bool.{true, false, decide}
use mathlib.Core.Logic.Dec
use mathlib.Core.Logic.{◌⊎◌, inl, inr, ⊎_elim}
use mathlib.Core.List.{List}
use lib.ListN.{length, get_or}
use Rattle.position.specs.declared.Identifier.{Identifier}
use Rattle.std.specs.declared.cmp.Ordering.{Ordering}
use Rattle.std.specs.declared.cmp.Ordering.TheVariants.{Less, Equal, Greater}
use Rattle.position.specs.Positions.{pad, Proper, last_of, LinePosition}
use Rattle.position.specs.Order.{order_of, ◌≺◌}
use Rattle.position.proofs.Ordered.{never}

-- The answer of a decision.

pub decided_true : {P : Type 0} (d : Dec P) → P → decide d ≡ true
unfolding decide
decided_true (yes p) h = refl
decided_true (no wrong) h = absurd (wrong h)

pub decided_false : {P : Type 0} (d : Dec P) → (P → ⊥) → decide d ≡ false
unfolding decide
decided_false (yes p) wrong = absurd (wrong p)
decided_false (no _) wrong = refl

-- A record is decided field by field: where one field is refused so is the record, otherwise go on.
pub by_field : {A R : Type 0} → Dec A → (R → A) → (A → Dec R) → Dec R
by_field (yes a) field next = next a
by_field (no wrong) field next = no (λ r. wrong (field r))

-- that one fact gives another
pub implied? : {A B : Type 0} → Dec A → Dec B → Dec (A → B)
implied? (no wrong) b? = yes (λ a. absurd (wrong a))
implied? (yes a) (yes b) = yes (λ _. b)
implied? (yes a) (no wrong) = no (λ f. wrong (f a))

-- one of two facts
pub either? : {A B : Type 0} → Dec A → Dec B → Dec (A ⊎ B)
either? (yes a) b? = yes (inl a)
either? (no wrong) (yes b) = yes (inr b)
either? (no wrong) (no wrong') = no (λ either. ⊎_elim wrong wrong' either)

-- at each number below n
pub each_below? : {P : ℕ → Type 0} → ((k : ℕ) → Dec (P k)) → (n : ℕ) → Dec ((k : ℕ) → k < n → P k)
each_below? {P} P? zero = yes (λ k below. absurd (omega arith))
each_below? {P} P? (suc n) =
    by_field (each_below? P? n) (λ every k below. every k (omega arith)) λ so_far.
    by_field (P? n) (λ every. every n (omega arith)) λ here.
    yes (λ k below.
    ⊎_elim (λ (e : k ≡ n). subst P (sym e) here) (λ (less : k < n). so_far k less) (eq-or-lt_of_le (omega arith)))

-- at each number from m on below n
pub each_within? : {P : ℕ → Type 0} → ((k : ℕ) → Dec (P k)) → (m n : ℕ) → Dec ((k : ℕ) → m ≤ k → k < n → P k)
each_within? {P} P? m n =
    map_dec
    (λ (every : (k : ℕ) → k < n → m ≤ k → P k) k from below. every k below from)
    (λ every k below from. every k from below)
    (each_below? (λ k. implied? (dec_le m k) (P? k)) n)

-- whether two identifiers are the same
pub identifier? : (i j : Identifier) → Dec (i ≡ j)
identifier? i j =
    by_field (ℕ_discrete i.integer j.integer) (ap (λ (k : Identifier). k.integer)) λ integer.
    by_field (ℕ_discrete i.site j.site) (ap (λ (k : Identifier). k.site)) λ site.
    yes (λ d. record { integer = integer d; site = site d })

-- whether an identifier is the pad or a whole one in range
pub proper? : (i : Identifier) → Dec (Proper i)
proper? i =
    by_field
    (either? (identifier? i pad) (Dec.and (dec_le 1 i.integer) (dec_le 1 i.site)))
    (λ fits. fits.pad_or_whole) λ pad_or_whole.
    by_field (dec_le i.integer 65535) (λ fits. fits.integer) λ integer.
    by_field (dec_le i.site 16) (λ fits. fits.site) λ site.
    yes (record { pad_or_whole = pad_or_whole; integer = integer; site = site })

-- whether a list is a line's position
pub line_position? : (l : List Identifier) → Dec (LinePosition l)
line_position? l =
    by_field (dec_le 1 (length l)) (λ fits. fits.least) λ least.
    by_field (dec_le (length l) 8) (λ fits. fits.most) λ most.
    by_field (each_below? (λ k. proper? (get_or l k pad)) (length l)) (λ fits. fits.proper) λ proper.
    by_field (Dec.not (identifier? (last_of l) pad)) (λ fits. fits.unpadded) λ unpadded.
    by_field (dec_le (get_or l 0 pad).integer 65534) (λ fits. fits.first) λ first.
    yes (record { least = least; most = most; proper = proper; unpadded = unpadded; first = first })

-- whether one position stands below another
below? : (o : Ordering) → Dec (o ≡ Less)
below? Less = yes refl
below? Equal = no (λ e. never (cc))
below? Greater = no (λ e. never (cc))

pub under? : (p q : List Identifier) → Dec (p ≺ q)
under? p q = below? (order_of p q)
