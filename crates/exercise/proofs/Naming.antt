-- What comparing two hosts' counts names: exactly the patches that the one has received and the other has not.
-- Assumes nothing.
use Prim.Native.Nat.{ℕ, suc, ◌-◌, ◌≤◌, ◌<◌}
use native.Mathlib.Decide.{dec_le}
use native.Mathlib.Omega.{arith}
use borrow.Author.Tests.{eq-eqb, ltb-true, ltb-false}
use mathlib.Core.Path.{◌≡◌, refl, ap, ◌∙◌}
use mathlib.Core.Bool.{Bool, true, false, cond}
use mathlib.Core.Logic.{◌↔◌, by_cases}
use mathlib.Core.List.{List, zip_with}
use lib.Dec.{ltb}
use lib.ListN.{length, drop, get_or, length-drop}
use Rattle.position.proofs.Decided.{decided_true}
use Rattle.rows.specs.Rows.{flat}
use Rattle.record.specs.Records.{count_of, CountsFit, record_size, counts_size, counts_of, record_of, record_read}
use Rattle.record.proofs.Decided.{counts_fit?}
use Rattle.format.specs.Answers.{first_of}
use Rattle.format.proofs.Checked.{Passed, passed_done}
use Rattle.replica.specs.Compare.{Lack, Compared, no_lack, lack_of, compare_checks, compare_call}
use Rattle.replica.proofs.Compared.{together_at}
use Rattle.host.specs.Calls.{lacks_size, lack_bytes, ComparedBytes, compare_bytes}
use Rattle.exercise.specs.World.{Host, Site}
use Rattle.exercise.specs.Condition3.{counts_at, Has, Counted, lacks_of, Named}

-- What two counts tell: the numbers above the smaller, up to the larger.
module _ (a b n : ℕ) where
  abbrev In : ℕ → Lack → Type 0
  In side l = (l.more ≡ side) × ((l.first ≤ n) × (n ≤ l.last))

  lack_first : In 1 (lack_of a b) ↔ ((b < n) × (n ≤ a))
  unfolding lack_of
  lack_first = by (ltb b a) refl (ltb a b) refl
    where
      by : (x : Bool) → ltb b a ≡ x → (y : Bool) → ltb a b ≡ y
          → In 1 (cond x (record { more = 1; first = suc b; last = a }) (cond y (record { more = 2; first = suc a; last = b }) no_lack)) ↔ ((b < n) × (n ≤ a))
      by true e y f = ((λ l. (l.1.0, l.1.1)), (λ h. (refl, (h.0, h.1))))
      by false e true f = ((λ l. absurd (omega (arith, l.0))), (λ h. absurd (omega (arith, h.0, h.1, ltb-false b a e))))
      by false e false f = ((λ l. absurd (omega (arith, l.0))), (λ h. absurd (omega (arith, h.0, h.1, ltb-false b a e))))

  lack_second : In 2 (lack_of a b) ↔ ((a < n) × (n ≤ b))
  unfolding lack_of
  lack_second = by (ltb b a) refl (ltb a b) refl
    where
      by : (x : Bool) → ltb b a ≡ x → (y : Bool) → ltb a b ≡ y
          → In 2 (cond x (record { more = 1; first = suc b; last = a }) (cond y (record { more = 2; first = suc a; last = b }) no_lack)) ↔ ((a < n) × (n ≤ b))
      by true e y f = ((λ l. absurd (omega (arith, l.0))), (λ h. absurd (omega (arith, h.0, h.1, ltb-true b a e))))
      by false e true f = ((λ l. (l.1.0, l.1.1)), (λ h. (refl, (h.0, h.1))))
      by false e false f = ((λ l. absurd (omega (arith, l.0))), (λ h. absurd (omega (arith, h.0, h.1, ltb-false a b f))))

-- the one has it and the other lacks it
between : (h k : Host) → Counted h → Counted k → (a : Site) (n : ℕ)
    → ((count_of (counts_at k) a.number < n) × (n ≤ count_of (counts_at h) a.number)) ↔ (Has h a.number n × (Has k a.number n → ⊥))
between h k counted counted' a n = (
  (λ in_between. (
    (counted a n).1 (omega (arith, in_between.0), in_between.1),
    λ has. omega (arith, in_between.0, ((counted' a n).0 has).1),
  )),
  (λ told.
      let has = (counted a n).0 told.0 in (
        by_cases (dec_le n (count_of (counts_at k) a.number)) (λ upto. absurd (told.1 ((counted' a n).1 (has.0, upto)))) (λ above. omega (arith, above)),
        has.1,
      )),
)

-- the counts of a record stand from its byte 3 on
counts_there : (state : List ℕ) → length state ≡ record_size → counts_of (drop 3 state) ≡ (record_read state).counts
unfolding record_read record_of
counts_there state size = rw (eq-eqb (length state) record_size size)

module _ (h k : Host) (size : length h.state ≡ record_size) (size' : length k.state ≡ record_size)
    (long : length (counts_at h) ≡ 16) (long' : length (counts_at k) ≡ 16)
    (fit : CountsFit (counts_at h)) (fit' : CountsFit (counts_at k)) where
  abbrev lacks : List Lack
  lacks = zip_with lack_of (counts_at h) (counts_at k)

  passed : Passed (compare_checks (counts_at h) (counts_at k))
  unfolding compare_checks
  passed = (rw (decided_true (counts_fit? (counts_at h)) fit, decided_true (counts_fit? (counts_at k)) fit'), tt)

  call : compare_call (counts_at h) (counts_at k) ≡ record { answer = 0; sites = lacks }
  unfolding compare_call
  call = passed_done _ _ (compare_checks (counts_at h) (counts_at k)) passed

  compared : (result : List ℕ) → length result ≡ lacks_size
      → compare_bytes (drop 3 h.state) (drop 3 k.state) result ≡ record { answer = 0; result = flat lack_bytes (lacks_of h k) }
  unfolding compare_bytes first_of
  compared result room =
      let first = drop 3 h.state in
      let second = drop 3 k.state in
      let first-size : length first ≡ counts_size = omega (arith, length-drop 3 h.state) in
      let second-size : length second ≡ counts_size = omega (arith, length-drop 3 k.state) in
      let stays : ℕ → ComparedBytes = λ n. record { answer = n; result = result } in
      rw (eq-eqb (length first) counts_size first-size, eq-eqb (length second) counts_size second-size)
      (rw (eq-eqb (length result) lacks_size room, counts_there h.state size, counts_there k.state size')
      (passed_done stays (record { answer = 0; result = flat lack_bytes (lacks_of h k) })
      (compare_checks (counts_at h) (counts_at k)) passed))

  lack_at : (a : Site) → get_or (lacks_of h k) (a.number - 1) no_lack ≡ lack_of (count_of (counts_at h) a.number) (count_of (counts_at k) a.number)
  lack_at a =
      ap (λ (c : Compared). get_or c.sites (a.number - 1) no_lack) call
      ∙ together_at lack_of (counts_at h) (counts_at k) (a.number - 1) 0 0 no_lack (omega (arith, a.least, a.most)) (omega (arith, a.least, a.most))

  abbrev count : Host → Site → ℕ
  count x a = count_of (counts_at x) a.number

  pub names : Counted h → Counted k → Named h k
  names counted counted' =
      record {
        compared = compared;
        first = λ a n. rw (lack_at a) (both (lack_first (count h a) (count k a) n) (between h k counted counted' a n));
        second = λ a n. rw (lack_at a) (both (lack_second (count h a) (count k a) n) (between k h counted' counted a n));
      }
    where
      both : {A B C : Type 0} → A ↔ B → B ↔ C → A ↔ C
      both f g = ((λ a. g.0 (f.0 a)), (λ c. f.1 (g.1 c)))
