-- `replica_compare` meets its contract: each answer is the first check that holds, the lengths before the counts.
-- Assumes nothing.
use Rattle.std.proofs.Common.{ℕ, ◌≡◌, refl, sym, ap, ◌∙◌, Bool, List, length, replicate, map, Option, Result, Ok, Err, rules}
use borrow.Author.Tests.{eq-eqb}
use mathlib.Core.List.{zip_with}
use Rattle.rows.specs.Rows.{flat}
use Rattle.record.specs.Records.{counts_size, counts_of}
use Rattle.format.specs.declared.answers.Refusal.{Refusal}
use Rattle.format.specs.Answers.{first_of, refusal_number}
use Rattle.format.proofs.Checked.{passed_done, answer_done, refused_alike}
use Rattle.replica.specs.declared.compare.Missing.{Missing}
use Rattle.replica.specs.Compare.{Compared, no_lack, lack_of, lack_given, compared, compare_checks, compare_call}
use Rattle.host.specs.Calls.{lacks_size, lack_bytes, ComparedBytes, compare_bytes}
use Rattle.host.proofs.Calls.{refusal_not_0}
use Rattle.host.proofs.replica_compare.Goals.{then-first-ne-COUNTS-via-then-first-ne-COUNTS, then-first-ne-COUNTS-via-else-first-ne-COUNTS+then-second-ne-COUNTS, then-first-ne-COUNTS-via-else-first-ne-COUNTS+else-second-ne-COUNTS+then-res-ne-LACKS}
use Rattle.host.proofs.replica_compare.Goals as goal

-- where all lengths are right, the checks of the counts are left
module _ (first second res : List ℕ) (size : length first ≡ counts_size) (size' : length second ≡ counts_size)
    (room : length res ≡ lacks_size) where
  abbrev bytes : ComparedBytes
  bytes = compare_bytes first second res

  abbrev checks : List (Bool × ℕ)
  checks = compare_checks (counts_of first) (counts_of second)

  abbrev call : Compared
  call = compare_call (counts_of first) (counts_of second)

  -- a refused call and a done one, of the counts and of the bytes
  abbrev nothing : ℕ → Compared
  nothing n = record { answer = n; sites = replicate 16 no_lack }

  abbrev lacks : Compared
  lacks = record { answer = 0; sites = zip_with lack_of (counts_of first) (counts_of second) }

  abbrev stays : ℕ → ComparedBytes
  stays n = record { answer = n; result = res }

  abbrev lacked : ComparedBytes
  lacked = record { answer = 0; result = flat lack_bytes call.sites }

  counts_left : bytes ≡ first_of checks stays lacked
  unfolding compare_bytes first_of
  counts_left =
      rw (eq-eqb (length first) counts_size size, eq-eqb (length second) counts_size size')
      (rw (eq-eqb (length res) lacks_size room))

  -- a count is too large
  counts_refused : (call.answer ≡ 0 → ⊥) → stays call.answer ≡ bytes
  unfolding compare_call
  counts_refused other =
      sym (counts_left ∙ refused_alike nothing lacks (λ (c : Compared). c.answer) (λ n. refl) stays lacked checks other)

  -- 0: compared
  counts_compared : call.answer ≡ 0 → lacked ≡ bytes
  unfolding compare_call compare_checks
  counts_compared answered =
      let told = answer_done nothing lacks (λ (c : Compared). c.answer) (λ n. refl) 0 checks refl answered in
      sym (counts_left ∙ passed_done stays lacked checks told.0)

  -- the same of what the code compared
  module _ {a b : List ℕ} (given : Result (List (Option Missing)) Refusal) (read : a ≡ counts_of first) (read' : b ≡ counts_of second)
      (made : compared given ≡ compare_call a b) where
    is_call : compared given ≡ call
    is_call = made ∙ rw (read, read')

    refused : (why : Refusal) → given ≡ Err why → stays (refusal_number why) ≡ bytes
    refused why err =
        let told : call ≡ compared (Err why) = sym is_call ∙ ap compared err in
        let answer = ap (λ (c : Compared). c.answer) told in
        sym (ap stays answer) ∙ counts_refused (λ e. refusal_not_0 why (sym answer ∙ e))

    all_given : (sites : List (Option Missing)) {after : List ℕ} → given ≡ Ok sites → after ≡ flat lack_bytes (map lack_given sites)
        → record { answer = 0; result = after } ≡ bytes
    all_given sites ok wrote =
        let told : call ≡ compared (Ok sites) = sym is_call ∙ ap compared ok in
        rw (wrote, ← ap (λ (c : Compared). c.sites) told) (counts_compared (ap (λ (c : Compared). c.answer) told))

-- 1: a length is wrong
pub returns-then-first-ne-COUNTS : goal.returns-then-first-ne-COUNTS
unfolding compare_bytes first_of
returns-then-first-ne-COUNTS c =
    elim c.then-first-ne-COUNTS.branch [
      | then-first-ne-COUNTS-via-then-first-ne-COUNTS w ↦ search rules
      | then-first-ne-COUNTS-via-else-first-ne-COUNTS+then-second-ne-COUNTS w ↦ search rules
      | then-first-ne-COUNTS-via-else-first-ne-COUNTS+else-second-ne-COUNTS+then-res-ne-LACKS w ↦ search rules
    ]

pub returns-in-Ok : goal.returns-in-Ok
returns-in-Ok c =
    let a = c.args in
    rw c.from-in-Ok.ensures
    (all_given a.first.now a.second.now a.res.now c.if-first-ne-COUNTS.false c.if-second-ne-COUNTS.false
    c.if-res-ne-LACKS.false _ c.read_counts.ensures c.read_counts-2.ensures c.compare_counts.ensures _ c.in-Ok.is c.write_lacks.ensures)

pub returns-in-Err : goal.returns-in-Err
returns-in-Err c =
    let a = c.args in
    rw c.from-in-Err.ensures
    (refused a.first.now a.second.now a.res.now c.if-first-ne-COUNTS.false c.if-second-ne-COUNTS.false
    c.if-res-ne-LACKS.false _ c.read_counts.ensures c.read_counts-2.ensures c.compare_counts.ensures _ c.in-Err.is)
