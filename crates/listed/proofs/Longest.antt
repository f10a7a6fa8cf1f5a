-- No listing has more than 131,072 bytes, so a buffer of that size holds every listing whole: at most 5,462
-- patches, each answered with at most 15, and at most 512 rows.
-- Assumes nothing.
use Prim.Native.Nat.{ℕ, zero, suc, ◌+◌, ◌*◌, ◌≤◌, ◌<◌}
use native.Mathlib.Nat.{zero-add, eq-zero-or-pos}
use native.Mathlib.Decide.{ℕ_discrete}
use native.Mathlib.Omega.{arith}
use borrow.Author.Tests.{ltb-false}
use mathlib.Core.Path.{◌≡◌, refl, ◌∙◌}
use mathlib.Core.Logic.{⊎_elim, by_cases}
use mathlib.Core.Bool.{Bool, true, false, cond}
use mathlib.Core.List.{List, [], ◌∷◌}
use lib.Dec.{eqb, ltb}
use lib.ListN.{length, drop, get_or, length-append, length-drop}
use Rattle.rows.specs.Rows.{written}
use Rattle.record.specs.declared.Replica.{Replica}
use Rattle.script.specs.Lines.{Line, no_line}
use Rattle.script.proofs.Held.{SoundLines, sound_lines}
use Rattle.format.proofs.Sizes.{sizes}
use Rattle.reader.specs.Read.{read_first}
use Rattle.reader.proofs.Readings.{what_is_read}
use Rattle.effect.specs.Held.{Outcome}
use Rattle.replica.specs.Receive.{receive_call}
use Rattle.replica.proofs.Numbers.{receive_numbers}
use Rattle.listed.specs.Output.{behind}
use Rattle.listed.specs.Text.{ascii, patch_line, from_place, row_line, rows_text}
use Rattle.listed.specs.Listing.{most_input, first_in, cut, patches_in, fresh, fed, after_all, lines_in, report, listing}
use Rattle.listed.proofs.Behind.{behind_whole}
use Rattle.listed.proofs.Cuts.{none_length, some_length}
use Rattle.listed.proofs.Feeding.{Good, fresh_good, receive_good}
use Rattle.listed.proofs.Widths.{decimal_most, patch_line_most, row_line_most, lines_most}

-- A patch takes 12 bytes at least; what is no patch is the last that is fed.

patch_least : (s : List ℕ) → 1 ≤ (read_first s).used → 12 ≤ (read_first s).used
patch_least s there =
    let read = what_is_read s there in
    rw read.used (sizes (read_first s).patch (read_first s).text read.well_formed).0

cut_most : (most : ℕ) (s : List ℕ) → 12 * length (cut most s) ≤ length s + 11
unfolding cut
cut_most zero s = omega arith
cut_most (suc most) [] = omega arith
cut_most (suc most) (b ∷ s) =
    let first = first_in (b ∷ s) in
    let rest = drop (length first) (b ∷ s) in
    let left = length-drop (length first) (b ∷ s) in
    let behind = cut_most most rest in
    ⊎_elim
    (λ unread. omega (arith, none_length (b ∷ s) unread))
    (λ used. omega (arith, some_length (b ∷ s) used, patch_least (b ∷ s) used))
    (eq-zero-or-pos (read_first (b ∷ s)).used)

-- Answers are at most 15.
receive_most : (r : Replica) (table bytes : List ℕ) → (receive_call r table bytes).answer ≤ 15
receive_most r table bytes =
    let answer = (receive_call r table bytes).answer in
    by_cases (ℕ_discrete answer 0) (λ e. omega (arith, e))
    (λ not-0.
    by_cases (ℕ_discrete answer 15) (λ e. omega (arith, e))
    (λ not-15. omega (arith, (receive_numbers r table bytes not-0 not-15).1)))

-- Feeding gives no more outcomes than there are patches, each with its answer at most 15, and the last is good.

fed_length : (o : Outcome) (ps : List (List ℕ)) → length (fed o ps) ≤ length ps
unfolding fed
fed_length o [] = omega arith
fed_length o (p ∷ ps) =
    let next = receive_call o.replica o.table p in
    by_answer (eqb next.answer 2) (fed next ps) (length ps) (fed_length next ps)
  where
    by_answer : (b : Bool) (rest : List Outcome) (n : ℕ) → length rest ≤ n → suc (length (cond b [] rest)) ≤ suc n
    by_answer true rest n h = omega arith
    by_answer false rest n h = omega arith

-- what holds of every outcome of a call
fed_each : (P : Outcome → Type 0) → ((r : Replica) (table bytes : List ℕ) → P (receive_call r table bytes))
    → (d o : Outcome) (ps : List (List ℕ)) (i : ℕ) → i < length (fed o ps) → P (get_or (fed o ps) i d)
unfolding fed
fed_each P call d o [] i h = absurd (omega arith)
fed_each P call d o (p ∷ ps) i h =
    let next = receive_call o.replica o.table p in
    by_answer next (eqb next.answer 2) (fed next ps) (call o.replica o.table p)
    (λ i h. fed_each P call d next ps i h) i h
  where
    by_answer : (next : Outcome) (b : Bool) (rest : List Outcome) → P next → ((i : ℕ) → i < length rest → P (get_or rest i d))
        → (i : ℕ) → i < suc (length (cond b [] rest)) → P (get_or (next ∷ cond b [] rest) i d)
    by_answer next b rest here behind zero h = here
    by_answer next true rest here behind (suc i) h = absurd (omega arith)
    by_answer next false rest here behind (suc i) h = behind i (omega arith)

fed_good : (o : Outcome) (ps : List (List ℕ)) → Good o → Good (after_all o (fed o ps))
unfolding fed after_all
fed_good o [] good = good
fed_good o (p ∷ ps) good =
    let next = receive_call o.replica o.table p in
    let kept = receive_good o p good in
    by_answer (eqb next.answer 2) next (fed next ps) kept (fed_good next ps kept)
  where
    by_answer : (b : Bool) (next : Outcome) (rest : List Outcome) → Good next → Good (after_all next rest)
        → Good (after_all next (cond b [] rest))
    by_answer true next rest good last = good
    by_answer false next rest good last = last

-- The lines of the patches, and those of the rows.

outcomes_most : (input : List ℕ) → length input ≤ most_input → length (fed fresh (patches_in input)) ≤ 5462
outcomes_most input h = omega (arith, fed_length fresh (patches_in input), cut_most (length input) input)

answers_most : (outcomes : List Outcome) → length outcomes ≤ 5462
    → ((i : ℕ) → i < length outcomes → (get_or outcomes i fresh).answer ≤ 15)
    → length (from_place (λ (k : ℕ) (o : Outcome). patch_line k o.answer) 1 outcomes) ≤ 8 * length outcomes
answers_most outcomes h each =
    lines_most fresh (λ (k : ℕ) (o : Outcome). patch_line k o.answer) 8 1 outcomes
    (λ i k e less. patch_line_most k (get_or outcomes i fresh).answer (omega arith) (omega (arith, each i less)))

rows_most : (counts : List ℕ) (lines : List Line) → SoundLines counts lines → length (rows_text lines) ≤ 68617
unfolding rows_text
rows_most counts lines sound =
    let most = sound.most in
    let number = decimal_most 3 (length lines) (omega arith) (omega arith) in
    let rows =
    lines_most no_line row_line 134 1 lines (λ i k e less.
    row_line_most counts k (get_or lines i no_line) (omega arith) (sound.line i less)) in
    simp length-append (omega arith)

good_rows : (o : Outcome) → Good o → length (rows_text (lines_in o)) ≤ 68617
good_rows o good = rows_most o.replica.counts (lines_in o) (sound_lines o.replica o.table good.sound)

report_most : (outcomes : List Outcome) → length outcomes ≤ 5462
    → ((i : ℕ) → i < length outcomes → (get_or outcomes i fresh).answer ≤ 15) → Good (after_all fresh outcomes)
    → length (report outcomes) ≤ 131072
unfolding report
report_most outcomes h each good =
    let patches = answers_most outcomes h each in
    let rows = good_rows (after_all fresh outcomes) good in
    rw length-append (omega arith)

pub longest : (input : List ℕ) → length (listing input) ≤ 131072
unfolding listing
longest input = by (ltb most_input (length input)) refl
  where
    by : (b : Bool) → ltb most_input (length input) ≡ b
        → length (cond b (ascii "too long\n") (report (fed fresh (patches_in input)))) ≤ 131072
    by true e = omega arith
    by false e =
        report_most (fed fresh (patches_in input)) (outcomes_most input (ltb-false most_input (length input) e))
        (fed_each (λ (o : Outcome). o.answer ≤ 15) receive_most fresh fresh (patches_in input))
        (fed_good fresh (patches_in input) fresh_good)

-- so with that much room all of it is put in
pub all_listed : (input out : List ℕ) → 131072 ≤ length out
    → behind (listing input) (record { length = 0; bytes = out })
    ≡ record { length = length (listing input); bytes = written 0 (listing input) out }
all_listed input out h =
    let whole = listing input in
    behind_whole whole (record { length = 0; bytes = out }) (omega (arith, longest input))
    ∙ (λ d. record { length = zero-add (length whole) d; bytes = written 0 whole out })
