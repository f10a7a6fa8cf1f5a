-- One count more, and all counts.
use Rattle.std.proofs.Common.{rules, arith, length, ◌≡◌, ◌∙◌, sym, ap, ℕ, ◌+◌, ◌<◌, ◌≤◌, List, [], ◌++◌, take, get_or}
use Rattle.std.proofs.Output.{has_written_of_eq, has_written_append}
use Rattle.std.proofs.lemmas.List.{flat_map_more, take_more, take_all}
use Rattle.std.proofs.lemmas.List.FromFn.{length-enumerate_from, get_or-enumerate_from}
use Rattle.std.specs.List.{flat_map, enumerate_from}
use Rattle.show.specs.Text.{count_text}
use Rattle.show.proofs.CountsDisplay.fmt.Goals as goal
use Rattle.show.proofs.CountsDisplay.fmt.Goals.{then-count-ne0+in_ok-write, else-count-ne0}

count_more : (counts : List ℕ) (i : ℕ) → i < length counts
    → flat_map count_text (take i (enumerate_from 1 counts)) ++ count_text (i + 1, get_or counts i 0) ≡ flat_map count_text (take (i + 1) (enumerate_from 1 counts))
count_more counts i inside =
    let sites : List (ℕ × ℕ) = enumerate_from 1 counts in
    let last : get_or sites i (0, 0) ≡ (i + 1, get_or counts i 0) = get_or-enumerate_from 1 counts i (0, 0) inside ∙ ap (λ (n : ℕ). (n, get_or counts i 0)) (omega arith) in
    ap (λ (p : ℕ × ℕ). flat_map count_text (take i sites) ++ count_text p) (sym last)
    ∙ flat_map_more count_text [] (take i sites) (get_or sites i (0, 0))
    ∙ ap (flat_map count_text) (sym (take_more sites i (0, 0) (rw (length-enumerate_from 1 counts) inside)))

pub loop-i-preserved : goal.loop-i-preserved
loop-i-preserved g c p =
    has_written_of_eq _ _ _ _ _ (count_more c.args.self.now.0.now c.loop-i.i (search rules))
    (has_written_append _ _ _ _ _ _ (c.loop-i.invariant p)
    (elim c.if-count-ne0.branch [ then-count-ne0+in_ok-write w ↦ search rules | else-count-ne0 w ↦ search rules ]))

pub returns-clause-writes : goal.returns-clause-writes
returns-clause-writes g c p ok =
    let counts : List ℕ = c.args.self.now.0.now in
    let all : length (enumerate_from 1 counts) ≤ c.loop-i.i = rw (length-enumerate_from 1 counts) (search rules) in
    has_written_of_eq _ _ _ _ _ (ap (flat_map count_text) (take_all c.loop-i.i (enumerate_from 1 counts) all)) (c.loop-i.invariant p)
