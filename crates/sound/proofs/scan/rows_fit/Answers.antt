-- Row i fits, and its words are carried on.
use Rattle.std.proofs.Common.{◌≡◌, false, ℕ, ◌+◌, List, refl, add-one, sym, ◌∙◌, rules}
use Rattle.rows.specs.Numbers.{num_at}
use Rattle.rows.proofs.Turns.{one_more}
use Rattle.sound.specs.Steps.{Fits, Rises, row_before, row_of}
use Rattle.sound.proofs.Words.{not_reached}
use Rattle.sound.proofs.scan.rows_fit.Goals as goal

-- before row i + 1 stands row i
row_before_next : (rows : List (List ℕ)) (i : ℕ) → row_before rows (i + 1) ≡ row_of rows i
unfolding row_before
row_before_next rows i = rw add-one

-- before the first row stand zeros
pub loop-row-init : goal.loop-row-init
unfolding row_before num_at
loop-row-init c = search rules

pub loop-row-preserved : goal.loop-row-preserved
loop-row-preserved c =
    let l = c.loop-row in
    let before = row_before_next c.args.rows.now l.row-index in
    let rises : Rises l.words.0 l.words.1 l.words.2 c.read.result c.read-in-loop-row.result c.read-in-loop-row-2.result =
    let stays : c.ge.result ≡ false = cc in
    (not_reached _ _ _ _ _ _).0 (sym c.ge.ensures ∙ stays) in
    let here : Fits c.args.counts.now c.args.rows.now l.row-index =
    record {
      row = c.if-not-row_fits.ensures.0 refl;
      rises = rw (
        l.invariant.first,
        l.invariant.second,
        l.invariant.third,
        c.read.ensures,
        c.read-in-loop-row.ensures,
        c.read-in-loop-row-2.ensures,
      )
          at rises;
    } in
    record { first = cc; second = cc; third = cc; fits = one_more _ l.invariant.fits here }
