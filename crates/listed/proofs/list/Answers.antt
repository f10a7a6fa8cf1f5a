-- Too long an input is told to be, and else the lines of the patches stand before those of the rows.
use Rattle.std.proofs.Common.{◌≡◌, ℕ, ◌<◌, ◌≤◌, List, length, rules, ◌∙◌, lt-ltb, le-ltb}
use Rattle.record.specs.declared.Replica.{Replica}
use Rattle.script.specs.Lines.{decode_table}
use Rattle.listed.specs.declared.output.Output.{Output}
use Rattle.listed.specs.Output.{behind}
use Rattle.listed.specs.Text.{ascii, rows_text}
use Rattle.listed.specs.Listing.{most_input, listing, report}
use Rattle.listed.specs.Steps.{Puts, Feeds, shown}
use Rattle.listed.proofs.Shown.{both_put}
use Rattle.listed.proofs.list.Goals as goal
use Rattle.listed.proofs.list.Goals.{then-input-gt-MOST, else-input-gt-MOST}

-- more bytes than are listed
too_long : (input : List ℕ) {was is now : Output} → most_input < length input → Puts (ascii "too long\n") was is → now ≡ is
    → Puts (listing input) was now
unfolding listing
too_long input long put e = rw (lt-ltb most_input (length input) long, e) put

-- the patches are fed, and the rows shown
reported : (input : List ℕ) {r : Replica} {table : List ℕ} {was is then now : Output} → length input ≤ most_input
    → Feeds input r table was is → Puts (rows_text (decode_table r.rows table)) is then → now ≡ then → Puts (listing input) was now
unfolding listing report
reported input fits feeds put e =
    rw (le-ltb most_input (length input) fits, e) (both_put feeds.put (rw (feeds.replica, feeds.held) at put))

-- what the buffer holds
put_whole : {text out : List ℕ} {was is : Output} → Puts text was is → out ≡ is.bytes.now
    → record { length = is.length; bytes = out } ≡ behind text (shown was)
put_whole {text} {out} {was} {is} put held = (λ d. record { length = is.length; bytes = held d }) ∙ put.put_in

pub returns : goal.returns
returns c =
    let whole : Puts (listing c.args.input.now) _ c.if-input-gt-MOST.output =
    elim c.if-input-gt-MOST.branch [
      | then-input-gt-MOST w ↦ too_long _ w.if-input-gt-MOST.true w.put.ensures w.output-is
      | else-input-gt-MOST w ↦ reported _ w.if-input-gt-MOST.false w.feed-replica.ensures w.show_rows.ensures w.output-is
    ] in
    put_whole whole (search rules)
