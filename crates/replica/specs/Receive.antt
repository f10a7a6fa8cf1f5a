-- Receiving a patch (01, 'Answer numbers').
-- Assumes nothing.
use Rattle.std.specs.Prelude.{ℕ, Bool, not, ◌&&◌, List, [], ◌∷◌, eqb, leb, ltb}
use Rattle.std.proofs.Math.Bool.{decide}
use Rattle.position.specs.Positions.{ids_of}
use Rattle.record.specs.declared.Replica.{Replica}
use Rattle.record.specs.Records.{count_of}
use Rattle.script.specs.Lines.{decode_table}
use Rattle.script.specs.Find.{find_in}
use Rattle.format.specs.Answers.{first_of}
use Rattle.reader.specs.declared.Reading.{Reading}
use Rattle.reader.specs.Read.{read_one}
use Rattle.effect.specs.Held.{Outcome, unchanged}
use Rattle.effect.specs.Effect.{is_row, done_by, inserts}
use Rattle.effect.proofs.Decided.{covers?}
use Rattle.replica.specs.Grounds.{unsound, full, own_count}

-- "Receive: 1, 2, 3, 4, 5, 6, 7." `reading` is what the bytes read as.
-- 3: "author is this site and the number is above its count", 4: "number at most the author's count",
-- 5: "some Before entry is above this replica's count", 6: "insert: a row has this position already", 7: "insert [..]: 512 rows are in use"
unfoldable pub receive_checks : Replica → List ℕ → Reading → List (Bool × ℕ)
receive_checks r table reading =
    let p = reading.patch in
    (unsound r table, 1) ∷
    (eqb reading.used 0, 2) ∷
    (eqb p.author r.site && ltb (own_count r) p.number, 3) ∷
    (leb p.number (count_of r.counts p.author), 4) ∷
    (not (decide (covers? r.counts p.before)), 5) ∷
    (inserts p.edit && is_row (find_in (ids_of p.place) (decode_table r.rows table)), 6) ∷
    (inserts p.edit && full r, 7) ∷
    []

-- done, it leaves what the patch does
unfoldable pub receive_call : Replica → List ℕ → List ℕ → Outcome
receive_call r table bytes =
    let reading = read_one bytes in
    first_of (receive_checks r table reading) (unchanged r table)
    (done_by r table reading.patch reading.text)
