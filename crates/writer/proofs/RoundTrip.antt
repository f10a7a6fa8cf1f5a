-- Reading and writing undo each other: what is written reads back to the same patch, text and length, also
-- in front of further bytes, and what was read is written again as the bytes that it was read from.
-- Assumes nothing.
use Prim.Native.Nat.{ℕ, ◌≤◌}
use native.Mathlib.Nat.{zero-add}
use mathlib.Core.Path.{◌≡◌, sym, ap, ◌∙◌}
use mathlib.Core.List.{List, ◌++◌}
use lib.ListN.{length, take, drop}
use Rattle.rows.specs.Rows.{written}
use Rattle.format.specs.declared.Patch.{Patch}
use Rattle.format.specs.Patches.{least_size, most_size, patch_bytes}
use Rattle.format.proofs.Sizes.{sizes}
use Rattle.reader.specs.Read.{read_first}
use Rattle.reader.proofs.Readings.{reads_back, what_is_read}
use Rattle.writer.specs.Write.{Writing, write_patch}
use Rattle.writer.proofs.Writes.{written_done, answered}

-- What is written.

-- stands in front of the rest of the buffer
pub written_front : (bytes s : List ℕ) → written 0 bytes s ≡ bytes ++ drop (length bytes) s
unfolding written
written_front bytes s = ap (λ (n : ℕ). bytes ++ drop n s) (zero-add (length bytes))

-- reads back to the same patch, text and length, whatever stands in the buffer behind it
pub written_reads : (p : Patch) (text buffer : List ℕ) → (write_patch p text buffer).answer ≡ 0
    → read_first (write_patch p text buffer).buffer ≡ record { patch = p; text = text; used = (write_patch p text buffer).length }
written_reads p text buffer zero-answered =
    let told = answered p text buffer zero-answered in
    let good = told.1 in
    let done = written_done p text buffer told.0 good in
    ap (λ (v : Writing). read_first v.buffer) done
    ∙ ap read_first (written_front (patch_bytes p text) buffer)
    ∙ reads_back p text (drop (length (patch_bytes p text)) buffer) good
    ∙ ap (λ (v : Writing). record { patch = p; text = text; used = v.length }) (sym done)

-- and has 12 to 161 bytes
pub written_sizes : (p : Patch) (text buffer : List ℕ) → (write_patch p text buffer).answer ≡ 0
    → (least_size ≤ (write_patch p text buffer).length) × ((write_patch p text buffer).length ≤ most_size)
written_sizes p text buffer zero-answered =
    let told = answered p text buffer zero-answered in
    rw (written_done p text buffer told.0 told.1) (sizes p text told.1)

-- What was read is written again, as the bytes that it was read from: 2 is the answer only to a patch
-- that no bytes would read as.
pub read_written : (s buffer : List ℕ) → 1 ≤ (read_first s).used → most_size ≤ length buffer
    → write_patch (read_first s).patch (read_first s).text buffer
    ≡ record { answer = 0; length = (read_first s).used; buffer = written 0 (take (read_first s).used s) buffer }
read_written s buffer some room =
    let r = what_is_read s some in
    rw (written_done (read_first s).patch (read_first s).text buffer room r.well_formed, r.bytes, r.used)
