-- Writing a patch (01, 'Patch layout').
-- Assumes nothing.
use Rattle.std.specs.Prelude.{ℕ, Bool, not, List, [], ◌∷◌, ltb, length}
use Rattle.std.proofs.Math.Bool.{decide}
use Rattle.rows.specs.Rows.{written}
use Rattle.format.specs.declared.Patch.{Patch}
use Rattle.format.specs.Patches.{most_size, patch_bytes}
use Rattle.format.specs.Answers.{first_of}
use Rattle.format.proofs.Decided.{well_formed?}

-- "The writer refuses with 10, then with 2 for a patch that no bytes would read as".
-- 10: "patch buffer under 161 bytes, whether or not the patch would fit"
unfoldable pub write_checks : Patch → List ℕ → List ℕ → List (Bool × ℕ)
write_checks p text buffer =
    (ltb (length buffer) most_size, 10) ∷
    (not (decide (well_formed? p text)), 2) ∷
    []

-- what a call gives, and what the buffer then holds
pub record Writing : Type 0 where
  pub answer : ℕ
  pub length : ℕ
  pub buffer : List ℕ

-- refused: 0, and the buffer as it was
abbrev pub unwritten : List ℕ → ℕ → Writing
unwritten buffer n = record { answer = n; length = 0; buffer = buffer }

-- "from the front, length given, later bytes kept"
unfoldable pub write_patch : Patch → List ℕ → List ℕ → Writing
write_patch p text buffer =
    let bytes = patch_bytes p text in
    first_of (write_checks p text buffer) (unwritten buffer)
    (record { answer = 0; length = length bytes; buffer = written 0 bytes buffer })
