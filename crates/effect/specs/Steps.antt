-- What the steps of `apply` rest on and what they leave. `apply` promises what specs/Effect.antt says.
-- Assumes nothing.
use Rattle.std.specs.Prelude.{ℕ, ◌≡◌, List, length}
use Rattle.position.specs.Positions.{ids_of}
use Rattle.record.specs.declared.Replica.{Replica}
use Rattle.script.specs.declared.table.Found.{Found}
use Rattle.script.specs.Lines.{Line, encode_table, decode_table}
use Rattle.script.specs.Sound.{Sound}
use Rattle.script.specs.Find.{find_in}
use Rattle.format.specs.declared.Patch.{Patch}
use Rattle.format.specs.Answers.{success_number}
use Rattle.effect.specs.declared.Changed.{Changed}
use Rattle.effect.specs.Held.{held_in}
use Rattle.effect.specs.Effect.{Takes}

-- a sound replica takes the patch, and its place was found
pub record Ready (r : Replica) (table : List ℕ) (p : Patch) (text : List ℕ) (found : Found) : Type 0 where
  pub sound : Sound r table
  pub takes : Takes (held_in r table) p text
  pub place : found ≡ find_in (ids_of p.place) (decode_table r.rows table)

-- the table holds these lines; their number, and the answer
pub record Leaves (lines : List Line) (done : ℕ) (c : Changed) (table : List ℕ) : Type 0 where
  pub rows : c.rows ≡ length lines
  pub answer : success_number c.success ≡ done
  pub bytes : table ≡ encode_table lines
