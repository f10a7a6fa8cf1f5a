-- What the steps of `list` leave. `list` promises what specs/Listing.antt says.
-- Assumes nothing.
use Rattle.std.specs.Prelude.{ℕ, ◌≡◌, List}
use Rattle.record.specs.declared.Replica.{Replica}
use Rattle.script.specs.Sound.{Sound}
use Rattle.effect.specs.Held.{Outcome}
use Rattle.listed.specs.declared.output.Output as declared
use Rattle.listed.specs.declared.patches.Patches as patches
use Rattle.listed.specs.Output.{Output, behind}
use Rattle.listed.specs.Text.{patch_line, from_place}
use Rattle.listed.specs.Listing.{patches_in, fresh, fed, after_all}

-- what the code's struct of a lent buffer stands for: how many bytes have been put in, and the whole buffer
abbrev pub shown : declared.Output → Output
shown o = record { length = o.length; bytes = o.bytes.now }

-- these bytes are put in behind those that were, in the same buffer
pub record Puts (bytes : List ℕ) (was is : declared.Output) : Type 0 where
  pub same_buffer : is.bytes.ghost_name ≡ was.bytes.ghost_name
  pub put_in : shown is ≡ behind bytes (shown was)

-- the patches that an iterator over them has still to give
abbrev pub patches_left : patches.Patches → List (List ℕ)
patches_left p = patches_in p.0.now

-- what the fresh replica comes to, patch after patch
abbrev pub outcomes_of : List ℕ → List Outcome
outcomes_of input = fed fresh (patches_in input)

-- the lines of patches, from a place on
abbrev pub patch_lines : ℕ → List Outcome → List ℕ
patch_lines place outcomes = from_place (λ (k : ℕ) (o : Outcome). patch_line k o.answer) place outcomes

-- all patches of the input are fed: record and table are the last ones, and sound, and the line of each
-- patch is put in
pub record Feeds (input : List ℕ) (r : Replica) (table : List ℕ) (was is : declared.Output) : Type 0 where
  pub replica : r ≡ (after_all fresh (outcomes_of input)).replica
  pub held : table ≡ (after_all fresh (outcomes_of input)).table
  pub sound : Sound r table
  pub put : Puts (patch_lines 1 (outcomes_of input)) was is
