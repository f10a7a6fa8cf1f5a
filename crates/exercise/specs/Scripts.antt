-- What a patch inserts and what it strikes, and the script that patches received make (condition 3).
-- Assumes nothing.
use Rattle.std.specs.Prelude.{ℕ, suc, ◌<◌, ◌≡◌, ◌↔◌, length, take, get_or}
use mathlib.Core.List.{List, Memᴰ}
use Rattle.position.specs.Positions.{ids_of}
use Rattle.position.specs.Order.{◌≺◌}
use Rattle.script.specs.Lines.{Line, no_line}
use Rattle.format.specs.declared.Edit.{Edit}
use Rattle.format.specs.declared.Edit.TheVariants.{Insert, Delete}
use Rattle.format.specs.declared.Patch.{Patch}
use Rattle.reader.specs.Read.{read_one}

-- the patch that bytes are, and the text beside it
abbrev pub patch_of : List ℕ → Patch
patch_of bytes = (read_one bytes).patch

abbrev pub beside_of : List ℕ → List ℕ
beside_of bytes = (read_one bytes).text

-- a patch whose insert is of this line
abbrev pub InsertOf : Patch → List ℕ → Edit → Line → Type 0
InsertOf p text (Insert n) l = l ≡ record { position = ids_of p.place; number = p.number; text = take n text }
InsertOf p text (Delete n) l = ⊥

-- a patch that strikes this line
abbrev pub StrikeOf : Patch → Edit → Line → Type 0
StrikeOf p (Insert n) l = ⊥
StrikeOf p (Delete n) l = (ids_of p.place ≡ l.position) × (n ≡ l.number)

abbrev pub Inserts : List ℕ → Line → Type 0
Inserts bytes l = InsertOf (patch_of bytes) (beside_of bytes) (patch_of bytes).edit l

abbrev pub Strikes : List ℕ → Line → Type 0
Strikes bytes l = StrikeOf (patch_of bytes) (patch_of bytes).edit l

-- a received patch inserts the line
abbrev pub InsertedIn : List (List ℕ) → Line → Type 0
InsertedIn received l = (b : List ℕ) × (Memᴰ b received × Inserts b l)

-- no received patch strikes it
abbrev pub UnstruckIn : List (List ℕ) → Line → Type 0
UnstruckIn received l = (b : List ℕ) → Memᴰ b received → Strikes b l → ⊥

-- "Each script is then exactly the lines whose insert it has received and whose delete it hasn't, in position
-- order."
pub record Script (received : List (List ℕ)) (lines : List Line) : Type 0 where
  pub rising : (i : ℕ) → suc i < length lines → (get_or lines i no_line).position ≺ (get_or lines (suc i) no_line).position
  pub lines_are : (l : Line) → Memᴰ l lines ↔ (InsertedIn received l × UnstruckIn received l)
