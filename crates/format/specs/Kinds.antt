-- The kinds of a patch (01, 'Patch layout').
-- Assumes nothing.
use Rattle.std.specs.Prelude.{ℕ, ◌≡◌, Result, Ok, Err}
use Rattle.format.specs.declared.Kind.{Kind}
use Rattle.format.specs.declared.Kind.TheVariants.{Insert, Delete}
use Rattle.format.specs.declared.NoKind.{NoKind}

-- "kind (1 insert, 2 delete)"
abbrev pub kind_byte : Kind → ℕ
kind_byte Insert = 1
kind_byte Delete = 2

-- which bytes are a kind
abbrev pub KindOf : ℕ → Result Kind NoKind → Type 0
KindOf byte (Ok kind) = kind_byte kind ≡ byte
KindOf byte (Err _) = (kind : Kind) → kind_byte kind ≡ byte → ⊥
