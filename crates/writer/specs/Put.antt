-- What a section of a patch comes to in the part of the buffer that is left for it (01, 'Patch layout').
-- Assumes nothing.
use Rattle.std.specs.Prelude.{ℕ, ◌≡◌, List, length}
use Rattle.rows.specs.Rows.{written}

-- "from the front, length given, later bytes kept": these bytes, written in a part that held s, how many they are
-- and what the part then holds
abbrev pub Put : List ℕ → List ℕ → ℕ → List ℕ → Type 0
Put bytes s n after = (n ≡ length bytes) × (after ≡ written 0 bytes s)
