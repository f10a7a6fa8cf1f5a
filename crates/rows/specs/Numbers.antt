-- Numbers in a layout (01, 'The record and the table': "All numbers in layouts have the high byte
-- first."), said once over their width in bytes.
-- Assumes nothing.
use Rattle.std.specs.Prelude.{ℕ, zero, suc, ◌+◌, ◌*◌, ◌/◌, ◌%◌, List, [], ◌∷◌, ◌++◌, get_or}

-- the number that the n bytes at a place make
unfoldable pub num_at : ℕ → List ℕ → ℕ → ℕ
num_at zero s at = 0
num_at (suc n) s at = num_at n s at * 256 + get_or s (at + n) 0

-- the n bytes of a number
unfoldable pub bytes_of : ℕ → ℕ → List ℕ
bytes_of zero v = []
bytes_of (suc n) v = bytes_of n (v / 256) ++ (v % 256 ∷ [])
