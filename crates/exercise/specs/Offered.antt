-- Patches offered to a host one after the other (01, 'Answer numbers', the second of the two facts).
-- Assumes nothing.
use Rattle.std.specs.Prelude.{ℕ, List, [], ◌∷◌}
use Rattle.host.specs.Calls.{Called, receive_bytes}

-- what a host whose record and table are these answers to each
unfoldable pub answers : List ℕ → List ℕ → List (List ℕ) → List ℕ
answers state table [] = []
answers state table (b ∷ offered) =
    let c : Called = receive_bytes state table b in
    c.answer ∷ answers c.state c.table offered
