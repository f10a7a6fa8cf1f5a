-- Bytes put into a lent buffer one behind the other (01, 'Answer numbers': "from the front, length given,
-- later bytes kept").
-- Assumes nothing.
use Rattle.std.specs.Prelude.{ℕ, ◌+◌, ◌-◌, List, length, take}
use Rattle.rows.specs.Rows.{written}

-- how many bytes have been put in, and the whole buffer
pub record Output : Type 0 where
  pub length : ℕ
  pub bytes : List ℕ

-- these bytes put in behind those, as many as there is room for
unfoldable pub behind : List ℕ → Output → Output
behind bytes o =
    let fitting = take (length o.bytes - o.length) bytes in
    record { length = o.length + length fitting; bytes = written o.length fitting o.bytes }
