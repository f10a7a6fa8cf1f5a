-- Rows of one width in a slice of fixed size, and the moves of bytes that put a row in and take one
-- out. Of any element, width and size: the lines of the script, the identifiers of a position and
-- the counts of a record are all rows of this kind.
-- Assumes nothing.
use Rattle.std.specs.Prelude.{ℕ, zero, suc, ◌+◌, ◌<◌, ◌≡◌, List, [], ◌∷◌, ◌++◌, length, take, drop, get_or, replicate}

-- "What is unused is zero": the first n bytes of l, with zeros behind it where it is shorter
unfoldable pub filled : ℕ → List ℕ → List ℕ
filled n l = take n (l ++ replicate n 0)

-- the bytes of all elements, one behind the other
unfoldable pub flat {ℓ} : {A : Type ℓ} → (A → List ℕ) → List A → List ℕ
flat encode [] = []
flat encode (x ∷ xs) = encode x ++ flat encode xs

-- a slice of `size` bytes that holds these elements and is zero behind them
unfoldable pub slots_of {ℓ} : {A : Type ℓ} → (A → List ℕ) → ℕ → List A → List ℕ
slots_of encode size xs = filled size (flat encode xs)

-- the first n elements of a slice of rows; `decode` reads the front of what it is given
unfoldable pub rows_of {ℓ} : {A : Type ℓ} → (List ℕ → A) → ℕ → ℕ → List ℕ → List A
rows_of decode width zero s = []
rows_of decode width (suc n) s = decode s ∷ rows_of decode width n (drop width s)

-- a list with x put in at place k: the others keep their order
unfoldable pub insert_at {ℓ} : {A : Type ℓ} → ℕ → A → List A → List A
insert_at k x xs = take k xs ++ (x ∷ drop k xs)

-- a list with the element at place k taken out
unfoldable pub remove_at {ℓ} : {A : Type ℓ} → ℕ → List A → List A
remove_at k xs = take k xs ++ drop (suc k) xs

-- a slice with these bytes put in at a place: what stood from there on moves up, and as many bytes
-- fall off the end
unfoldable pub put_in : ℕ → List ℕ → List ℕ → List ℕ
put_in at bytes s = take (length s) (take at s ++ (bytes ++ drop at s))

-- a slice with n bytes taken out at a place: what stood behind them moves down, and what is freed
-- at the end is zero
unfoldable pub take_out : ℕ → ℕ → List ℕ → List ℕ
take_out at n s = filled (length s) (take at s ++ drop (at + n) s)

-- a slice with these bytes written over those at a place
unfoldable pub written : ℕ → List ℕ → List ℕ → List ℕ
written at bytes s = take at s ++ (bytes ++ drop (at + length bytes) s)

-- these bytes stand at the front of a slice
abbrev pub Stands : List ℕ → List ℕ → Type 0
Stands bytes s = take (length bytes) s ≡ bytes

-- a move of the first n bytes of a slice alone
unfoldable pub within : ℕ → (List ℕ → List ℕ) → List ℕ → List ℕ
within n move s = move (take n s) ++ drop n s

-- at each of the first n
abbrev pub Upto : ℕ → (ℕ → Type 0) → Type 0
Upto n P = (j : ℕ) → j < n → P j

-- bytes that are all zero
abbrev pub AllZero : List ℕ → Type 0
AllZero s = Upto (length s) (λ j. get_or s j 0 ≡ 0)
