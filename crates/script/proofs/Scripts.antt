-- What a `Script` holds: its record and table are sound, and what of that its readers need.
-- Assumes nothing.
use Prim.Native.Nat.{ℕ, ◌≤◌, ◌<◌}
use native.Mathlib.Omega.{arith}
use mathlib.Core.Path.{◌≡◌}
use mathlib.Core.List.{List}
use lib.ListN.{length}
use Rattle.record.specs.declared.Replica.{Replica}
use Rattle.script.specs.Lines.{table_size, used_of, text_length_of, decode_row, row_at}
use Rattle.script.specs.Sound.{Sound}
use Rattle.script.proofs.Decided.{sound_of}
use Rattle.script.proofs.Identifiers.{identifiers_length}
use Rattle.script.proofs.Lent.{lent_row, row_there}

pub held_size : {r : Replica} {t : List ℕ} → ∥ Sound r t ∥₁ → length t ≡ table_size
held_size sound = (sound_of sound).size

pub held_site : {r : Replica} {t : List ℕ} → ∥ Sound r t ∥₁ → (1 ≤ r.site) × (r.site ≤ 16)
held_site sound = let own = (sound_of sound).own in (own.site_least, own.site_most)

pub held_rows : {r : Replica} {t : List ℕ} → ∥ Sound r t ∥₁ → r.rows ≤ 512
held_rows sound = (sound_of sound).own.rows

-- of a row in use: how many identifiers and how many bytes of text it says
pub held_used : {r : Replica} {t : List ℕ} → ∥ Sound r t ∥₁ → (k : ℕ) → k < r.rows → used_of (row_at t k) ≤ 8
unfolding decode_row
held_used {t} sound k h =
    omega (arith, identifiers_length (row_at t k), ((sound_of sound).row k h).line.position.most)

pub held_text : {r : Replica} {t : List ℕ} → ∥ Sound r t ∥₁ → (k : ℕ) → k < r.rows → text_length_of (row_at t k) ≤ 48
held_text sound k h = ((sound_of sound).row k h).text_length

-- and it can be read where it is lent from its first byte on
pub held_there : {r : Replica} {t : List ℕ} → ∥ Sound r t ∥₁ → (k : ℕ) → k < r.rows
    → (25 ≤ length (lent_row t k)) × (used_of (lent_row t k) ≤ 8)
held_there {r} {t} sound k h = row_there r t k (sound_of sound) h
