-- Whether counts are in range is decided, and whether a record is sound by itself, fact by fact.
-- Assumes nothing.
use Prim.Native.Nat.{ℕ}
use native.Mathlib.Decide.{dec_le}
use mathlib.Core.List.{List}
use lib.ListN.{get_or}
use Rattle.position.proofs.Decided.{by_field, each_below?}
use Rattle.record.specs.declared.Replica.{Replica}
use Rattle.record.specs.Records.{CountsFit, SoundRecord}

pub counts_fit? : (counts : List ℕ) → Dec (CountsFit counts)
counts_fit? counts = each_below? (λ i. dec_le (get_or counts i 0) 1000000) 16

pub sound_record? : (r : Replica) → Dec (SoundRecord r)
sound_record? r =
    by_field (dec_le 1 r.site) (λ sound. sound.site_least) λ site_least.
    by_field (dec_le r.site 16) (λ sound. sound.site_most) λ site_most.
    by_field (dec_le r.rows 512) (λ sound. sound.rows) λ rows.
    by_field (counts_fit? r.counts) (λ sound. sound.counts) λ counts.
    yes (record { site_least = site_least; site_most = site_most; rows = rows; counts = counts })
