-- Writing a place: the identifiers stand behind their number.
-- Assumes nothing.
use Prim.Native.Nat.{ℕ, ◌≤◌}
use mathlib.Core.Path.{◌≡◌}
use mathlib.Core.List.{List}
use lib.ListN.{length}
use Rattle.position.specs.declared.Identifier.{Identifier}
use Rattle.position.proofs.Ids.{ids_length}
use Rattle.rows.specs.Numbers.{bytes_of}
use Rattle.rows.specs.Rows.{flat, written}
use Rattle.script.specs.Lines.{encode_identifier}
use Rattle.format.specs.Patches.{place_bytes}
use Rattle.format.proofs.Sections.{section_written}
use Rattle.format.proofs.Sizes.{place_length}

pub placed : (ids : List Identifier) (s : List ℕ) → 1 ≤ length s
    → written 1 (flat encode_identifier ids) (written 0 (bytes_of 1 (length ids)) s) ≡ written 0 (place_bytes ids) s
unfolding place_bytes
placed ids s room = section_written (length ids) (flat encode_identifier ids) 0 s room

pub ruleset steps = (placed, place_length, ids_length)
