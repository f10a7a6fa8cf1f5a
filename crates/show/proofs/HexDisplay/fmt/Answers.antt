-- One byte more.
use Rattle.std.proofs.Common.{rules, length, ◌≡◌, ◌∙◌, sym, ap, ℕ, ◌+◌, ◌^◌, ◌-◌, ◌<◌, true, false, List, [], ◌++◌, take, get_or}
use Rattle.std.proofs.Output.{has_written_of_eq, has_written_append}
use Rattle.std.proofs.lemmas.List.{flat_map_more, take_more}
use Rattle.std.proofs.lemmas.Fmt.{hex_byte}
use Rattle.std.specs.Fmt.{padded_integral, format_spec, digits}
use Rattle.show.specs.Text.{hex_text, byte_text}
use Rattle.show.proofs.HexDisplay.fmt.Goals as goal

byte_more : (s : List ℕ) (i : ℕ) → i < length s → get_or s i 0 < 256
    → hex_text (take i s) ++ padded_integral (format_spec 32 0 4 2 (2 ^ 64 - 1)) false [] (digits 16 true (get_or s i 0)) ≡ hex_text (take (i + 1) s)
byte_more s i inside small =
    ap (λ (t : List ℕ). hex_text (take i s) ++ t) (hex_byte true _ small)
    ∙ flat_map_more byte_text [] (take i s) (get_or s i 0)
    ∙ ap hex_text (sym (take_more s i 0 inside))

pub loop-byte-preserved : goal.loop-byte-preserved
loop-byte-preserved g c p =
    has_written_of_eq _ _ _ _ _ (byte_more c.args.self.now.0.now c.loop-byte.byte-index (search rules) (search rules))
    (has_written_append _ _ _ _ _ _ (c.loop-byte.invariant p) (search rules))
