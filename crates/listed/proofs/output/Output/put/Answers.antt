-- As many bytes as there is room for are copied to the front of the rest; behind the end there is no rest.
use Rattle.std.proofs.Common.{◌≡◌, ℕ, ◌+◌, ◌-◌, ◌≤◌, ◌++◌, List, length, take, drop, sym, ap, ◌∙◌, length-drop, min, rules, arith}
use native.Mathlib.Omega.{min_cases}
use borrow.Rule.Slice.PartMut.{mid_of, put_mid}
use lib.ListN.{length-take, drop_of_length-le}
use lib.Seq.{drop-drop}
use Rattle.rows.specs.Rows.{written}
use Rattle.rows.proofs.Bytes.{rest_lent, rest_back, nothing_written}
use Rattle.listed.specs.Output.{behind}
use Rattle.listed.proofs.Behind.{behind_end}
use Rattle.listed.proofs.output.Output.put.Goals as goal

module _ (from : ℕ) (bytes s : List ℕ) (inside : from ≤ length s) where
  abbrev room : ℕ
  room = length s - from

  -- what stays of the rest: where not all bytes fit, nothing does
  kept : drop (from + length (take room bytes)) s ≡ drop (from + length bytes) s
  kept =
      min_cases room (length bytes)
      (drop (from + length (take room bytes)) s ≡ drop (from + length bytes) s)
      (λ h m.
      let short : length s ≤ from + length (take room bytes) = omega (arith, length-take room bytes) in
      let long : length s ≤ from + length bytes = omega arith in
      drop_of_length-le s short ∙ sym (drop_of_length-le s long))
      (λ h m. ap (λ (n : ℕ). drop (from + n) s) (length-take room bytes ∙ m))

  module _ (part : List ℕ) (copies : let lent = mid_of from room s in part ≡ take (length lent) bytes ++ drop (length bytes) lent) where
    -- what comes back of the rest, as what is written at the place
    copied : put_mid from room s part ≡ written from (take room bytes) s
    unfolding written
    copied = rw (rest_back from s part, copies, rest_lent from s, length-drop from s, drop-drop (length bytes) from s, kept)

    -- and how many bytes have been put in
    copied_whole : (n : ℕ) → n ≡ from + min (length bytes) room
        → record { length = n; bytes = put_mid from room s part } ≡ behind bytes (record { length = from; bytes = s })
    unfolding behind
    copied_whole n size =
        let all : n ≡ from + length (take room bytes) = omega (arith, length-take room bytes) in
        λ d. record { length = all d; bytes = copied d }

    -- where no rest is, nothing is
    not_copied : (at n : ℕ) → length s ≤ at → room ≡ 0 → n ≡ at + min (length bytes) room
        → record { length = n; bytes = put_mid from room s part } ≡ behind bytes (record { length = at; bytes = s })
    not_copied at n outside none size =
        let same : n ≡ at = omega arith in
        let stays : put_mid from room s part ≡ s =
        copied ∙ ap (λ (k : ℕ). written from (take k bytes) s) none ∙ sym (nothing_written from s) in
        (λ d. record { length = same d; bytes = stays d }) ∙ behind_end bytes (record { length = at; bytes = s }) outside

-- either way, it is put in behind
puts : (at from n : ℕ) (bytes s part : List ℕ) → from ≡ min at (length s)
    → (let lent = mid_of from (length s - from) s in part ≡ take (length lent) bytes ++ drop (length bytes) lent)
    → n ≡ at + min (length bytes) (length s - from)
    → record { length = n; bytes = put_mid from (length s - from) s part } ≡ behind bytes (record { length = at; bytes = s })
puts at from n bytes s part start copies size =
    min_cases at (length s)
    (record { length = n; bytes = put_mid from (length s - from) s part } ≡ behind bytes (record { length = at; bytes = s }))
    (λ h m.
    copied_whole from bytes s (omega arith) part copies n (omega arith)
    ∙ ap (λ (k : ℕ). behind bytes (record { length = k; bytes = s })) (start ∙ m))
    (λ h m. not_copied from bytes s (omega arith) part copies at n h (omega arith) size)

pub returns : goal.returns
returns c =
    let at = c.args.self.now in
    record {
      same_buffer = search rules;
      put_in = puts at.length c.min-from.result _ c.args.bytes.now at.bytes.now c.copy_front.new.s c.min-from.ensures c.copy_front.ensures (omega arith);
    }
