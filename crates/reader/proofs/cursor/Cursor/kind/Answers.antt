-- `kind` meets its contract: a kind is told by its byte.
-- Assumes nothing.
use Rattle.std.proofs.Common.{◌≡◌, ℕ, Option, Some, None, Result, Ok, Err, sym, subst, arith}
use Rattle.std.specs.Result.{result_ok}
use Rattle.rows.proofs.Digits.{bytes_length}
use Rattle.format.specs.declared.Kind.{Kind}
use Rattle.format.specs.declared.NoKind.{NoKind}
use Rattle.format.specs.Kinds.{kind_byte, KindOf}
use Rattle.reader.proofs.Composed.{too_short, kind_found, kind_unfit}
use Rattle.reader.proofs.cursor.Cursor.kind.Goals as goal

-- which bytes are a kind, of an option
abbrev KindAt : ℕ → Option Kind → Type 0
KindAt byte (Some kind) = kind_byte kind ≡ byte
KindAt byte None = (kind : Kind) → kind_byte kind ≡ byte → ⊥

kind_at : (byte : ℕ) (r : Result Kind NoKind) → KindOf byte r → KindAt byte (result_ok r)
kind_at byte (Ok kind) told = told
kind_at byte (Err _) told = told

pub returns-in_err-byte : goal.returns-in_err-byte
returns-in_err-byte c =
    rw c.from_residual.ensures
    (too_short 1 (λ k _. bytes_length 1 (kind_byte k)) (omega (arith, c.in_err-byte.ensures.cases)))

pub returns-in_err-value : goal.returns-in_err-value
returns-in_err-value c =
    let byte = c.in_ok-byte.byte.now in
    rw c.from_residual-in_err-value.ensures
    (kind_unfit c.in_ok-byte.ensures.cases.0
    (subst (KindAt byte) (sym c.in_err-value.ensures.value) (kind_at byte c.try_from.result c.try_from.ensures)))

pub returns : goal.returns
returns c =
    let byte = c.in_ok-byte.byte.now in
    kind_found c.in_ok-byte.ensures.cases.0 c.in_ok-value.value
    (subst (KindAt byte) (sym c.in_ok-value.ensures.value) (kind_at byte c.try_from.result c.try_from.ensures))
