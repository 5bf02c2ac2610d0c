-- Two answers that a contract allows are one, for each method of a call. Assumes nothing.
use mathlib.Core.Path.{◌≡◌, sym, ◌∙◌}
use Prim.Native.Nat.{ℕ}
use Rattle.call.specs.Revising.{call_revised, call_withdrawn, call_contested}
use Rattle.call.specs.declared.Call.{Call}
use Rattle.call.specs.declared.Content.{Content}

pub revised_determined : (c : Call) (n : ℕ) (k : Content) (r s : Call) → r ≡ call_revised c n k → s ≡ call_revised c n k → r ≡ s
revised_determined c n k r s e f = e ∙ sym f

pub withdrawn_determined : (c r s : Call) → r ≡ call_withdrawn c → s ≡ call_withdrawn c → r ≡ s
withdrawn_determined c r s e f = e ∙ sym f

pub contested_determined : (c r s : Call) → r ≡ call_contested c → s ≡ call_contested c → r ≡ s
contested_determined c r s e f = e ∙ sym f
