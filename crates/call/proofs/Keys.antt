-- The key as one number is the paper's order: by participant, then number. Assumes nothing.
use mathlib.Core.Path.{◌≡◌}
use mathlib.Core.Logic.{◌↔◌, inl, inr}
use Prim.Native.Nat.{◌<◌}
use native.Mathlib.Omega.{arith}
use native.Mathlib.Decide.{dec_lt}
use Rattle.call.specs.Key.{call_key, KeyBefore}
use Rattle.call.specs.declared.Call.{Call}

module _ (x y : Call) (p : x.number < 4294967296) (q : y.number < 4294967296) where
  pub key_order : (call_key x < call_key y) ↔ KeyBefore x y
  key_order = (λ h. to h (dec_lt x.participant y.participant), from)
    where
      to : call_key x < call_key y → Dec (x.participant < y.participant) → KeyBefore x y
      to h (yes l) = inl l
      to h (no l) = inr (omega arith, omega arith)

      from : KeyBefore x y → call_key x < call_key y
      from (inl l) = omega arith
      from (inr l) = let e = l.0 in let n = l.1 in omega arith

  -- one key, one participant and number
  pub key_same : call_key x ≡ call_key y → (x.participant ≡ y.participant) × (x.number ≡ y.number)
  key_same e = (omega arith, omega arith)
