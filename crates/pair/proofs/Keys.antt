-- Keys compared by participant, then number. Assumes nothing.
use mathlib.Core.Path.{◌≡◌, sym, ◌∙◌}
use Prim.Native.Nat.{ℕ, ◌<◌, ◌≤◌}
use native.Mathlib.Omega.{arith}
use native.Mathlib.Decide.{dec_lt}
use lib.Dec.{ltb}
use borrow.Author.Tests.{lt-ltb, le-ltb}
use Rattle.call.specs.Key.{key_of}

module _ (p q k l : ℕ) where
  same_order : (m n : ℕ) → (k < l → m < n) → (l ≤ k → n ≤ m) → ltb k l ≡ ltb m n
  same_order m n f g = go (dec_lt k l)
    where
      go : Dec (k < l) → ltb k l ≡ ltb m n
      go (yes h) = lt-ltb k l h ∙ sym (lt-ltb m n (f h))
      go (no h) = le-ltb k l (omega arith) ∙ sym (le-ltb m n (g (omega arith)))

  pub by_number : p ≡ q → ltb k l ≡ ltb (key_of p k) (key_of q l)
  by_number e = same_order (key_of p k) (key_of q l) (λ h. omega arith) (λ h. omega arith)

pub by_participant : (p q k l : ℕ) → k < 4294967296 → l < 4294967296 → (p ≡ q → ⊥) → ltb p q ≡ ltb (key_of p k) (key_of q l)
by_participant p q k l f g n = same_order k l p q (key_of p k) (key_of q l) (λ h. omega arith) (λ h. omega arith)
