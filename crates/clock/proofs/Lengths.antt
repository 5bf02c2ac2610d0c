-- A length's text, case by case. Assumes nothing.
use mathlib.Core.Path.{◌≡◌}
use mathlib.Core.List.{◌++◌}
use Prim.Native.Nat.{ℕ, ◌/◌, ◌%◌, ◌≤◌, ◌<◌}
use borrow.Author.Tests.{lt-ltb, le-ltb, eq-eqb, ne_eqb}
use Rattle.clock.specs.Clock.{hours_text, minutes_text, length_text}

module _ (n : ℕ) where
  pub in_minutes : n < 60 → minutes_text n ≡ length_text n
  unfolding length_text
  in_minutes h = rw (lt-ltb n 60 h)

  pub in_hours : 60 ≤ n → n % 60 ≡ 0 → hours_text (n / 60) ≡ length_text n
  unfolding length_text
  in_hours h e = rw (le-ltb n 60 h, eq-eqb (n % 60) 0 e)

  pub in_both : 60 ≤ n → (n % 60 ≡ 0 → ⊥) → hours_text (n / 60) ++ minutes_text (n % 60) ≡ length_text n
  unfolding length_text
  in_both h e = rw (le-ltb n 60 h, ne_eqb (n % 60) 0 e)
