-- A read that goes on has brought something. Assumes nothing.
use mathlib.Core.Path.{◌≡◌, refl}
use mathlib.Core.Bool.{Bool, true, false, ◌||◌}
use Prim.Native.Nat.{ℕ, ◌<◌}
use native.Mathlib.Omega.{arith}
use lib.Dec.{eqb}
use borrow.Author.Tests.{eqb-false}

pub some_read : (n : ℕ) (settled : Bool) → (eqb n 0 || settled) ≡ false → 0 < n
some_read n settled h = let some = eqb-false n 0 (go (eqb n 0) h) in omega (arith, some)
  where
    go : (t : Bool) → (t || settled) ≡ false → t ≡ false
    go true e = e
    go false e = refl
