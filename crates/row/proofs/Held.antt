-- Holding a number moves it across no limit. Assumes nothing.
use mathlib.Core.Path.{◌≡◌, refl}
use mathlib.Core.Bool.{Bool, true, false}
use mathlib.Core.List.{List, [], ◌∷◌, map}
use Prim.Native.Nat.{ℕ, zero, suc, min, ◌<◌}
use native.Mathlib.Omega.{arith}
use lib.Dec.{leb}
use lib.ListN.{get_or}
use borrow.Author.Tests.{leb-true, leb-false, le-leb, lt-leb}
use Rattle.row.specs.Numbers.{hold}

-- a cap above a limit moves no number across it
pub capped : (x cap most : ℕ) → most < cap → leb (min x cap) most ≡ leb x most
capped x cap most h = go (leb x most) refl
  where
    go : (t : Bool) → leb x most ≡ t → leb (min x cap) most ≡ t
    go true e = le-leb (min x cap) most (omega (arith, leb-true x most e))
    go false e = lt-leb (min x cap) most (omega (arith, leb-false x most e))

pub at_least_one : (x : ℕ) → leb 1 (hold x) ≡ leb 1 x
at_least_one x = go (leb 1 x) refl
  where
    go : (t : Bool) → leb 1 x ≡ t → leb 1 (hold x) ≡ t
    go true e = le-leb 1 (hold x) (omega (arith, leb-true 1 x e))
    go false e = lt-leb 1 (hold x) (omega (arith, leb-false 1 x e))

pub held_at : (ns : List ℕ) (i : ℕ) → get_or (map hold ns) i 0 ≡ hold (get_or ns i 0)
held_at [] i = refl
held_at (n ∷ ns) zero = refl
held_at (n ∷ ns) (suc i) = held_at ns i
