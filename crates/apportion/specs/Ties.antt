-- Units given one after the other, in the order that `give_out` has, for inner contracts. Assumes nothing.
use Rattle.std.specs.Prelude.{◌≡◌, List, ℕ, ◌+◌, ◌≤◌, ◌<◌, length}
use Rattle.apportion.specs.Apportion.{total}
use Rattle.apportion.specs.Giving.{give_out}

-- Some units have been given: of so many `left` are still `after`, and giving these comes to the same.
pub record UnitsGiven (left : ℕ) (rests shares : List ℕ) (after : ℕ) (restsAfter sharesAfter : List ℕ) : Type 0 where
  pub fewer : after ≤ left
  pub sum : total sharesAfter + after ≡ total shares + left
  pub rests_long : length restsAfter ≡ length rests
  pub shares_long : length sharesAfter ≡ length shares
  pub same : give_out after restsAfter sharesAfter ≡ give_out left rests shares

-- whether (x is 1) or not (x is 0) a unit goes to the remainder r: one is left, and r is as large as the largest
pub data UnitInTurn (left most r x : ℕ) : Type 0 where
  served : x ≡ 1 → 0 < left → 0 < most → r ≡ most → UnitInTurn left most r x
  passed : x ≡ 0 → (0 < left → 0 < most → r ≡ most → ⊥) → UnitInTurn left most r x
