use Prim.Native.Nat.{ℕ, ◌+◌, ◌-◌, ◌/◌, ◌<◌, ◌≤◌}
use native.Mathlib.Omega.{arith}
use Rattle.book.specs.Book.{most_keys}
use Rattle.lookup.proofs.Places.{goes_up, goes_down}
use Rattle.join.proofs.Books.{long, few}
use Rattle.lookup.proofs.lower_than.Goals as goal

-- the middle lies from the lower end on, and before the upper one
half : (low high : ℕ) → low < high → (low ≤ low + (high - low) / 2) × (low + (high - low) / 2 < high)
half low high l = (omega arith, omega arith)

pub count_at-high-requires : goal.count_at-high-requires
count_at-high-requires c = long _ c.requires

pub loop-low-preserved-then-key_at-key : goal.loop-low-preserved-then-key_at-key
loop-low-preserved-then-key_at-key c =
    let middle : (c.loop-low.low ≤ c.loop-low.low + (c.loop-low.high - c.loop-low.low) / 2) × (c.loop-low.low + (c.loop-low.high - c.loop-low.low) / 2 < c.loop-low.high)
    × (c.loop-low.high ≤ most_keys) =
    let l = c.loop-low in
    let h = half l.low l.high c.loop-low-test.true in
    (h.0, h.1, omega (arith, l.invariant.ordered.1, few _ c.requires)) in
    let m = middle in
    goes_up _ c.requires _ _ _ _ c.loop-low.invariant m.0 m.1 (omega (arith, c.key_at.ensures, c.if-key_at-key.true))

pub loop-low-preserved : goal.loop-low-preserved
loop-low-preserved c =
    let middle : (c.loop-low.low ≤ c.loop-low.low + (c.loop-low.high - c.loop-low.low) / 2) × (c.loop-low.low + (c.loop-low.high - c.loop-low.low) / 2 < c.loop-low.high)
    × (c.loop-low.high ≤ most_keys) =
    let l = c.loop-low in
    let h = half l.low l.high c.loop-low-test.true in
    (h.0, h.1, omega (arith, l.invariant.ordered.1, few _ c.requires)) in
    let m = middle in
    goes_down _ c.requires _ _ _ _ c.loop-low.invariant m.0 m.1 (λ h. omega (arith, c.key_at.ensures, c.if-key_at-key.false))
