use native.Mathlib.Omega.{arith}
use mathlib.Core.Path.{◌≡◌, sym}
use Prim.Native.Nat.{ℕ, ◌≤◌, ◌<◌}
use Rattle.day_runs.proofs.Goes.{begins_no, begins_at_first, begins_behind}
use Rattle.day_runs.proofs.runs.run_begins.Goals as goal

-- the day's first minute is behind
before : (f m : ℕ) → f ≤ m → (m ≡ f → ⊥) → f < m
before f m l n = omega arith

pub returns-then-places-at : goal.returns-then-places-at
returns-then-places-at c =
    let a = c.args in
    sym (begins_no a.series.now a.b.now a.places.now a.first a.minute c.covered_by-at.result c.covered_by-at.ensures c.if-places-at.true)

pub returns-then-minute-first : goal.returns-then-minute-first
returns-then-minute-first c =
    let a = c.args in
    let k = c.covered_by-at in
    sym (begins_at_first a.series.now a.b.now a.places.now a.first a.minute k.result k.ensures (omega arith) c.if-minute-first.true)

pub returns : goal.returns
returns c =
    let a = c.args in
    let later : a.first < a.minute = before a.first a.minute c.requires.first_le_minute c.if-minute-first.false in
    let k = c.covered_by-at in
    rw c.goes_on.ensures (sym (begins_behind a.series.now a.b.now a.places.now a.first a.minute k.result k.ensures (omega arith) later))
