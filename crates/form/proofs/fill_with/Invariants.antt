use mathlib.Core.Path.{◌≡◌}
use mathlib.Core.Bool.{true}
use Prim.Native.Nat.{◌-◌}
use lib.ListN.{length}
use Rattle.form.specs.Inner.{Walks}
use Rattle.form.proofs.fill_with.Given as goal

abbrev pub invariant-loop-far : goal.invariant-loop-far
invariant-loop-far l =
    (length l.out ≡ length l.initial.out) × Walks l.one l.other l.form l.values l.initial.out (record { at = l.at; read = 0; taken = 0; on = true }) l.out l.far

abbrev pub decreases-loop-far : goal.decreases-loop-far
decreases-loop-far l = length l.form - l.far.read
