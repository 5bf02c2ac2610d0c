use mathlib.Core.Path.{◌≡◌, sym, ◌∙◌}
use Prim.Native.Nat.{suc, ◌+◌, ◌-◌}
use native.Mathlib.Nat.{add_assoc}
use native.Mathlib.Omega.{arith}
use lib.ListN.{length-set}
use lib.Seq.{sets}
use Rattle.le.specs.Le.{le_bytes}
use Rattle.le.proofs.Laws.{one_less, all_stored}
use Rattle.le.proofs.put_number.Goals as goal

pub loop-k-preserved : goal.loop-k-preserved
loop-k-preserved c =
    let l = c.loop-k in
    let a = c.args in
    let w : a.width - l.k ≡ suc (a.width - (l.k + 1)) = omega arith in
    let e : sets l.s (a.at + l.k) (le_bytes (suc (a.width - (l.k + 1))) l.rest) ≡ sets a.s.now a.at (le_bytes a.width a.v) = rw w at l.invariant.1 in
    (simp length-set l.invariant.0, rw (← add_assoc) (one_less l.s (a.at + l.k) _ l.rest ∙ e))

pub returns : goal.returns
returns c =
    let l = c.loop-k in
    let a = c.args in
    let w : a.width - l.k ≡ 0 = omega arith in
    record { is = sym (all_stored l.s _ l.rest) ∙ rw w at l.invariant.1 }
