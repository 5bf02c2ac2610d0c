use Prim.Native.Nat.{◌≤◌}
use native.Mathlib.Omega.{arith}
use lib.ListN.{length}
use Rattle.join.proofs.Taken.{lies}
use Rattle.tabs.proofs.Walking.{next_there, next_over}
use Rattle.tabs.proofs.walk.is_of.Goals as goal

pub participant_at-requires : goal.participant_at-requires
participant_at-requires c = (lies c.requires c.if-at-b.true).long

pub returns-then-at-b : goal.returns-then-at-b
returns-then-at-b c = next_there _ _ _ c.participant_at.result c.if-at-b.true c.participant_at.ensures

pub returns : goal.returns
returns c =
    let s = c.args in
    let h : length s.b.now ≤ s.at = omega (arith, c.if-at-b.false) in
    next_over _ _ _ h
