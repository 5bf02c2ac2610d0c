use Prim.Native.Nat.{◌+◌, ◌<◌, ◌≤◌}
use native.Mathlib.Omega.{arith}
use Rattle.join.proofs.Taken.{lies}
use Rattle.tabs.proofs.Stretches.{in_book, stretch_next, end_few, pair_there, pair_over}
use Rattle.tabs.proofs.walk.live_pair.Goals as goal

pub overflow_add-at : goal.overflow_add-at
overflow_add-at c = let g = c.requires in let o = g.order in omega (arith, end_few g)

pub state_at-x-requires : goal.state_at-x-requires
state_at-x-requires c =
    let one : c.args.at < c.args.end =
    omega (arith, c.if-at-end.true) in
    let g = c.requires in (lies g.from (in_book g one)).long

pub state_at-y-requires : goal.state_at-y-requires
state_at-y-requires c =
    let one : c.args.at < c.args.end =
    omega (arith, c.if-at-end.true) in
    let two : c.args.at + 32 < c.args.end =
    omega (arith, c.if-at-end.true) in
    let g = stretch_next c.requires one in
    (lies g.from (in_book g two)).long

pub returns-then-at-end : goal.returns-then-at-end
returns-then-at-end c =
    let two : c.args.at + 32 < c.args.end =
    omega (arith, c.if-at-end.true) in
    pair_there _ _ _ c.state_at-x.result c.state_at-y.result two c.state_at-x.ensures c.state_at-y.ensures

pub returns : goal.returns
returns c =
    let s = c.args in
    let h : s.end ≤ s.at + 32 = omega (arith, c.if-at-end.false) in
    pair_over _ _ _ h
