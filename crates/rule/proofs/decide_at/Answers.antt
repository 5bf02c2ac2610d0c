use mathlib.Core.Path.{sym, ◌∙◌}
use native.Mathlib.Omega.{arith}
use borrow.Author.Tests.{lt-ltb, le-ltb}
use Rattle.call.specs.Layout.{call_at}
use Rattle.rule.specs.Standing.{decide}
use Rattle.rule.proofs.Equal.{Level, contested_stands, equal_stands, second_stands, both_struck}
use Rattle.rule.proofs.decide_at.Goals as goal

pub returns-then-x-y : goal.returns-then-x-y
unfolding decide
returns-then-x-y c = rw (← c.state_at-x.ensures, ← c.state_at-y.ensures) (simp c.if-x-y.true)

pub returns-then-x-y-2 : goal.returns-then-x-y-2
unfolding decide
returns-then-x-y-2 c =
    rw (← c.state_at-x.ensures, ← c.state_at-y.ensures) (simp (c.if-x-y.false, c.if-x-y-2.true))

pub returns-then-s-r : goal.returns-then-s-r
unfolding decide
returns-then-s-r c =
    rw (← c.state_at-x.ensures, ← c.state_at-y.ensures, ← c.revision_at-r.ensures, ← c.revision_at-s.ensures)
    (simp (c.if-x-y.false, c.if-x-y-2.false, lt-ltb _ _ c.if-s-r.true))

pub returns-then-r-s : goal.returns-then-r-s
unfolding decide
returns-then-r-s c =
    rw (← c.state_at-x.ensures, ← c.state_at-y.ensures, ← c.revision_at-r.ensures, ← c.revision_at-s.ensures)
    (simp (c.if-x-y.false, c.if-x-y-2.false, le-ltb _ _ c.if-s-r.false, lt-ltb _ _ c.if-r-s.true))

pub returns-then-x-eq-CONTESTED : goal.returns-then-x-eq-CONTESTED
returns-then-x-eq-CONTESTED c =
    let level : Level (call_at c.args.first.now c.args.a) (call_at c.args.second.now c.args.b) =
    let x = c.state_at-x.ensures in
    let y = c.state_at-y.ensures in
    let r = c.revision_at-r.ensures in
    let s = c.revision_at-s.ensures in
    let u = c.if-s-r.false in
    let v = c.if-r-s.false in
    record { first = rw (x, y) at c.if-x-y.false; second = rw (x, y) at c.if-x-y-2.false; low = omega arith; high = omega arith } in
    contested_stands level (sym c.state_at-x.ensures ∙ c.if-x-eq-CONTESTED.true)

pub returns-then-same_call_at : goal.returns-then-same_call_at
returns-then-same_call_at c =
    let level : Level (call_at c.args.first.now c.args.a) (call_at c.args.second.now c.args.b) =
    let x = c.state_at-x.ensures in
    let y = c.state_at-y.ensures in
    let r = c.revision_at-r.ensures in
    let s = c.revision_at-s.ensures in
    let u = c.if-s-r.false in
    let v = c.if-r-s.false in
    record { first = rw (x, y) at c.if-x-y.false; second = rw (x, y) at c.if-x-y-2.false; low = omega arith; high = omega arith } in
    equal_stands level (sym c.same_call_at.ensures ∙ c.if-same_call_at.true)

pub returns-then-y-eq-CONTESTED : goal.returns-then-y-eq-CONTESTED
returns-then-y-eq-CONTESTED c =
    let level : Level (call_at c.args.first.now c.args.a) (call_at c.args.second.now c.args.b) =
    let x = c.state_at-x.ensures in
    let y = c.state_at-y.ensures in
    let r = c.revision_at-r.ensures in
    let s = c.revision_at-s.ensures in
    let u = c.if-s-r.false in
    let v = c.if-r-s.false in
    record { first = rw (x, y) at c.if-x-y.false; second = rw (x, y) at c.if-x-y-2.false; low = omega arith; high = omega arith } in
    second_stands level (λ h. c.if-x-eq-CONTESTED.false (c.state_at-x.ensures ∙ h)) (sym c.same_call_at.ensures ∙ c.if-same_call_at.false)
    (sym c.state_at-y.ensures ∙ c.if-y-eq-CONTESTED.true)

pub returns : goal.returns
returns c =
    let level : Level (call_at c.args.first.now c.args.a) (call_at c.args.second.now c.args.b) =
    let x = c.state_at-x.ensures in
    let y = c.state_at-y.ensures in
    let r = c.revision_at-r.ensures in
    let s = c.revision_at-s.ensures in
    let u = c.if-s-r.false in
    let v = c.if-r-s.false in
    record { first = rw (x, y) at c.if-x-y.false; second = rw (x, y) at c.if-x-y-2.false; low = omega arith; high = omega arith } in
    both_struck level (λ h. c.if-x-eq-CONTESTED.false (c.state_at-x.ensures ∙ h)) (sym c.same_call_at.ensures ∙ c.if-same_call_at.false)
    (λ h. c.if-y-eq-CONTESTED.false (c.state_at-y.ensures ∙ h))
