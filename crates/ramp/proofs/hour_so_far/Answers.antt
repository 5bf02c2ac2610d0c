use mathlib.Core.Path.{ap, sym, ◌∙◌}
use native.Mathlib.Omega.{arith}
use Rattle.ramp.specs.Bytes.{actions_from}
use Rattle.ramp.specs.Inner.{takes_action}
use Rattle.ramp.proofs.Answers.{Taken, at_end, at_stop, go_on}
use Rattle.ramp.proofs.hour_so_far.Goals as goal

pub loop-i-init : goal.loop-i-init
unfolding actions_from
loop-i-init c = c.start-h.ensures

pub returns-then-not-takes : goal.returns-then-not-takes
returns-then-not-takes c =
    let s = c.args in
    let l = c.loop-i in
    let t : Taken s.s.now s.count l.h = at_stop s.s.now s.count l.i l.h l.invariant (omega arith) (ap (takes_action l.h) (sym c.action_at-a.ensures) ∙ sym c.takes.ensures ∙ c.if-not-takes.true) in
    record { so_far = t.0; count_value = t.1 }

pub loop-i-preserved : goal.loop-i-preserved
loop-i-preserved c =
    let s = c.args in
    let l = c.loop-i in
    go_on s.s.now s.count l.i l.h l.invariant c.with-h.result (rw (← c.action_at-a.ensures) c.with-h.ensures)

pub returns : goal.returns
returns c =
    let s = c.args in
    let l = c.loop-i in
    let t : Taken s.s.now s.count l.h = at_end s.s.now s.count l.i l.h l.invariant (omega arith) in
    record { so_far = t.0; count_value = t.1 }
