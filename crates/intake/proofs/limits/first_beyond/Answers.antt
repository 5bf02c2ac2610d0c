use mathlib.Core.Path.{◌≡◌, sym, ◌∙◌}
use native.Mathlib.Omega.{arith}
use lib.ListN.{length}
use Rattle.intake.proofs.Walks.{beyond_on, beyond_off, beyond_end}
use Rattle.intake.proofs.limits.first_beyond.Goals as goal

pub returns-then-not-row_is_within : goal.returns-then-not-row_is_within
returns-then-not-row_is_within c =
    let l = c.loop-i in
    beyond_off c.args.rows.now l.i (omega arith) _ l.before (sym c.row_is_within.ensures ∙ c.if-not-row_is_within.true) l.invariant

pub loop-i-preserved : goal.loop-i-preserved
loop-i-preserved c =
    let l = c.loop-i in
    beyond_on c.args.rows.now l.i (omega arith) _ l.before (sym c.row_is_within.ensures ∙ c.if-not-row_is_within.false) l.invariant

pub returns : goal.returns
returns c =
    let l = c.loop-i in
    let e : l.i ≡ length c.args.rows.now = omega arith in
    sym e ∙ beyond_end c.args.rows.now l.i l.before (omega arith) l.invariant
