use Rattle.std.proofs.Common.{sym, ◌∙◌, arith}
use Rattle.hours.proofs.Paying.{pay_stop}
use Rattle.hours.proofs.sheet.paid.Goals as goal

pub returns-then-not-takes : goal.returns-then-not-takes
returns-then-not-takes c =
    let l = c.loop-a in
    let bad = sym c.takes.ensures ∙ c.if-not-takes.true in
    λ rated good. absurd (pay_stop c.args.actions.now l.a-index (omega arith) l.h l.invariant bad good)
