use mathlib.Core.Path.{ap}
use Rattle.report.specs.Texts.{most_month, month_of, month_text}
use Rattle.render.proofs.Placed.{rendered, same_put}
use Rattle.report.proofs.month_text.Goals as goal

pub returns : goal.returns
unfolding month_text
returns c =
    let s = c.args.s in
    let p = rendered most_month c.if-out-lt-MOST_MONTH.false (same_put (ap (month_of s) c.seen.ensures.0) c.put_month.ensures) in
    record { renders = p.0; prefix_len = p.1 }
