use mathlib.Core.Path.{◌≡◌, sym, ◌∙◌}
use native.Mathlib.Omega.{arith}
use Rattle.pay.specs.Window.{quarter_at}
use Rattle.pay.proofs.Runs.{one_quarter, counts, counts_not}
use borrow.Author.Rules.{rules}
use Rattle.pay.proofs.window.quarter_counts.Goals as goal

pub returns-then-pay-gt0 : goal.returns-then-pay-gt0
returns-then-pay-gt0 c =
    let pays : c.window_pay-pay.result.0 ≡ quarter_at c.args.member c.args.service c.args.top.0 c.args.series.now c.args.i = c.window_pay-pay.ensures ∙ one_quarter _ _ _ _ _ _ (search rules) in
    (sym (counts _ _ _ _ _ (omega (arith, pays, c.if-pay-gt0.true))), omega arith)

pub returns : goal.returns
returns c =
    let pays : c.window_pay-pay.result.0 ≡ quarter_at c.args.member c.args.service c.args.top.0 c.args.series.now c.args.i = c.window_pay-pay.ensures ∙ one_quarter _ _ _ _ _ _ (search rules) in
    (sym (counts_not _ _ _ _ _ (omega (arith, pays, c.if-pay-gt0.false))), omega arith)
