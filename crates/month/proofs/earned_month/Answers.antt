use mathlib.Core.Path.{◌≡◌, ◌∙◌}
use lib.ListN.{length, take}
use lib.Seq.{length-take-le}
use Rattle.month.specs.Settling.{earnings}
use Rattle.month.proofs.Settled.{earned_refused, earned_shared}
use borrow.Author.Rules.{rules}
use native.Mathlib.Omega.{arith}
use Rattle.month.proofs.earned_month.Goals as goal

pub returns-in-Err : goal.returns-in-Err
returns-in-Err c =
    let a = c.args in
    let es = take a.count a.entries in
    let e = c.in-Err.ensures in
    c.month_refused.ensures
    ∙ earned_refused a.part es a.book.now a.ramped (earnings es a.book.now a.series.now a.lengths a.ramped) c.in-Err.fault e.0 e.1

pub returns-in-Ok : goal.returns-in-Ok
returns-in-Ok c =
    let a = c.args in
    let es = take a.count a.entries in
    let e = c.in-Ok.ensures in
    let long : length a.entries ≡ 64 = search rules in
    let n = length-take-le a.count a.entries (omega arith) in
    c.shared_month.ensures
    ∙ earned_shared a.part a.entries a.book.now a.ramped (earnings es a.book.now a.series.now a.lengths a.ramped) a.count c.in-Ok.grains
    c.compensations-fens.result c.limited_for-lines.result e.0 (rw n at e.1) c.compensations-fens.ensures c.limited_for-lines.ensures
