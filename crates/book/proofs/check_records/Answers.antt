use mathlib.Core.Path.{◌≡◌, sym, ◌∙◌, ap}
use native.Mathlib.Omega.{arith}
use Rattle.book.specs.declared.RecordTurn.{RecordTurn}
use Rattle.book.proofs.Turns.{stops, goes_on_lem, ends}
use Rattle.book.proofs.check_records.Goals as goal

number : {t u : RecordTurn} → t ≡ u → t.number ≡ u.number
number e = ap (λ (t : RecordTurn). t.number) e

lowest : {t u : RecordTurn} → t ≡ u → t.low ≡ u.low
lowest e = ap (λ (t : RecordTurn). t.low) e

pub returns-then-t-ne0 : goal.returns-then-t-ne0
returns-then-t-ne0 c =
    let loop = c.loop-i in
    let args = c.args in
    let v = number c.turn_at-t.ensures in
    c.refused.ensures
    ∙ sym (stops args.minutes args.b.now loop.low loop.i args.n _ c.loop-i-test.true v c.if-t-ne0.true)
    ∙ loop.invariant

pub loop-i-preserved : goal.loop-i-preserved
loop-i-preserved c =
    let turn = c.turn_at-t.ensures in
    let loop = c.loop-i in
    let args = c.args in
    let step = goes_on_lem args.minutes args.b.now loop.low loop.i args.n _ _ c.loop-i-test.true (number turn) c.if-t-ne0.false (lowest turn) in
    sym step ∙ loop.invariant

pub returns : goal.returns
returns c =
    let loop = c.loop-i in
    let args = c.args in
    c.refused-2.ensures ∙ sym (ends args.minutes args.b.now loop.low loop.i args.n c.loop-i-test.false) ∙ loop.invariant
