use mathlib.Core.Path.{sym, ◌∙◌}
use native.Mathlib.Omega.{arith}
use borrow.Author.Tests.{eqb-true}
use Rattle.clock.proofs.Parts.{no_digits, bad_digit, all_digits}
use Rattle.clock.proofs.number_in.Goals as goal

pub returns-then-is_empty : goal.returns-then-is_empty
returns-then-is_empty c = no_digits c.args.text.now (eqb-true _ _ (sym c.is_empty.ensures ∙ c.if-is_empty.true))

pub returns-then-not-is_digit : goal.returns-then-not-is_digit
returns-then-not-is_digit c =
    let l = c.loop-b in
    let a = c.args in
    bad_digit a.text.now l.value l.b-index (omega arith) (sym c.is_digit.ensures ∙ c.if-not-is_digit.true) l.invariant.1

pub returns : goal.returns
returns c =
    let l = c.loop-b in
    let text = c.args.text.now in
    all_digits text l.value l.b-index _ (omega arith) (omega arith) l.invariant.1 l.invariant.2 c.hold.ensures
