use mathlib.Core.Path.{sym, ◌∙◌}
use native.Mathlib.Omega.{arith}
use borrow.Author.Tests.{eqb-true, eqb-false}
use Rattle.le.specs.Le.{IsBytes}
use Rattle.rule.proofs.Equal.{differ_first, differ_second, by_last}
use Rattle.rule.proofs.same_call_at.Goals as goal

pub returns-then-not-same_word_at : goal.returns-then-not-same_word_at
unfolding IsBytes
returns-then-not-same_word_at c =
    let first_small : IsBytes c.args.first.now =
    λ i. omega (arith, c.type_inv.first i) in
    let second-small : IsBytes c.args.second.now =
    λ i. omega (arith, c.type_inv.second i) in
    differ_first _ first_small _ second-small c.args.a c.args.b c.requires.a_value
    (eqb-false _ _ (sym c.same_word_at.ensures ∙ c.if-not-same_word_at.true))

pub returns-then-not-same_word_at-2 : goal.returns-then-not-same_word_at-2
unfolding IsBytes
returns-then-not-same_word_at-2 c =
    let first_small : IsBytes c.args.first.now =
    λ i. omega (arith, c.type_inv.first i) in
    let second-small : IsBytes c.args.second.now =
    λ i. omega (arith, c.type_inv.second i) in
    differ_second _ first_small _ second-small c.args.a c.args.b c.requires.a_value
    (eqb-false _ _ (sym c.same_word_at-2.ensures ∙ c.if-not-same_word_at-2.true))

pub returns : goal.returns
unfolding IsBytes
returns c =
    let first_small : IsBytes c.args.first.now =
    λ i. omega (arith, c.type_inv.first i) in
    let second-small : IsBytes c.args.second.now =
    λ i. omega (arith, c.type_inv.second i) in
    c.same_word_at-3.ensures
    ∙ by_last _ first_small _ second-small c.args.a c.args.b c.requires.a_value
    (eqb-true _ _ (sym c.same_word_at.ensures ∙ c.if-not-same_word_at.false))
    (eqb-true _ _ (sym c.same_word_at-2.ensures ∙ c.if-not-same_word_at-2.false))
