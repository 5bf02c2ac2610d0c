use mathlib.Core.Path.{sym, ◌∙◌}
use Rattle.year.proofs.Taking.{with_both, with_stands, with_refuses, with_takes}
use Rattle.year.proofs.Year.with.Goals as goal

pub returns-then-self-ne0-clause-has_taken : goal.returns-then-self-ne0-clause-has_taken
returns-then-self-ne0-clause-has_taken c =
    let asked = with_both c.args.self c.args.s c.args.self (with_stands c.args.self c.args.s c.if-self-ne0.true) in
    asked.0

pub returns-then-self-ne0-clause-value : goal.returns-then-self-ne0-clause-value
returns-then-self-ne0-clause-value c =
    let asked = with_both c.args.self c.args.s c.args.self (with_stands c.args.self c.args.s c.if-self-ne0.true) in
    asked.1

pub returns-then-not-takes-clause-has_taken : goal.returns-then-not-takes-clause-has_taken
returns-then-not-takes-clause-has_taken c =
    let asked = with_both c.args.self c.args.s c.refused.result
    (c.refused.ensures ∙ with_refuses c.args.self c.args.s c.if-self-ne0.false (sym c.takes.ensures ∙ c.if-not-takes.true)) in
    asked.0

pub returns-then-not-takes-clause-value : goal.returns-then-not-takes-clause-value
returns-then-not-takes-clause-value c =
    let asked = with_both c.args.self c.args.s c.refused.result
    (c.refused.ensures ∙ with_refuses c.args.self c.args.s c.if-self-ne0.false (sym c.takes.ensures ∙ c.if-not-takes.true)) in
    asked.1

pub returns-clause-has_taken : goal.returns-clause-has_taken
returns-clause-has_taken c =
    let asked = with_both c.args.self c.args.s c.taking.result
    (c.taking.ensures ∙ with_takes c.args.self c.args.s c.if-self-ne0.false (sym c.takes.ensures ∙ c.if-not-takes.false)) in
    asked.0

pub returns-clause-value : goal.returns-clause-value
returns-clause-value c =
    let asked = with_both c.args.self c.args.s c.taking.result
    (c.taking.ensures ∙ with_takes c.args.self c.args.s c.if-self-ne0.false (sym c.takes.ensures ∙ c.if-not-takes.false)) in
    asked.1
