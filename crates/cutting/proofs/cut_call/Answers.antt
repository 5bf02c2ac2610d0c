use mathlib.Core.Path.{sym, ◌∙◌}
use borrow.Author.Tests.{eq-eqb, ne_eqb}
use Rattle.cutting.proofs.Cases.{of_withdrawn, of_contested, of_other, of_window}
use Rattle.cutting.proofs.cut_call.Goals as goal

pub returns-then-x-eq-WITHDRAWN : goal.returns-then-x-eq-WITHDRAWN
returns-then-x-eq-WITHDRAWN c = sym (of_withdrawn _ _ _ _ (eq-eqb _ _ c.if-x-eq-WITHDRAWN.true))

pub returns-then-x-eq-CONTESTED : goal.returns-then-x-eq-CONTESTED
returns-then-x-eq-CONTESTED c = sym (of_contested _ _ _ _ (ne_eqb _ _ c.if-x-eq-WITHDRAWN.false) (eq-eqb _ _ c.if-x-eq-CONTESTED.true))

pub returns-then-not-is_window : goal.returns-then-not-is_window
returns-then-not-is_window c =
    sym (of_other _ _ _ _ (ne_eqb _ _ c.if-x-eq-WITHDRAWN.false) (ne_eqb _ _ c.if-x-eq-CONTESTED.false) (sym c.is_window.ensures ∙ c.if-not-is_window.true))

pub returns : goal.returns
returns c =
    c.cut_window.ensures
    ∙ sym (of_window _ _ _ _ (ne_eqb _ _ c.if-x-eq-WITHDRAWN.false) (ne_eqb _ _ c.if-x-eq-CONTESTED.false) (sym c.is_window.ensures ∙ c.if-not-is_window.false))
