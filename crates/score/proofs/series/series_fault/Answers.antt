use mathlib.Core.Path.{sym, ◌∙◌}
use native.Mathlib.Nat.{le_refl}
use Rattle.score.proofs.Turns.{series_length, series_value, series_good}
use Rattle.score.proofs.series.series_fault.Goals as goal

pub returns-then-series-quarters : goal.returns-then-series-quarters
returns-then-series-quarters c = c.refused.ensures ∙ sym (series_length _ _ c.if-series-quarters.true)

pub returns-then-not-any_too_much : goal.returns-then-not-any_too_much
returns-then-not-any_too_much c =
    let a = c.any_too_much in
    let f = a.ensures (c.if-not-any_too_much.true) in
    c.refused-then-not-any_too_much.ensures ∙ sym (series_good _ _ c.if-series-quarters.false _ (sym f) (le_refl _))

pub returns-then-at-series : goal.returns-then-at-series
returns-then-at-series c =
    let f = c.first_too_much-at in
    c.refused-then-at-series.ensures ∙ sym (series_value _ _ c.if-series-quarters.false _ f.ensures c.if-at-series.true)

pub returns : goal.returns
returns c =
    let f = c.first_too_much-at in
    c.refused-2.ensures ∙ sym (series_good _ _ c.if-series-quarters.false _ f.ensures c.if-at-series.false)
