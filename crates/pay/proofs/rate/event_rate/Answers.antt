use mathlib.Core.Path.{sym, ◌∙◌}
use Rattle.pay.specs.Rate.{event_rate}
use Rattle.pay.proofs.rate.event_rate.Goals as goal

pub returns-then-is_by_rate : goal.returns-then-is_by_rate
unfolding event_rate
returns-then-is_by_rate c = simp (sym c.is_by_rate.ensures ∙ c.if-is_by_rate.true, c.event_band.ensures)

pub returns : goal.returns
unfolding event_rate
returns c = simp (sym c.is_by_rate.ensures ∙ c.if-is_by_rate.false)
