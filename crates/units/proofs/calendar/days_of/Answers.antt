use mathlib.Core.Logic.{⊎_elim}
use mathlib.Core.Path.{refl}
use Rattle.units.specs.Month.{days_of}
use Rattle.units.proofs.Laws.{days_other}
use Rattle.units.proofs.calendar.days_of.Goals as goal

pub returns-then-is_leap : goal.returns-then-is_leap
unfolding days_of
returns-then-is_leap c = simp (c.in-2.is, ← c.is_leap.ensures, c.if-is_leap.true)

pub returns-else-is_leap : goal.returns-else-is_leap
unfolding days_of
returns-else-is_leap c = simp (c.in-2.is, ← c.is_leap.ensures, c.if-is_leap.false)

pub returns-in-4 : goal.returns-in-4
unfolding days_of
returns-in-4 c = ⊎_elim (λ e. rw e) (⊎_elim (λ e. rw e) (⊎_elim (λ e. rw e) (λ e. rw e))) c.in-4.is

pub returns-then-month : goal.returns-then-month
returns-then-month c = rw (days_other _ _ c.in_default.in_default-own.rest.0.1 c.in_default.in_default-own.rest.1, c.if-month.true) refl

pub returns-else-month : goal.returns-else-month
returns-else-month c = rw (days_other _ _ c.in_default.in_default-own.rest.0.1 c.in_default.in_default-own.rest.1, c.if-month.false) refl
