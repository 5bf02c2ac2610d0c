use mathlib.Core.Path.{refl}
use borrow.Author.Tests.{eq-eqb, ne_eqb}
use Rattle.field.specs.Field.{service_fits}
use Rattle.field.proofs.service_fits.Goals as goal

pub returns-then-x-eq-LIVE : goal.returns-then-x-eq-LIVE
unfolding service_fits
returns-then-x-eq-LIVE c = rw (eq-eqb _ _ c.if-x-eq-LIVE.true) refl

pub returns : goal.returns
unfolding service_fits
returns c = rw (ne_eqb _ _ c.if-x-eq-LIVE.false) refl
