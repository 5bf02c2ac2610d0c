use Rattle.intake.proofs.Texts.{area_kept, area_first, area_bad}
use Rattle.intake.proofs.area_after.Goals as goal

pub returns-in_default : goal.returns-in_default
returns-in_default c = area_bad _ _ _ c.in_default.is

pub returns-then-area-ne0 : goal.returns-then-area-ne0
returns-then-area-ne0 c = area_kept _ _ _ c.in-Ok.is c.if-area-ne0.true

pub returns : goal.returns
returns c = area_first _ _ _ c.in-Ok.is c.if-area-ne0.false
