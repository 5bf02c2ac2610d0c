use mathlib.Core.Path.{sym, ◌∙◌, ap}
use Rattle.cutting.specs.Cutting.{cut_call}
use Rattle.cutting.proofs.Cases.{of_none, of_call_lem}
use Rattle.cutting.proofs.cut_of.Goals as goal

pub returns-in-None : goal.returns-in-None
returns-in-None c = sym (of_none _ _ _ _ _ (sym c.old_in.ensures ∙ c.in-None.is))

pub returns-in-Some : goal.returns-in-Some
returns-in-Some c =
    c.cut_call.ensures
    ∙ ap (cut_call _ _ _) c.old_in-in-Some.ensures
    ∙ sym (of_call_lem _ _ _ _ _ _ (sym c.old_in.ensures ∙ c.in-Some.is))
