use mathlib.Core.Path.{sym, ◌∙◌, ap}
use native.Mathlib.Omega.{arith}
use Rattle.std.specs.Prelude.{Ok}
use Rattle.cutting.specs.Cutting.{cut_new}
use Rattle.cutting.specs.Outcomes.{Inside}
use Rattle.cutting.proofs.Cases.{of_highest, of_outside, of_inside, of_free, of_used, inside_is}
use Rattle.cutting.proofs.cut_window.Goals as goal

pub returns-then-x-ge-HIGHEST : goal.returns-then-x-ge-HIGHEST
returns-then-x-ge-HIGHEST c = sym (of_highest _ _ _ _ c.if-x-ge-HIGHEST.true)

pub returns-then-not-is_inside : goal.returns-then-not-is_inside
returns-then-not-is_inside c = sym (of_outside _ _ _ _ c.if-x-ge-HIGHEST.false (sym c.is_inside.ensures ∙ c.if-not-is_inside.true))

pub in_two-requires : goal.in_two-requires
in_two-requires c =
    let inside : let s = c.args in Inside s.x s.at =
    inside_is _ _ (sym c.is_inside.ensures ∙ c.if-not-is_inside.false) in
    let i = inside in
    record { revision_bound = omega (arith, c.if-x-ge-HIGHEST.false); start_lt_at = (i.behind, i.before) }

pub returns-in-None : goal.returns-in-None
returns-in-None c =
    ap Ok c.in_two.ensures
    ∙ sym (of_inside _ _ _ _ c.if-x-ge-HIGHEST.false (sym c.is_inside.ensures ∙ c.if-not-is_inside.false) ∙ ap (cut_new _ _ _) c.in-None.is ∙ of_free _ _ _)

pub returns-in-Some : goal.returns-in-Some
returns-in-Some c =
    sym (of_inside _ _ _ _ c.if-x-ge-HIGHEST.false (sym c.is_inside.ensures ∙ c.if-not-is_inside.false) ∙ ap (cut_new _ _ _) c.in-Some.is ∙ of_used _ _ _ _)
