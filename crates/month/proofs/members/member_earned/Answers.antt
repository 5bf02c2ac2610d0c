use mathlib.Core.Path.{sym, ap, ◌∙◌}
use Rattle.score.specs.declared.answer.Earned.{Earned}
use Rattle.month.specs.Settling.{earned_with}
use Rattle.month.proofs.Walking.{turn_score}
use Rattle.month.proofs.members.member_earned.Goals as goal

pub returns-in-Refused : goal.returns-in-Refused
returns-in-Refused c =
    let is = sym c.grains_earned-earned.ensures ∙ c.in-Refused.is in
    turn_score _ _ _ ∙ ap (λ (x : Earned). earned_with x c.args.ramped) (sym is)
