use Rattle.std.proofs.Common.{sym, ◌∙◌}
use Rattle.hours.proofs.Adding.{with_is}
use Rattle.hours.proofs.Taking.{refused_answer, answered}
use Rattle.hours.proofs.sheet.Sheet.answer.Goals as goal

pub returns-in-Some : goal.returns-in-Some
returns-in-Some c =
    let s = c.in-Some in
    λ m hours ls j. c.hours_refused.ensures ∙ refused_answer m hours ls s.fault (j.no s.fault s.is)

pub returns-in-None : goal.returns-in-None
returns-in-None c =
    let s = c.args.self in
    let n = c.hours_with in
    let g = c.grains_sum in
    λ m hours ls j. answered m hours ls s (j.yes c.in-None.is) n.result g.result.0 (n.ensures ∙ sym (with_is s.actions)) g.ensures
