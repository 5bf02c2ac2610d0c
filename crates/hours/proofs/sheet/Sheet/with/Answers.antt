use Rattle.std.proofs.Common.{[], ◌∷◌, sym, ◌∙◌}
use Rattle.hours.specs.Inner.{ended_line}
use Rattle.hours.proofs.Taking.{none_of, stays_spoilt, with_refused, with_taken}
use Rattle.hours.proofs.sheet.Sheet.with.Goals as goal

pub returns-then-is_some : goal.returns-then-is_some
returns-then-is_some c = let a = c.args in
    λ m hours ls j. stays_spoilt m hours ls (ended_line a.grid a.ended ∷ []) a.self j (sym c.is_some.ensures ∙ c.if-is_some.true)

pub returns-then-not-takes : goal.returns-then-not-takes
returns-then-not-takes c =
    let a = c.args in
    let l = c.line_in-l in
    with_refused a.self (ended_line a.grid a.ended) c.refusing.result (none_of _ (sym c.is_some.ensures ∙ c.if-is_some.false)) l.result l.ensures
    (sym c.takes.ensures ∙ c.if-not-takes.true) c.refusing.ensures

pub returns : goal.returns
returns c =
    let a = c.args in
    let l = c.line_in-l in
    with_taken a.self (ended_line a.grid a.ended) c.taking.result (none_of _ (sym c.is_some.ensures ∙ c.if-is_some.false)) l.result l.ensures
    (sym c.takes.ensures ∙ c.if-not-takes.false) c.taking.ensures
