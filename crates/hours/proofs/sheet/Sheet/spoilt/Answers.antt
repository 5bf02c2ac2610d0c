use Rattle.std.proofs.Common.{[], ◌∷◌, sym, ◌∙◌}
use Rattle.hours.specs.Hours.{as_hour_line}
use Rattle.hours.proofs.Taking.{none_of, stays_spoilt, spoilt_now}
use Rattle.hours.proofs.sheet.Sheet.spoilt.Goals as goal

pub returns-then-is_some : goal.returns-then-is_some
returns-then-is_some c = let a = c.args in λ m hours ls more j. stays_spoilt m hours ls (as_hour_line [] ∷ more) a.self j (sym c.is_some.ensures ∙ c.if-is_some.true)

pub returns : goal.returns
returns c = let a = c.args in
    λ m hours ls more j. spoilt_now m hours ls more a.self j c.refusing.result (none_of _ (sym c.is_some.ensures ∙ c.if-is_some.false)) c.refusing.ensures
