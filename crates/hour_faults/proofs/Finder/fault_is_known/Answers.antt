use Rattle.std.proofs.Common.{sym, ◌∙◌}
use Rattle.hour_faults.proofs.Streaming.{spoilt_heading, spoilt_blank, spoilt_line}
use Rattle.hour_faults.proofs.Finder.fault_is_known.Goals as goal

pub returns-then-is_heading : goal.returns-then-is_heading
returns-then-is_heading c = spoilt_heading c.args.self (sym c.is_heading.ensures ∙ c.if-is_heading.true)

pub returns-then-is_blank : goal.returns-then-is_blank
returns-then-is_blank c =
    spoilt_blank c.args.self (sym c.is_heading.ensures ∙ c.if-is_heading.false)
    (sym c.is_blank.ensures ∙ c.if-is_blank.true)

pub returns : goal.returns
returns c =
    spoilt_line c.args.self
    (sym c.is_heading.ensures ∙ c.if-is_heading.false)
    (sym c.is_blank.ensures ∙ c.if-is_blank.false)
