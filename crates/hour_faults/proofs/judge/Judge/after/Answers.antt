use Rattle.std.proofs.Common.{sym, ◌∙◌}
use Rattle.hour_faults.specs.Inner.{judge_after}
use Rattle.hour_faults.proofs.judge.Judge.after.Goals as goal

pub returns-then-is_heading : goal.returns-then-is_heading
unfolding judge_after
returns-then-is_heading c = rw (sym c.is_heading.ensures ∙ c.if-is_heading.true)

pub returns-then-is_blank : goal.returns-then-is_blank
unfolding judge_after
returns-then-is_blank c = rw (sym c.is_heading.ensures ∙ c.if-is_heading.false, sym c.is_blank.ensures ∙ c.if-is_blank.true)

pub returns-then-blank : goal.returns-then-blank
unfolding judge_after
returns-then-blank c =
    rw (
      sym c.is_heading.ensures ∙ c.if-is_heading.false,
      sym
          c.is_blank.ensures ∙ c.if-is_blank.false,
      c.if-blank.true,
    ) c.spoilt.ensures

pub returns : goal.returns
unfolding judge_after
returns c =
    rw (
      sym c.is_heading.ensures ∙ c.if-is_heading.false,
      sym
          c.is_blank.ensures ∙ c.if-is_blank.false,
      c.if-blank.false,
    ) c.with.ensures
