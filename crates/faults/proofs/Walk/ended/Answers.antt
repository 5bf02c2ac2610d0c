use Rattle.std.proofs.Common.{sym, refl, ◌∙◌}
use Rattle.faults.proofs.Walking.{by_heading, by_blank}
use Rattle.faults.proofs.Walk.ended.Goals as goal

pub returns-then-is_heading : goal.returns-then-is_heading
returns-then-is_heading c = record {
  by_index = λ text end. by_heading text c.args.self end (sym c.is_heading.ensures ∙ c.if-is_heading.true) c.passing.result
      c.passing.ensures;
  at_value = λ s. c.passing.ensures.at;
}

pub returns-then-is_blank : goal.returns-then-is_blank
returns-then-is_blank c = record {
  by_index = λ text end. by_blank text c.args.self end (sym c.is_heading.ensures
      ∙ c.if-is_heading.false) (sym c.is_blank.ensures ∙ c.if-is_blank.true) c.passing-then-is_blank.result
      _ refl c.passing-then-is_blank.ensures;
  at_value = λ s. c.passing-then-is_blank.ensures.at;
}
