use mathlib.Core.Path.{◌∙◌, ap}
use Rattle.remark.specs.declared.why.Bad.{Bad}
use Rattle.remark.specs.Forms.{field_form}
use Rattle.remark.specs.Remarks.{bad_values, field_values}
use Rattle.remark.proofs.Cases.{same_said}
use Rattle.remark.proofs.bad.field_text.Goals as goal

pub returns-clause-renders : goal.returns-clause-renders
unfolding field_values
returns-clause-renders c =
    let x = c.args.x in
    let values = c.bad_values-values.ensures ∙ ap (λ (r : Bad). bad_values r x) c.bad_of.ensures in
    (same_said field_form c.name_of.ensures values (c.say_with.ensures.renders, c.say_with.ensures.prefix_len)).0
