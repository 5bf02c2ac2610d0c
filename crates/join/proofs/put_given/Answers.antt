use mathlib.Core.Path.{◌∙◌, ap}
use Rattle.call.specs.Revising.{call_contested}
use Rattle.rule.specs.Standing.{given}
use Rattle.join.proofs.put_given.Goals as goal

pub returns-in-First : goal.returns-in-First
unfolding given
returns-in-First c = rw c.in-First.is c.copy_record.ensures

pub returns-in-Second : goal.returns-in-Second
unfolding given
returns-in-Second c = rw c.in-Second.is c.copy_record-in-Second.ensures

pub returns-in-Struck : goal.returns-in-Struck
unfolding given
returns-in-Struck c =
    let e = c.contested.ensures ∙ ap call_contested c.call_at.ensures in
    rw c.in-Struck.is (rw e at c.put_call.ensures)
