use mathlib.Core.Path.{sym, ◌∙◌}
use Rattle.call.specs.Layout.{call_at}
use Rattle.rule.specs.Standing.{standing}
use Rattle.join.proofs.Steps.{settles_lower, settles_upper, settles_equal}
use Rattle.join.proofs.next_from.Goals as goal

pub returns-then-lower : goal.returns-then-lower
returns-then-lower c =
    let s = c.args in
    record {
      call = call_at s.first.now s.a;
      settled = settles_lower (call_at s.first.now s.a) (call_at s.second.now s.b) _ _ (sym c.precedes-lower.ensures ∙ c.if-lower.true);
    }

pub returns-then-upper : goal.returns-then-upper
returns-then-upper c =
    let s = c.args in
    record {
      call = call_at s.second.now s.b;
      settled = settles_upper (call_at s.first.now s.a) (call_at s.second.now s.b) _ _ (sym c.precedes-upper.ensures ∙ c.if-upper.true);
    }

pub returns : goal.returns
returns c =
    let s = c.args in
    record {
      call = standing (call_at s.first.now s.a) (call_at s.second.now s.b);
      settled =
          settles_equal (call_at s.first.now s.a) (call_at s.second.now s.b) _ _ (sym c.precedes-lower.ensures ∙ c.if-lower.false)
          (sym c.precedes-upper.ensures ∙ c.if-upper.false);
    }
