use mathlib.Core.Path.{sym, ◌∙◌}
use native.Mathlib.Omega.{arith}
use Rattle.call.specs.Layout.{call_at}
use Rattle.rule.specs.Standing.{standing}
use Rattle.join.proofs.Steps.{settles_lower, settles_upper, settles_equal}
use Rattle.join.proofs.Taken.{lies, takes}
use Rattle.join.proofs.put_next.Goals as goal

pub precedes-lower-requires : goal.precedes-lower-requires
precedes-lower-requires c =
    record {
      record_size_in_bounds = (lies c.requires.read_to c.requires.a_in_bounds).long;
      record_size_in_bounds_2 = (lies c.requires.read_to_2 c.requires.b_in_bounds).long;
    }

pub copy_record-requires : goal.copy_record-requires
copy_record-requires c = record {
  record_lies = lies c.requires.read_to c.requires.a_in_bounds;
  record_size_in_bounds = c.requires.record_size_in_bounds;
}

pub returns-then-lower : goal.returns-then-lower
returns-then-lower c =
    let s = c.args in
    takes c.requires.read_to c.requires.read_to_2 c.requires.a_in_bounds c.requires.b_in_bounds
    (settles_lower (call_at s.first.now s.a) (call_at s.second.now s.b) _ _ (sym c.precedes-lower.ensures ∙ c.if-lower.true))
    c.copy_record.ensures (omega arith)

pub precedes-upper-requires : goal.precedes-upper-requires
precedes-upper-requires c =
    record {
      record_size_in_bounds = (lies c.requires.read_to_2 c.requires.b_in_bounds).long;
      record_size_in_bounds_2 = (lies c.requires.read_to c.requires.a_in_bounds).long;
    }

pub copy_record-requires-then-upper : goal.copy_record-requires-then-upper
copy_record-requires-then-upper c =
    record {
      record_lies = lies c.requires.read_to_2 c.requires.b_in_bounds;
      record_size_in_bounds = c.requires.record_size_in_bounds;
    }

pub returns-then-upper : goal.returns-then-upper
returns-then-upper c =
    let s = c.args in
    takes c.requires.read_to c.requires.read_to_2 c.requires.a_in_bounds c.requires.b_in_bounds
    (settles_upper (call_at s.first.now s.a) (call_at s.second.now s.b) _ _ (sym c.precedes-upper.ensures ∙ c.if-upper.true))
    c.copy_record-then-upper.ensures (omega arith)

pub decide_at-decision-requires : goal.decide_at-decision-requires
decide_at-decision-requires c =
    record {
      record_size_in_bounds = (lies c.requires.read_to c.requires.a_in_bounds).long;
      record_size_in_bounds_2 = (lies c.requires.read_to_2 c.requires.b_in_bounds).long;
    }

pub put_given-requires : goal.put_given-requires
put_given-requires c =
    record {
      record_lies = lies c.requires.read_to c.requires.a_in_bounds;
      record_lies_2 = lies c.requires.read_to_2 c.requires.b_in_bounds;
      record_size_in_bounds = c.requires.record_size_in_bounds;
    }

pub returns : goal.returns
unfolding standing
returns c =
    let s = c.args in
    takes c.requires.read_to c.requires.read_to_2 c.requires.a_in_bounds c.requires.b_in_bounds
    (settles_equal (call_at s.first.now s.a) (call_at s.second.now s.b) _ _ (sym c.precedes-lower.ensures ∙ c.if-lower.false)
    (sym c.precedes-upper.ensures ∙ c.if-upper.false))
    (rw c.decide_at-decision.ensures at c.put_given.ensures) (omega arith)
