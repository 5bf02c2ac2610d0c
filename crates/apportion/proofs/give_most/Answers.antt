use mathlib.Core.Path.{sym, ◌∙◌}
use native.Mathlib.Omega.{arith}
use Rattle.apportion.proofs.Loops.{get_d_total}
use Rattle.apportion.proofs.InTurn.{given_one, given_more, struck_le}
use Rattle.apportion.proofs.give_most.Goals as goal

pub overflow_add-shares : goal.overflow_add-shares
overflow_add-shares c = omega (arith, get_d_total c.args.shares.now c.largest_at-b.result)

pub give_equal-requires : goal.give_equal-requires
give_equal-requires c =
    let g = given_one c.args.left c.largest_at-b.result c.args.rests.now c.args.shares.now c.requires.left_nonzero c.largest_at-b.ensures.upper_bound c.requires.can_give.1
    c.largest_at-b.ensures.value in record {
      shares_len = g.shares_long ∙ c.requires.can_give.1 ∙ sym g.rests_long;
      left_bound = omega (arith, g.sum);
      none_above = struck_le c.args.rests.now c.largest_at-b.result c.largest_at-b.ensures.upper_bound c.largest_at-b.ensures.value;
    }

pub returns : goal.returns
returns c =
    let g = given_one c.args.left c.largest_at-b.result c.args.rests.now c.args.shares.now c.requires.left_nonzero c.largest_at-b.ensures.upper_bound c.requires.can_give.1
    c.largest_at-b.ensures.value in record {
      upper_bound = omega (arith, c.give_equal.ensures.fewer);
      units_given = given_more g c.give_equal.ensures;
    }
