use mathlib.Core.Path.{sym, ap, ◌∙◌}
use Prim.Native.Nat.{◌≤◌}
use native.Mathlib.Omega.{arith}
use lib.Dec.{lit<}
use lib.ListN.{length}
use Rattle.share.specs.Sharing.{assessed}
use Rattle.share.proofs.Bounds.{compensated_le, assessed_le}
use Rattle.share.proofs.Cases.{settled_15, gap_is}
use Rattle.share_bytes.specs.Bytes.{fields_at, if_room}
use Rattle.share_bytes.specs.Inner.{spelt_lines}
use Rattle.share_bytes.proofs.Spelling.{length_lines}
use Rattle.share_bytes.proofs.Rows.{untouched, room_refused}
use Rattle.share_bytes.proofs.settle_bytes.Goals as goal

pub sums_at-t-requires : goal.sums_at-t-requires
sums_at-t-requires c =
    let assessed-fits : assessed (spelt_lines c.args.s.now c.args.count) ≤ 64000000000 = let ls = spelt_lines c.args.s.now c.args.count in
    omega (arith, c.requires.count_le_most_number, assessed_le ls c.requires.lines_within, length_lines (fields_at c.args.s.now) 0 c.args.count) in
    let ls = spelt_lines c.args.s.now c.args.count in record {
      count_in_bounds = c.requires.count_in_bounds;
      count_bound = omega (arith, c.requires.count_le_most_number, compensated_le ls c.requires.lines_within, length_lines (fields_at c.args.s.now) 0 c.args.count);
      count_bound_2 = omega (arith, assessed-fits);
    }

pub returns-then-t-gt-MOST_COMPENSATION : goal.returns-then-t-gt-MOST_COMPENSATION
returns-then-t-gt-MOST_COMPENSATION c =
    let a = c.args in
    let ls = spelt_lines a.s.now a.count in
    let more = settled_15 a.part ls (omega (arith, c.sums_at-t.ensures.compensated_value, c.if-t-gt-MOST_COMPENSATION.true)) in
    untouched a.part ls a.out.now c.refused.result 15 0 (lit< tt)
    (ap (if_room (length a.out.now)) (sym more) ∙ room_refused (length a.out.now) 15 0 (lit< tt)) c.refused.ensures

pub gap_of-requires : goal.gap_of-requires
gap_of-requires c =
    let assessed-fits : assessed (spelt_lines c.args.s.now c.args.count) ≤ 64000000000 = let ls = spelt_lines c.args.s.now c.args.count in
    omega (arith, c.requires.count_le_most_number, assessed_le ls c.requires.lines_within, length_lines (fields_at c.args.s.now) 0 c.args.count) in record {
      part_le_most_part = c.requires.part_le_most_part;
      compensated_le_most_compensation = c.if-t-gt-MOST_COMPENSATION.false;
      assessed_le_most_compensation = omega (arith, c.sums_at-t.ensures.assessed_value, assessed-fits);
    }

pub returns : goal.returns
returns c =
    c.share_gap.ensures c.args.part
    (gap_is c.args.part (spelt_lines c.args.s.now c.args.count) c.sums_at-t.result.compensated.0 c.sums_at-t.result.assessed.0 _ _ _ _ c.sums_at-t.ensures.compensated_value
    c.sums_at-t.ensures.assessed_value
    c.gap_of.ensures.amount_value c.gap_of.ensures.negative_value c.gap_of.ensures.whole_value c.gap_of.ensures.user_value)
