use mathlib.Core.Path.{subst}
use native.Mathlib.Omega.{arith}
use Rattle.share.specs.Sharing.{SharingOutcome}
use Rattle.share.specs.Inner.{Carries}
use Rattle.share.proofs.Bounds.{compensated_le, assessed_le}
use Rattle.share.proofs.Cases.{settled_15, gap_is}
use Rattle.share.proofs.settle.settle.Goals as goal

pub sums-s-requires : goal.sums-s-requires
sums-s-requires c =
    let ls = c.args.lines.now in
    record {
      lines_bound = omega (arith, compensated_le ls c.requires.lines_within);
      lines_bound_2 = omega (arith, assessed_le ls c.requires.lines_within);
    }

pub returns-then-s-gt-MOST_COMPENSATION : goal.returns-then-s-gt-MOST_COMPENSATION
returns-then-s-gt-MOST_COMPENSATION c =
    let ls = c.args.lines.now in
    subst (λ (o : SharingOutcome). Carries ls o c.refusal.result)
    (settled_15 c.args.part ls (omega (arith, c.sums-s.ensures.compensated_value, c.if-s-gt-MOST_COMPENSATION.true))) (c.refusal.ensures ls)

pub gap_of-requires : goal.gap_of-requires
gap_of-requires c =
    record {
      part_le_most_part = c.requires.part_le_most_part;
      compensated_le_most_compensation = c.if-s-gt-MOST_COMPENSATION.false;
      assessed_le_most_compensation = omega (arith, c.sums-s.ensures.assessed_value, assessed_le c.args.lines.now c.requires.lines_within);
    }

pub returns : goal.returns
returns c =
    c.carry.ensures c.args.part
    (gap_is c.args.part c.args.lines.now c.sums-s.result.compensated.0 c.sums-s.result.assessed.0 _ _ _ _ c.sums-s.ensures.compensated_value c.sums-s.ensures.assessed_value
    c.gap_of.ensures.amount_value c.gap_of.ensures.negative_value c.gap_of.ensures.whole_value c.gap_of.ensures.user_value)
