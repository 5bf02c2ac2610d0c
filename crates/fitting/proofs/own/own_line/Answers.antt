use lib.IntN.{pos}
use Rattle.fitting.specs.Fitting.{own_line}
use Rattle.fitting.proofs.own.own_line.Goals as goal

pub returns : goal.returns
unfolding own_line
returns c =
    let r = c.args.r in
    λ i. record {
      number = r.number;
      status = c.status_for.ensures i;
      energy = r.energy;
      compensation = r.compensation;
      assessment = r.assessment;
      share = record { 0 = pos 0 };
      amount = record { 0 = pos 0 };
    }
