use Rattle.year.specs.Every.{sums_with}
use Rattle.year.proofs.member.sums_with.Goals as goal

pub returns : goal.returns
unfolding sums_with
returns c =
    λ i. record {
      compensation = record { 0 = c.fen_plus-compensation.ensures i };
      assessment = record { 0 = c.thousandths_plus-assessment.ensures i };
      share = record { 0 = c.signed_plus-share.ensures i };
      amount = record { 0 = c.signed_plus-amount.ensures i };
    }
