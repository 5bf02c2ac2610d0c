use Rattle.year.specs.Every.{member_with}
use Rattle.year.proofs.member.member_with.Goals as goal

pub returns : goal.returns
unfolding member_with
returns c = λ i. record { months = c.with_month-months.ensures i; sums = c.sums_with-sums.ensures i; largest = c.largest_with-largest.ensures i }
