use borrow.Author.Tests.{le-leb, lt-leb}
use Rattle.year.specs.Every.{thousandths_plus}
use Rattle.year.proofs.member.thousandths_plus.Goals as goal

pub returns-then-sum-le-MOST_YEAR_THOUSANDTHS : goal.returns-then-sum-le-MOST_YEAR_THOUSANDTHS
unfolding thousandths_plus
returns-then-sum-le-MOST_YEAR_THOUSANDTHS c = rw (le-leb _ _ c.if-sum-le-MOST_YEAR_THOUSANDTHS.true)

pub returns : goal.returns
unfolding thousandths_plus
returns c = rw (lt-leb _ _ c.if-sum-le-MOST_YEAR_THOUSANDTHS.false)
