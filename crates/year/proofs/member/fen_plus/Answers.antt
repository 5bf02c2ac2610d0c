use borrow.Author.Tests.{le-leb, lt-leb}
use Rattle.year.specs.Every.{fen_plus}
use Rattle.year.proofs.member.fen_plus.Goals as goal

pub returns-then-sum-le-MOST_YEAR_FEN : goal.returns-then-sum-le-MOST_YEAR_FEN
unfolding fen_plus
returns-then-sum-le-MOST_YEAR_FEN c = rw (le-leb _ _ c.if-sum-le-MOST_YEAR_FEN.true)

pub returns : goal.returns
unfolding fen_plus
returns c = rw (lt-leb _ _ c.if-sum-le-MOST_YEAR_FEN.false)
