use Rattle.book.specs.Book.{count_at}
use borrow.Author.Rules.{rules}
use Rattle.book.proofs.count_at.Goals as goal

pub returns : goal.returns
unfolding count_at
returns c = (c.u16_at.ensures, search rules)
