use Rattle.book.specs.Book.{record_at}
use Rattle.book.proofs.record_at.Goals as goal

pub returns : goal.returns
unfolding record_at
returns c = rw (← c.place_of.ensures) c.call_at.ensures
