use Rattle.book.specs.Book.{header_at}
use Rattle.book.proofs.header_at.Goals as goal

pub returns : goal.returns
unfolding header_at
returns c = λ i. record { area = c.u8_at-area.ensures i; year = c.u16_at-year.ensures i; month = c.u8_at-month.ensures i }
