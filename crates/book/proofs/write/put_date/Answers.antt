use mathlib.Core.Path.{refl}
use Rattle.le.specs.Le.{le_bytes}
use Rattle.le.proofs.Laws.{then}
use Rattle.book.specs.Book.{date_bytes}
use Rattle.book.proofs.write.put_date.Goals as goal

pub returns : goal.returns
unfolding date_bytes le_bytes
returns c =
    then 9 refl (then 8 refl (then 6 refl c.put_u16.ensures c.put_u16-2.ensures) c.put_u8.ensures) c.put_u8-2.ensures
