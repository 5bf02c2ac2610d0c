use mathlib.Core.Path.{refl}
use Rattle.le.specs.Le.{le_bytes}
use Rattle.le.proofs.Laws.{then}
use Rattle.book.specs.Book.{count_bytes}
use Rattle.book.proofs.write.put_count.Goals as goal

pub returns : goal.returns
unfolding count_bytes le_bytes
returns c = then 12 refl c.put_u16.ensures c.put_u32.ensures
