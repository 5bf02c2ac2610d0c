use mathlib.Core.Path.{refl}
use Rattle.le.specs.Le.{le_bytes}
use Rattle.le.proofs.Laws.{then}
use Rattle.book.specs.Book.{mark_bytes}
use Rattle.book.proofs.write.put_mark.Goals as goal

pub returns : goal.returns
unfolding mark_bytes le_bytes
returns c =
    then 3 refl (then 2 refl (then 1 refl c.put_u8.ensures c.put_u8-2.ensures) c.put_u8-3.ensures) c.put_u8-4.ensures
