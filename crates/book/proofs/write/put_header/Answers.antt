use mathlib.Core.Path.{refl}
use Rattle.le.specs.Le.{le_bytes}
use Rattle.le.proofs.Laws.{then}
use Rattle.book.specs.Book.{mark_bytes, date_bytes, head_bytes}
use Rattle.book.proofs.write.put_header.Goals as goal

pub returns : goal.returns
unfolding head_bytes mark_bytes date_bytes le_bytes
returns c =
    then 10 refl (then 4 refl c.put_mark.ensures c.put_date.ensures) c.put_count.ensures
