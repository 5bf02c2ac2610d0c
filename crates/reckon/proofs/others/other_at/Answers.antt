use mathlib.Core.Path.{sym, ◌∙◌}
use Rattle.book.specs.Book.{record_at}
use Rattle.reckon.proofs.OtherPay.{idle_turned}
use Rattle.reckon.proofs.others.other_at.Goals as goal

pub returns : goal.returns
returns c =
    let a = c.args in
    idle_turned a.member (record_at a.b.now a.i) (rw (← c.record_at-x.ensures) (sym c.is_own_live.ensures ∙ c.if-is_own_live.false))
