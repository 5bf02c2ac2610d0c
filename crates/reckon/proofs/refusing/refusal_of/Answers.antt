use mathlib.Core.Path.{sym, ◌∙◌}
use mathlib.Core.List.{[]}
use Rattle.book.specs.Book.{record_at}
use Rattle.score.proofs.Energy.{idle_turned}
use Rattle.reckon.proofs.refusing.refusal_of.Goals as goal

pub returns-then-not-is_own_live : goal.returns-then-not-is_own_live
returns-then-not-is_own_live c =
    let a = c.args in
    let e = c.record_at-x.ensures in
    let h = rw e at (sym c.is_own_live.ensures ∙ c.if-not-is_own_live.true) in
    (idle_turned a.month a.member [] (record_at a.b.now) a.i c.requires.i_bound h c.idle_refusal.result (rw (← e) c.idle_refusal.ensures)).refusal
