use mathlib.Core.Path.{sym, ◌∙◌}
use Rattle.book.specs.Book.{record_at}
use Rattle.score.proofs.Ends.{no_search}
use Rattle.score.proofs.refusal.clash_by_ends.Goals as goal

pub returns-then-starts_after-clause-value : goal.returns-then-starts_after-clause-value
returns-then-starts_after-clause-value c =
    let a = c.args in
    let t = c.starts_after in
    sym (no_search a.number a.x (record_at a.b.now) a.i a.ends.now c.requires.ends_kept (sym t.ensures.value ∙ c.if-starts_after.true))
