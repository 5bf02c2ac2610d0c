use mathlib.Core.Path.{◌≡◌, sym, ◌∙◌, ap}
use Rattle.book.specs.declared.Verdict.{Verdict}
use Rattle.book.specs.Check.{check}
use Rattle.book.proofs.Judged.{zero_accepted}
use Rattle.drawer.proofs.Refusals.{book_refused, next_of}
use Rattle.drawer.proofs.refused.next_refused.Goals as goal

pub returns-then-number-ne0 : goal.returns-then-number-ne0
returns-then-number-ne0 c = book_refused _ _ _ c.check-v.result c.check-v.ensures c.if-number-ne0.true

pub refused_from-requires : goal.refused_from-requires
refused_from-requires c =
    let none : (check c.args.b.now).number ≡ 0 =
    ap (λ (v : Verdict). v.number) (sym c.check-v.ensures) ∙ c.if-number-ne0.false in
    zero_accepted _ none

pub returns : goal.returns
returns c =
    let none : (check c.args.b.now).number ≡ 0 =
    ap (λ (v : Verdict). v.number) (sym c.check-v.ensures) ∙ c.if-number-ne0.false in
    c.refused_from.ensures ∙ next_of _ _ _ none
