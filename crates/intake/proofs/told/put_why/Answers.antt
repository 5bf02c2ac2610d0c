use mathlib.Core.Path.{sym, ap}
use native.Mathlib.Omega.{arith}
use Rattle.std.specs.Prelude.{Some}
use Rattle.render.proofs.Placed.{looser, same_put}
use Rattle.intake.specs.declared.Reason.{Reason}
use Rattle.intake.specs.Told.{reason_text, most_reason}
use Rattle.intake.proofs.told.put_why.Goals as goal

pub returns-in-NotLine : goal.returns-in-NotLine
unfolding reason_text
returns-in-NotLine c =
    let a = c.args in
    same_put (sym (ap (λ (r : Reason). reason_text (a.area) (a.year) (a.month) (Some r)) (c.in-NotLine.is))) (looser most_reason (omega arith)
    (c.put_line.ensures))

pub returns-in-Beyond : goal.returns-in-Beyond
unfolding reason_text
returns-in-Beyond c =
    let a = c.args in
    same_put (sym (ap (λ (r : Reason). reason_text (a.area) (a.year) (a.month) (Some r)) (c.in-Beyond.is))) (looser most_reason (omega arith)
    (c.put_line-in-Beyond.ensures))

pub returns-in-OtherArea : goal.returns-in-OtherArea
unfolding reason_text
returns-in-OtherArea c =
    let a = c.args in
    same_put (sym (ap (λ (r : Reason). reason_text (a.area) (a.year) (a.month) (Some r)) (c.in-OtherArea.is))) (looser most_reason (omega arith)
    (rw (c.from.ensures, c.from-in-OtherArea.ensures) at c.put_other.ensures))

pub returns-in-OtherYear : goal.returns-in-OtherYear
unfolding reason_text
returns-in-OtherYear c =
    let a = c.args in
    same_put (sym (ap (λ (r : Reason). reason_text (a.area) (a.year) (a.month) (Some r)) (c.in-OtherYear.is))) (looser most_reason (omega arith)
    (rw (c.from-in-OtherYear.ensures, c.from-in-OtherYear-2.ensures) at c.put_other-in-OtherYear.ensures))

pub returns-in-NotLater : goal.returns-in-NotLater
unfolding reason_text
returns-in-NotLater c =
    let a = c.args in
    same_put (sym (ap (λ (r : Reason). reason_text (a.area) (a.year) (a.month) (Some r)) (c.in-NotLater.is))) (looser most_reason (omega arith)
    (c.put_not_later.ensures))

pub returns-in-NotZero : goal.returns-in-NotZero
unfolding reason_text
returns-in-NotZero c =
    let a = c.args in
    same_put (sym (ap (λ (r : Reason). reason_text (a.area) (a.year) (a.month) (Some r)) (c.in-NotZero.is))) (looser most_reason (omega arith)
    (c.put_word.ensures))
