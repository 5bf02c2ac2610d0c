use mathlib.Core.Path.{sym, ◌∙◌}
use Rattle.book.proofs.Turns.{five, six, none}
use Rattle.book.proofs.turn_at.Goals as goal

pub returns-then-not-is_record : goal.returns-then-not-is_record
returns-then-not-is_record c =
    let args = c.args in
    let unsound = sym c.is_record.ensures ∙ c.if-not-is_record.true in
    λ i. record { number = sym (five args.minutes args.b.now args.low args.i unsound) i; low = c.next_at-after.ensures i }

pub returns-then-next-low : goal.returns-then-next-low
returns-then-next-low c =
    let args = c.args in
    let sound = sym c.is_record.ensures ∙ c.if-not-is_record.false in
    let next = c.next_at-next.ensures in
    λ i. record { number = sym (six args.minutes args.b.now args.low args.i _ sound next c.if-next-low.true) i; low = next i }

pub returns : goal.returns
returns c =
    let args = c.args in
    let sound = sym c.is_record.ensures ∙ c.if-not-is_record.false in
    let next = c.next_at-next.ensures in
    λ i. record { number = sym (none args.minutes args.b.now args.low args.i _ sound next c.if-next-low.false) i; low = next i }
