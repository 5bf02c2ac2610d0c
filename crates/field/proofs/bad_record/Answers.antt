use borrow.Author.Rules.{rules}
use Rattle.field.proofs.Told.{no_late, no_short, as_told_lem}
use Rattle.field.proofs.bad_record.Goals as goal

pub returns-then-i-ge-MOST_RECORDS : goal.returns-then-i-ge-MOST_RECORDS
returns-then-i-ge-MOST_RECORDS c = no_late _ _ c.if-i-ge-MOST_RECORDS.true

pub returns-then-b-at : goal.returns-then-b-at
returns-then-b-at c =
    let short = c.if-b-at.true in
    no_short _ _ c.if-i-ge-MOST_RECORDS.false (search rules)

pub returns : goal.returns
returns c =
    as_told_lem c.args.b.now c.args.i _ _ _ _ _ _ c.if-i-ge-MOST_RECORDS.false (search rules)
    c.header_at-h.ensures c.minutes_of.ensures c.record_at-call.ensures
    c.place_of-at.ensures c.reserved_at-reserved.ensures c.bad_field-field.ensures
