use Rattle.against.proofs.Found.{too_late, too_short, there}
use borrow.Author.Rules.{rules}
use Rattle.against.proofs.clash_place.Goals as goal

pub returns-then-i-ge-MOST_RECORDS : goal.returns-then-i-ge-MOST_RECORDS
returns-then-i-ge-MOST_RECORDS c = too_late _ _ c.if-i-ge-MOST_RECORDS.true

pub returns-then-b-place_of : goal.returns-then-b-place_of
returns-then-b-place_of c = too_short _ _ c.if-i-ge-MOST_RECORDS.false (search rules)

pub returns : goal.returns
returns c = there _ _ _ c.if-i-ge-MOST_RECORDS.false (search rules) c.clash_with.ensures
