use mathlib.Core.Bool.{true}
use Rattle.lines.proofs.Past.{tells_ahead, tells_past, tells_lines}
use Rattle.lines.proofs.Stream.{read_settled}
use Rattle.lines.proofs.Reader.is_settled.Goals as goal

pub returns-in_default-clause-by_index : goal.returns-in_default-clause-by_index
returns-in_default-clause-by_index c =
    let asked = let s = c.args.self in read_settled s _ (tells_ahead s c.in_default.is _ c.is_past.ensures) in
    asked.0

pub returns-in_default-clause-tells : goal.returns-in_default-clause-tells
returns-in_default-clause-tells c =
    let asked = let s = c.args.self in read_settled s _ (tells_ahead s c.in_default.is _ c.is_past.ensures) in
    asked.1

pub returns-then-part-gt-MOST_PART-clause-by_index : goal.returns-then-part-gt-MOST_PART-clause-by_index
returns-then-part-gt-MOST_PART-clause-by_index c =
    let asked = let s = c.args.self in read_settled s true (tells_past s c.in-Some.part c.in-Some.is c.if-part-gt-MOST_PART.true) in
    asked.0

pub returns-then-part-gt-MOST_PART-clause-tells : goal.returns-then-part-gt-MOST_PART-clause-tells
returns-then-part-gt-MOST_PART-clause-tells c =
    let asked = let s = c.args.self in read_settled s true (tells_past s c.in-Some.part c.in-Some.is c.if-part-gt-MOST_PART.true) in
    asked.1

pub returns-clause-by_index : goal.returns-clause-by_index
returns-clause-by_index c =
    let asked = let s = c.args.self in
    read_settled s _ (tells_lines s c.in-Some.part c.in-Some.is _ c.if-part-gt-MOST_PART.false c.is_settled.ensures) in
    asked.0

pub returns-clause-tells : goal.returns-clause-tells
returns-clause-tells c =
    let asked = let s = c.args.self in
    read_settled s _ (tells_lines s c.in-Some.part c.in-Some.is _ c.if-part-gt-MOST_PART.false c.is_settled.ensures) in
    asked.1
