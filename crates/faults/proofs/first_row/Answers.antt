use Rattle.std.proofs.Common.{sym, ◌∙◌, arith}
use Rattle.faults.proofs.Head.{at_feed, at_digit, at_other, at_end}
use Rattle.faults.proofs.first_row.Goals as goal

pub returns-then-b-eq10 : goal.returns-then-b-eq10
returns-then-b-eq10 c = let l = c.loop-b in at_feed c.args.bytes.now l.b-index l.invariant (omega arith) c.if-b-eq10.true

pub returns-then-is_digit : goal.returns-then-is_digit
returns-then-is_digit c = let l = c.loop-b in at_digit c.args.bytes.now l.b-index l.invariant (omega arith) c.if-b-eq10.false (sym c.is_digit.ensures ∙ c.if-is_digit.true)

pub loop-b-preserved : goal.loop-b-preserved
loop-b-preserved c = let l = c.loop-b in at_other c.args.bytes.now l.b-index l.invariant (omega arith) c.if-b-eq10.false (sym c.is_digit.ensures ∙ c.if-is_digit.false)

pub returns : goal.returns
returns c = let l = c.loop-b in at_end c.args.bytes.now l.b-index l.invariant (omega arith)
