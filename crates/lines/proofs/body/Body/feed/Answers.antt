use mathlib.Core.Path.{sym, ◌∙◌}
use native.Mathlib.Omega.{arith}
use lib.ListN.{get_or}
use Rattle.lines.proofs.Sheets.{feed_on, in_place, out_of_place, ByteRead, digit_arm, line_arm, blank_arm, bad_arm}
use Rattle.lines.proofs.body.Body.feed.Goals as goal
use Rattle.lines.proofs.body.Body.feed.Goals.{
  then-is_digit,
  else-is_digit+then-b-eq10+then-sheet-l,
  else-is_digit+then-b-eq10+else-sheet-l,
  else-is_digit+else-b-eq10+then-b-row,
  else-is_digit+else-b-eq10+else-b-row,
}

pub loop-b-preserved : goal.loop-b-preserved
loop-b-preserved c =
    let b = c.args.bytes.now in
    let x = get_or b c.loop-b.b-index 0 in
    let step : ByteRead c.loop-b.row c.loop-b.sheet x c.if-is_digit.row c.if-is_digit.sheet =
    elim c.if-is_digit.branch [
      | then-is_digit w ↦ digit_arm _ _ _ _ x w.grown.result (sym c.is_digit.ensures ∙ w.if-is_digit.true) w.sheet-is w.row-is w.grown.ensures
      | else-is_digit+then-b-eq10+then-sheet-l w ↦
          line_arm _ _ _ _ x _ w.if-b-eq10.true w.sheet-is w.row-is (in_place c.loop-b.row c.loop-b.sheet w.line_in-l.result w.line_in-l.ensures w.if-sheet-l.true)
      | else-is_digit+then-b-eq10+else-sheet-l w ↦
          line_arm _ _ _ _ x _ w.if-b-eq10.true w.sheet-is w.row-is (out_of_place c.loop-b.row c.loop-b.sheet w.line_in-l.result w.line_in-l.ensures w.if-sheet-l.false)
      | else-is_digit+else-b-eq10+then-b-row w ↦ blank_arm _ _ _ _ x w.hold.result c.loop-b.invariant.0 w.if-b-row.true w.sheet-is w.row-is w.hold.ensures
      | else-is_digit+else-b-eq10+else-b-row w ↦ bad_arm _ _ _ _ x w.if-b-eq10.false (sym c.is_digit.ensures ∙ w.if-is_digit.false) w.if-b-row.false w.sheet-is w.row-is
    ] in (
      step.long ∙ c.loop-b.invariant.0,
      feed_on b c.loop-b.b-index c.args.self (record { row = c.loop-b.row; sheet = c.loop-b.sheet }) (record { row = c.if-is_digit.row; sheet = c.if-is_digit.sheet }) (omega arith) step.says
          c.loop-b.invariant.1,
    )
