use mathlib.Core.Path.{◌≡◌, sym, ap, ◌∙◌}
use native.Mathlib.Omega.{arith}
use lib.ListN.{length, take, length-map, length-set, length-replicate}
use Rattle.apportion.proofs.Loops.{over_step}
use Rattle.share.specs.declared.Line.{Line}
use Rattle.share.specs.Forms.{blank_line}
use Rattle.share.proofs.Lists.{get_d_mapped}
use Rattle.share.proofs.Lines.{within_at}
use Rattle.ceiling.specs.declared.LimitedLine.{LimitedLine}
use Rattle.ceiling.specs.Ceiling.{plain_lines}
use Rattle.ceiling.specs.Inner.{blank_limited}
use Rattle.month.specs.Settling.{blank_row}
use Rattle.month.specs.Inner.{rows_in}
use Rattle.month.proofs.Statements.{length_counted, row_counted, rows_done}
use borrow.Author.Rules.{rules}
use Rattle.month.proofs.rows.filled_rows.Goals as goal

pub row_in-requires : goal.row_in-requires
row_in-requires c =
    let l = c.loop-i in
    let long : length c.args.lines ≡ 64 = search rules in
    let plain = within_at (plain_lines c.args.lines) c.args.count l.i blank_line c.requires.1 (omega arith) (rw (length-map c.args.lines (λ (x : LimitedLine). x.line)) (omega arith)) in
    let own = get_d_mapped (λ (x : LimitedLine). x.line) c.args.lines l.i blank_limited blank_line (omega arith) in
    omega (arith, plain.energy, ap (λ (x : Line). x.energy.0) own)

pub loop-i-preserved : goal.loop-i-preserved
loop-i-preserved c =
    let l = c.loop-i in
    let long : length c.args.lines ≡ 64 = search rules in
    let rows = rows_in c.args.negative (take c.args.count c.args.lines) (take c.args.count c.args.grains) c.args.ramped in
    let blank = c.blank_rows-rows.result in
    let long₂ : length blank ≡ 64 = rw c.blank_rows-rows.ensures (length-replicate 64 blank_row) in
    let long₃ = length_counted c.args.negative c.args.lines c.args.grains c.args.ramped c.args.count (omega arith) in
    let v = row_counted c.args.negative c.args.lines c.args.grains c.args.ramped c.args.count (omega arith) l.i blank_row (omega arith) ∙ sym c.row_in.ensures in
    (simp length-set l.invariant.0, over_step blank rows l.rows l.i blank_row c.row_in.result l.invariant.1 (omega arith) (omega arith) v)

pub returns : goal.returns
returns c =
    let l = c.loop-i in
    let long : length c.args.lines ≡ 64 = search rules in
    let e : l.i ≡ c.args.count = omega arith in
    rows_done c.args.negative c.args.lines c.args.grains c.args.ramped c.args.count (omega arith) l.rows l.i e (rw c.blank_rows-rows.ensures at l.invariant.1)
