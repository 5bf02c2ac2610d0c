use mathlib.Core.Path.{◌≡◌, sym, ap, ◌∙◌}
use native.Mathlib.Omega.{arith}
use lib.ListN.{length, get_or, length-map}
use Rattle.apportion.proofs.Loops.{over_step, over_here, over_end}
use Rattle.ceiling.specs.Forms.{cleared_line, cleared_lines}
use Rattle.ceiling.specs.Inner.{blank_limited}
use Rattle.share.proofs.Lists.{get_d_mapped}
use borrow.Author.Rules.{rules}
use Rattle.ceiling.proofs.array.cleared_lines.Goals as goal

pub loop-line-preserved : goal.loop-line-preserved
loop-line-preserved c =
    let l = c.loop-line in
    let ls = c.args.lines in
    let long : length ls ≡ 64 = search rules in
    let lm = length-map ls (λ l'. cleared_line l') in
    let here : get_or l.line-items l.line-index blank_limited ≡ get_or ls l.line-index blank_limited =
    over_here ls (cleared_lines ls) l.line-items l.line-index blank_limited l.invariant (omega arith) (omega arith) in
    over_step ls (cleared_lines ls) l.line-items l.line-index blank_limited _ l.invariant (omega arith) (omega arith)
    (get_d_mapped (λ l'. cleared_line l') ls l.line-index blank_limited blank_limited (omega arith) ∙ ap (λ l'. cleared_line l') (sym here) ∙ sym c.cleared_line.ensures)

pub returns : goal.returns
returns c =
    let l = c.loop-line in
    let ls = c.args.lines in
    let long : length ls ≡ 64 = search rules in
    over_end ls (cleared_lines ls) l.line-items l.line-index l.invariant (omega (arith, length-map ls (λ l'. cleared_line l'))) (omega arith)
