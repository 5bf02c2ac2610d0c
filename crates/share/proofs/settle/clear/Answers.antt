use mathlib.Core.Path.{◌≡◌, sym, ap, ◌∙◌}
use native.Mathlib.Omega.{arith}
use lib.ListN.{length, get_or, length-map}
use Rattle.apportion.proofs.Loops.{over_step, over_here, over_end}
use Rattle.share.specs.Forms.{blank_line, cleared, clear}
use Rattle.share.proofs.Lists.{get_d_mapped}
use borrow.Author.Rules.{rules}
use Rattle.share.proofs.settle.clear.Goals as goal

pub loop-line-preserved : goal.loop-line-preserved
loop-line-preserved c =
    let l = c.loop-line in
    let ls = c.args.lines in
    let long : length ls ≡ 64 = search rules in
    let lm = length-map ls (λ l'. cleared l') in
    let here : get_or l.line-items l.line-index blank_line ≡ get_or ls l.line-index blank_line = over_here ls (clear ls) l.line-items l.line-index blank_line l.invariant (omega arith) (omega arith) in
    over_step ls (clear ls) l.line-items l.line-index blank_line _ l.invariant (omega arith) (omega arith)
    (get_d_mapped (λ l'. cleared l') ls l.line-index blank_line blank_line (omega arith) ∙ ap (λ l'. cleared l') (sym here) ∙ sym c.filled.ensures)

pub returns : goal.returns
returns c =
    let l = c.loop-line in
    let ls = c.args.lines in
    let long : length ls ≡ 64 = search rules in
    over_end ls (clear ls) l.line-items l.line-index l.invariant (omega (arith, length-map ls (λ l'. cleared l'))) (omega arith)
