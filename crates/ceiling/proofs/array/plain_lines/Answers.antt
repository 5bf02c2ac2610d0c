use mathlib.Core.Path.{◌≡◌}
use native.Mathlib.Omega.{arith}
use lib.ListN.{length, length-set, length-map}
use Rattle.apportion.proofs.Loops.{over_step}
use Rattle.share.specs.Forms.{blank_line}
use Rattle.share.proofs.Lists.{get_d_mapped}
use Rattle.ceiling.specs.declared.LimitedLine.{LimitedLine}
use Rattle.ceiling.specs.Ceiling.{plain_lines}
use Rattle.ceiling.specs.Inner.{blank_limited}
use borrow.Author.Rules.{rules}
use Rattle.ceiling.proofs.array.plain_lines.Goals as goal

pub loop-i-preserved : goal.loop-i-preserved
loop-i-preserved c =
    let ls = c.args.lines.now in
    let out = c.blank_lines-out.result in
    let long : length out ≡ 64 = search rules in
    let lm = length-map ls (λ (l' : LimitedLine). l'.line) in (
      simp length-set c.loop-i.invariant.0,
      over_step out (plain_lines ls) c.loop-i.out c.loop-i.i blank_line _ c.loop-i.invariant.1 (omega arith) (omega arith)
          (get_d_mapped (λ (l' : LimitedLine). l'.line) ls c.loop-i.i blank_limited blank_line (omega arith)),
    )
