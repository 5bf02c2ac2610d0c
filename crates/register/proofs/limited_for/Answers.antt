use mathlib.Core.Path.{◌≡◌, refl}
use native.Mathlib.Omega.{arith}
use lib.ListN.{length, get_or, length-set}
use Rattle.register.specs.Register.{blank_entry}
use Rattle.register.proofs.Entries.{limited_is, line_next, lines_all}
use borrow.Author.Rules.{rules}
use Rattle.register.proofs.limited_for.Goals as goal

pub loop-i-preserved : goal.loop-i-preserved
loop-i-preserved c =
    let a = c.args in
    let wide : length a.entries ≡ 64 = search rules in
    let own = limited_is (get_or a.entries c.loop-i.i blank_entry) _ _ _ c.line-line.ensures refl in
    (simp length-set c.loop-i.invariant.0, line_next a.entries a.fens c.loop-i.lines c.loop-i.i blank_entry _ (omega arith) (omega (arith, c.loop-i.invariant.0)) own c.loop-i.invariant.1)

pub returns : goal.returns
returns c =
    let a = c.args in
    let wide : length a.entries ≡ 64 = search rules in
    lines_all a.entries a.fens c.loop-i.lines c.loop-i.i (omega (arith, c.loop-i.invariant.0)) (omega arith) c.loop-i.invariant.1
