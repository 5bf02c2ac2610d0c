use mathlib.Core.Path.{sym, ◌∙◌}
use native.Mathlib.Omega.{arith}
use lib.ListN.{length}
use Rattle.std.proofs.lemmas.List.{take_rest}
use Rattle.posted.proofs.Taking.{left_step, left_other, left_ends}
use Rattle.posted.proofs.taken.read_number.Goals as goal

pub returns-then-not-is_digit : goal.returns-then-not-is_digit
returns-then-not-is_digit c =
    let l = c.loop-i in
    let t = c.args.text.now in
    rw (take_rest t l.i) (left_other t l.value l.i l.invariant (omega arith) (sym c.is_digit.ensures ∙ c.if-not-is_digit.true))

pub loop-i-preserved : goal.loop-i-preserved
loop-i-preserved c =
    let l = c.loop-i in
    left_step c.args.text.now l.value l.i l.invariant c.grown-value.result c.digit_of.result (omega arith)
    (sym c.is_digit.ensures ∙ c.if-not-is_digit.false) c.digit_of.ensures.0 c.grown-value.ensures

pub returns : goal.returns
returns c = let l = c.loop-i in let t = c.args.text.now in rw (take_rest t (length t)) (left_ends t l.value l.i l.invariant (omega arith))
