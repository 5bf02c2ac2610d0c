use native.Mathlib.Omega.{arith}
use Rattle.names.proofs.Words.{skip_on, skip_done, skip_end}
use Rattle.names.proofs.skipped.Goals as goal

pub returns-then-left-eq0-clause-words_value : goal.returns-then-left-eq0-clause-words_value
returns-then-left-eq0-clause-words_value c =
    let l = c.loop-i in
    let a = c.args in
    skip_done a.words.now l.left l.i a.n l.invariant c.if-left-eq0.true

pub loop-i-preserved : goal.loop-i-preserved
loop-i-preserved c =
    let l = c.loop-i in
    let a = c.args in
    skip_on a.words.now l.left l.i a.n l.invariant _ (omega arith) c.if-left-eq0.false c.stepped-left.ensures

pub returns-clause-words_value : goal.returns-clause-words_value
returns-clause-words_value c =
    let l = c.loop-i in
    let a = c.args in
    skip_end a.words.now l.left l.i a.n l.invariant (omega arith)
