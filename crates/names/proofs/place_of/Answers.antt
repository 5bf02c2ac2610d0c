use Prim.Native.Nat.{◌+◌}
use native.Mathlib.Omega.{arith}
use Rattle.names.proofs.Words.{place_here, place_on, no_place}
use Rattle.names.proofs.place_of.Goals as goal

pub returns-then-is_word_at : goal.returns-then-is_word_at
returns-then-is_word_at c =
    let l = c.loop-n in
    let a = c.args in
    place_here a.words.now a.text.now a.most l.n _ l.invariant (omega arith) _ c.is_word_at.ensures c.if-is_word_at.true

pub loop-n-preserved : goal.loop-n-preserved
loop-n-preserved c =
    let l = c.loop-n in
    let a = c.args in
    place_on a.words.now a.text.now a.most l.n _ l.invariant (omega arith) _ c.is_word_at.ensures c.if-is_word_at.false

pub returns : goal.returns
returns c =
    let l = c.loop-n in
    let a = c.args in
    no_place a.words.now a.text.now a.most l.n _ l.invariant (omega arith)

pub returns-else-is_word_at : goal.returns-else-is_word_at
returns-else-is_word_at c =
    let l = c.loop-n in
    let a = c.args in
    no_place a.words.now a.text.now a.most (l.n + 1) _
    (place_on a.words.now a.text.now a.most l.n _ l.invariant (omega arith) _ c.is_word_at.ensures c.if-is_word_at.false) (omega arith)
