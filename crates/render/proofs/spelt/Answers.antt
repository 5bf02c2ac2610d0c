use native.Mathlib.Omega.{arith}
use lib.ListN.{length-set}
use Rattle.render.proofs.Spelling.{one_spelt, all_spelt, two_places_lem, tenth}
use Rattle.render.proofs.spelt.Goals as goal

pub loop-rest-preserved : goal.loop-rest-preserved
loop-rest-preserved c =
    let l = c.loop-rest in
    let a = c.args in
    let two = two_places_lem l.k l.rest l.invariant.3 (omega arith) in (
      omega (arith, two),
      omega arith,
      simp length-set l.invariant.2,
      tenth l.k l.rest l.invariant.0 l.invariant.3,
      one_spelt a.n l.rest _ l.k _ (omega arith) l.invariant.0 (omega arith) c.last_digit.ensures l.invariant.4,
    )

pub returns-clause-text_after : goal.returns-clause-text_after
returns-clause-text_after c =
    let l = c.loop-rest in
    let a = c.args in
    all_spelt a.n l.rest _ l.k _ (omega arith) l.invariant.0 l.invariant.1 l.invariant.2 c.last_digit-2.ensures l.invariant.4
