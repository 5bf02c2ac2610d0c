use mathlib.Core.Path.{◌∙◌}
use Prim.Native.Nat.{◌<◌}
use native.Mathlib.Omega.{arith}
use Rattle.ramp.proofs.Paid.{pays_none, pays_less, pays_more, n_most, over_some, worth_most, over_less}
use Rattle.ramp.proofs.so_far.HourSoFar.grains.Goals as goal

pub returns-then-self-eq0 : goal.returns-then-self-eq0
returns-then-self-eq0 c actions s = pays_none c.args.rated.0 actions c.args.self s c.requires.le_rated.0 c.if-self-eq0.true

pub returns-then-given-taken : goal.returns-then-given-taken
returns-then-given-taken c actions s =
    let e = c.if-self-eq0.false in
    pays_less c.args.rated.0 actions c.args.self s c.requires.le_rated.0 (omega arith) (rw (← c.given_so_far-given.ensures, ← c.taken_so_far-taken.ensures) c.if-given-taken.true)

pub overflow_mul-n : goal.overflow_mul-n
overflow_mul-n c = omega (arith, n_most c.args.self c.requires.goes)

pub times_over-requires : goal.times_over-requires
times_over-requires c =
    let h = c.args.self in
    let N = c.args.rated.0 in
    let some : 0 < h.right = omega (arith, c.if-self-eq0.false) in
    let over = c.over_so_far-all.ensures in record {
      n_bound = n_most h c.requires.goes;
      worth_bound = omega (arith, rw (← over, ← c.given_so_far-given.ensures) at (worth_most h c.requires.goes N));
      all_nonzero = (rw over (over_some h c.requires.goes N c.requires.le_rated.0 some), omega (arith, rw (← over) at (over_less h c.requires.goes N c.requires.le_rated.1)));
    }

pub returns : goal.returns
returns c actions s =
    let given = c.given_so_far-given.ensures in
    let taken = c.taken_so_far-taken.ensures in
    let some : 0 < c.args.self.right = omega (arith, c.if-self-eq0.false) in
    c.times_over.ensures ∙ rw (given, taken, c.over_so_far-all.ensures)
    (pays_more c.args.rated.0 actions c.args.self s c.requires.le_rated.0 some (rw (← given, ← taken) (omega (arith, c.if-given-taken.false))))
