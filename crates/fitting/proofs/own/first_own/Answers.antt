use mathlib.Core.Path.{refl}
use native.Mathlib.Omega.{arith}
use Rattle.std.proofs.lemmas.Result.{err_from_is_err_and}
use Rattle.fitting.proofs.Findings.{not_fits, is_fits_lem}
use Rattle.fitting.proofs.Walks.{own_on, own_off, own_end}
use Rattle.fitting.proofs.own.first_own.Goals as goal

pub returns-in_err-own_apart : goal.returns-in_err-own_apart
returns-in_err-own_apart c =
    let l = c.loop-i in
    let p = err_from_is_err_and c.from_residual.result c.from_residual.ensures.1 in
    rw (p.1, p.2) (own_off c.args.negative c.args.rows.now l.i (omega arith) _ _ c.in_err-own_apart.ensures (not_fits _) l.invariant)

pub loop-i-preserved : goal.loop-i-preserved
loop-i-preserved c =
    let l = c.loop-i in
    own_on c.args.negative c.args.rows.now l.i (omega arith) _ _ c.in_ok-own_apart.ensures (is_fits_lem _ refl) l.invariant

pub returns : goal.returns
returns c =
    let l = c.loop-i in
    own_end c.args.negative c.args.rows.now l.i (omega arith) l.invariant
