use mathlib.Core.Path.{◌≡◌, refl}
use native.Mathlib.Omega.{arith}
use lib.ListN.{length}
use Rattle.std.proofs.lemmas.Result.{err_from_is_err_and}
use Rattle.fitting.proofs.Findings.{not_fits, is_fits_lem}
use Rattle.fitting.proofs.Walks.{part_on, part_off, parts_end}
use borrow.Author.Rules.{rules}
use Rattle.fitting.proofs.parts.first_part.Goals as goal

pub returns-in_err-part_apart : goal.returns-in_err-part_apart
returns-in_err-part_apart c =
    let l = c.loop-i in
    let a = c.args in
    let long : length a.rows ≡ 64 = search rules in
    let long₂ : length a.lines ≡ 64 = search rules in
    let p = err_from_is_err_and c.from_residual.result c.from_residual.ensures.1 in
    rw (p.1, p.2) (part_off a.rows a.lines a.count (omega arith) (omega arith) l.i (omega arith) _ _ _ c.in_err-part_apart.ensures (not_fits _) l.invariant)

pub loop-i-preserved : goal.loop-i-preserved
loop-i-preserved c =
    let l = c.loop-i in
    let a = c.args in
    let long : length a.rows ≡ 64 = search rules in
    let long₂ : length a.lines ≡ 64 = search rules in
    part_on a.rows a.lines a.count (omega arith) (omega arith) l.i (omega arith) _ _ _ c.in_ok-part_apart.ensures (is_fits_lem _ refl) l.invariant

pub returns : goal.returns
returns c =
    let l = c.loop-i in
    let a = c.args in
    let long : length a.rows ≡ 64 = search rules in
    let long₂ : length a.lines ≡ 64 = search rules in
    parts_end a.rows a.lines a.count (omega arith) (omega arith) l.i (omega arith) l.invariant
