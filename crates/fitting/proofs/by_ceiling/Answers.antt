use mathlib.Core.Path.{◌≡◌, refl}
use lib.ListN.{length}
use Rattle.std.proofs.lemmas.Result.{err_from_is_err_and}
use Rattle.fitting.proofs.Findings.{not_fits, is_fits_lem}
use Rattle.fitting.proofs.Turns.{ceiling_refused_lem, total_told, parts_told, user_told}
use borrow.Author.Rules.{rules}
use Rattle.fitting.proofs.by_ceiling.Goals as goal

pub returns-then-c-ne0 : goal.returns-then-c-ne0
returns-then-c-ne0 c =
    let a = c.args in
    let long : length a.limited ≡ 64 = search rules in
    ceiling_refused_lem a.s c.requires a.limited long _ c.ceiled_array-c.ensures c.if-c-ne0.true

pub returns-in_err-total_apart : goal.returns-in_err-total_apart
returns-in_err-total_apart c =
    let a = c.args in
    let long : length a.limited ≡ 64 = search rules in
    let p = err_from_is_err_and c.from_residual.result c.from_residual.ensures.1 in
    rw (p.1, p.2) (total_told a.s c.requires a.limited long _ c.ceiled_array-c.ensures c.if-c-ne0.false _ c.in_err-total_apart.ensures (not_fits _))

pub returns-in_err-first_part : goal.returns-in_err-first_part
returns-in_err-first_part c =
    let a = c.args in
    let long : length a.limited ≡ 64 = search rules in
    let p = err_from_is_err_and c.from_residual-in_err-first_part.result c.from_residual-in_err-first_part.ensures.1 in
    rw (p.1, p.2) (parts_told a.s c.requires a.limited long _ c.ceiled_array-c.ensures c.if-c-ne0.false _ c.in_ok-total_apart.ensures (is_fits_lem _ refl) _ c.in_err-first_part.ensures (not_fits _))

pub returns : goal.returns
returns c =
    let a = c.args in
    let long : length a.limited ≡ 64 = search rules in
    user_told a.s c.requires a.limited long _ c.ceiled_array-c.ensures c.if-c-ne0.false _ c.in_ok-total_apart.ensures (is_fits_lem _ refl)
    _ c.in_ok-first_part.ensures (is_fits_lem _ refl) _ c.user_apart.ensures
