use mathlib.Core.Path.{refl}
use Rattle.std.proofs.lemmas.Result.{err_from_is_err_and}
use Rattle.fitting.proofs.Findings.{not_fits, is_fits_lem}
use Rattle.fitting.proofs.Turns.{too_many, own_told, sharing_refused_lem, rest_told}
use Rattle.fitting.proofs.finding_in.Goals as goal

pub returns-then-count-gt-MOST_ENTRIES : goal.returns-then-count-gt-MOST_ENTRIES
returns-then-count-gt-MOST_ENTRIES c = too_many c.args.s c.if-count-gt-MOST_ENTRIES.true

pub returns-in_err-first_own : goal.returns-in_err-first_own
returns-in_err-first_own c =
    let p = err_from_is_err_and c.from_residual.result c.from_residual.ensures.1 in
    rw (p.1, p.2) (own_told c.args.s c.if-count-gt-MOST_ENTRIES.false _ c.is_below-negative.ensures _ c.in_err-first_own.ensures (not_fits _))

pub returns-then-first-ne0 : goal.returns-then-first-ne0
returns-then-first-ne0 c =
    let s = c.args.s in
    let own = c.in_ok-first_own.ensures in
    sharing_refused_lem s c.if-count-gt-MOST_ENTRIES.false _ c.is_below-negative.ensures _ own (is_fits_lem _ refl)
    c.own_lines.ensures.rows_len _ c.own_lines.ensures.value _ c.share-first.ensures c.if-first-ne0.true

pub returns : goal.returns
returns c =
    let s = c.args.s in
    let own = c.in_ok-first_own.ensures in
    let shared = c.share-first.ensures in
    let limits = c.own_limits-limited.ensures in
    rest_told s c.if-count-gt-MOST_ENTRIES.false _ c.is_below-negative.ensures _ own (is_fits_lem _ refl)
    c.own_lines.ensures.rows_len _ c.own_lines.ensures.value _ shared c.if-first-ne0.false _ limits _
    c.by_ceiling.ensures
