use mathlib.Core.Path.{◌≡◌, ap, sym, ◌∙◌}
use mathlib.Core.Bool.{true}
use native.Mathlib.Omega.{arith}
use lib.IntN.{ℤ, nat_abs}
use lib.ListN.{get_or}
use Rattle.year.specs.Year.{year_line_is_sound, adds_to_zero}
use Rattle.year.specs.Verdict.{blank_line}
use Rattle.year.proofs.Signs.{abs_plus}
use Rattle.year.proofs.Lines.{line_fits, within_yes}
use Rattle.year.proofs.Adding.{sound_on, sound_off, sum_on, zero_told}
use Rattle.year.proofs.judging.lines_add_up.Goals as goal

pub returns-then-not-year_line_is_sound : goal.returns-then-not-year_line_is_sound
returns-then-not-year_line_is_sound c =
    let l = c.loop-line in
    let lines = c.args.lines.now in
    sound_off lines l.line-index (omega arith) l.before (sym c.year_line_is_sound.ensures ∙ c.if-not-year_line_is_sound.true) l.invariant.1
    (adds_to_zero lines c.args.user.0)

pub added-sum-requires : goal.added-sum-requires
added-sum-requires c =
    let l = c.loop-line in
    let sound : year_line_is_sound c.loop-line.before (get_or c.args.lines.now c.loop-line.line-index blank_line) ≡ true = sym c.year_line_is_sound.ensures ∙ c.if-not-year_line_is_sound.false in
    let f = (line_fits _ _ sound).0.amount in record {
      a_bound = omega (arith, l.invariant.0, c.requires.few);
      b_bound = omega (arith, f);
    }

pub loop-line-preserved : goal.loop-line-preserved
loop-line-preserved c =
    let l = c.loop-line in
    let lines = c.args.lines.now in
    let x = get_or lines l.line-index blank_line in
    let sound : year_line_is_sound c.loop-line.before (get_or c.args.lines.now c.loop-line.line-index blank_line) ≡ true = sym c.year_line_is_sound.ensures ∙ c.if-not-year_line_is_sound.false in
    let f = (line_fits l.before x sound).0.amount in
    let e = ap (λ (z : ℤ). nat_abs z) c.added-sum.ensures in (
      omega (arith, e, abs_plus l.sum.0 x.amount.0, f, l.invariant.0),
      sound_on lines l.line-index (omega arith) l.before sound l.invariant.1,
      sum_on lines l.line-index (omega arith) l.sum.0 c.added-sum.result.0 c.added-sum.ensures l.invariant.2,
    )

pub added-all-requires : goal.added-all-requires
added-all-requires c =
    let u = within_yes c.args.user.0 c.requires.user_value in record {
      a_bound = omega (arith, c.loop-line.invariant.0, c.requires.few);
      b_bound = omega (arith, u);
    }

pub returns : goal.returns
returns c =
    let l = c.loop-line in
    let u = within_yes c.args.user.0 c.requires.user_value in
    let e = ap (λ (z : ℤ). nat_abs z) c.added-all.ensures in
    zero_told c.args.lines.now l.line-index (omega arith) l.before l.sum.0 c.args.user.0 c.added-all.result.0 c.added-all.ensures
    (omega (arith, e, abs_plus l.sum.0 c.args.user.0, l.invariant.0, c.requires.few, u)) l.invariant.1 l.invariant.2
