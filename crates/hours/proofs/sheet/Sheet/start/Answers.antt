use Rattle.std.proofs.Common.{sym, ◌∙◌, arith, w16, Fits, rules}
use Rattle.hours.specs.declared.HoursFault.TheVariants.{OfMember}
use Rattle.hours.proofs.Taking.{starts_taken, starts_refused, refused_10, refused_12}
use Rattle.hours.proofs.sheet.Sheet.start.Goals as goal

pub returns-then-not-is_sound : goal.returns-then-not-is_sound
returns-then-not-is_sound c =
    let a = c.args in
    let bad = sym c.is_sound.ensures ∙ c.if-not-is_sound.true in
    starts_refused a.member a.hours c.blank.result (OfMember 10) (refused_10 a.member a.hours bad) c.blank.ensures

pub returns-then-not-is_ramping : goal.returns-then-not-is_ramping
returns-then-not-is_ramping c =
    let a = c.args in
    let good = sym c.is_sound.ensures ∙ c.if-not-is_sound.false in
    let bad = sym c.is_ramping.ensures ∙ c.if-not-is_ramping.true in
    starts_refused a.member a.hours c.blank-then-not-is_ramping.result (OfMember 12) (refused_12 a.member a.hours good bad) c.blank-then-not-is_ramping.ensures

pub returns : goal.returns
returns c =
    let a = c.args in
    let good = sym c.is_sound.ensures ∙ c.if-not-is_sound.false in
    let fits : Fits w16 a.hours = search rules in
    let ramps = sym c.is_ramping.ensures ∙ c.if-not-is_ramping.false in
    starts_taken a.member a.hours c.blank-2.result (good, ramps) (omega (arith, fits.fits)) c.blank-2.ensures
