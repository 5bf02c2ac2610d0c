use mathlib.Core.Path.{sym}
use mir.Syntax.{w32}
use mir.Val.{SFits}
use mir.ValLaws.{to_z-of_z}
use borrow.Author.Rules.{rules}
use Rattle.call.specs.Limits.{limits_allow}
use Rattle.call.proofs.Limits.{unframed, no_live, live, struck}
use Rattle.call.proofs.Call.is_sound.Goals as goal

pub returns-then-not-framed : goal.returns-then-not-framed
returns-then-not-framed c =
    let args = c.args in
    sym (unframed args.minutes args.self (c.if-not-framed.true))

pub returns-then-self-eq0 : goal.returns-then-self-eq0
returns-then-self-eq0 c =
    let args = c.args in
    sym (no_live args.minutes args.self (c.if-not-framed.false) c.if-self-eq-LIVE.true c.if-self-eq0.true)

pub returns-then-self-eq-LIVE : goal.returns-then-self-eq-LIVE
unfolding limits_allow
returns-then-self-eq-LIVE c =
    let args = c.args in
    let a : SFits w32 args.self.a = search rules in
    let frame = c.if-not-framed.false in
    rw (c.within.ensures, to_z-of_z w32 args.self.a a)
    (sym (live args.minutes args.self frame c.if-self-eq-LIVE.true c.if-self-eq0.false))

pub returns : goal.returns
unfolding limits_allow
returns c =
    let args = c.args in
    let a : SFits w32 args.self.a = search rules in
    let frame = c.if-not-framed.false in
    rw (c.within-2.ensures, to_z-of_z w32 args.self.a a) (sym (struck args.minutes args.self frame c.if-self-eq-LIVE.false))
