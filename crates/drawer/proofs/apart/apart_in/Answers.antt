use mathlib.Core.Path.{refl, sym, ◌∙◌}
use mir.Syntax.{w32}
use mir.Val.{SFits}
use borrow.Author.Rules.{rules}
use borrow.Author.Tests.{eq-eqb, ne_eqb}
use Rattle.drawer.specs.Apart.{apart_in}
use Rattle.drawer.proofs.Signs.{same_z}
use Rattle.drawer.proofs.apart.apart_in.Goals as goal

pub returns-then-x-y : goal.returns-then-x-y
unfolding apart_in
returns-then-x-y c = rw (ne_eqb _ _ c.if-x-y.true) refl

pub returns-then-x-y-2 : goal.returns-then-x-y-2
unfolding apart_in
returns-then-x-y-2 c = rw (eq-eqb _ _ c.if-x-y.false, ne_eqb _ _ c.if-x-y-2.true) refl

pub returns-then-x-y-3 : goal.returns-then-x-y-3
unfolding apart_in
returns-then-x-y-3 c = rw (eq-eqb _ _ c.if-x-y.false, eq-eqb _ _ c.if-x-y-2.false, ne_eqb _ _ c.if-x-y-3.true) refl

pub returns-then-x-y-4 : goal.returns-then-x-y-4
unfolding apart_in
returns-then-x-y-4 c =
    let x_fits : SFits w32 c.args.x.a = search rules in
    let y_fits : SFits w32 c.args.y.a = search rules in
    let e = sym (same_z c.args.x.a c.args.y.a x_fits y_fits) ∙ ne_eqb _ _ c.if-x-y-4.true in
    rw (eq-eqb _ _ c.if-x-y.false, eq-eqb _ _ c.if-x-y-2.false, eq-eqb _ _ c.if-x-y-3.false, e) refl

pub returns-then-x-y-5 : goal.returns-then-x-y-5
unfolding apart_in
returns-then-x-y-5 c =
    let x_fits : SFits w32 c.args.x.a = search rules in
    let y_fits : SFits w32 c.args.y.a = search rules in
    let e = sym (same_z c.args.x.a c.args.y.a x_fits y_fits) ∙ eq-eqb _ _ c.if-x-y-4.false in
    rw (eq-eqb _ _ c.if-x-y.false, eq-eqb _ _ c.if-x-y-2.false, eq-eqb _ _ c.if-x-y-3.false, e, ne_eqb _ _ c.if-x-y-5.true) refl

pub returns-then-x-y-6 : goal.returns-then-x-y-6
unfolding apart_in
returns-then-x-y-6 c =
    let x_fits : SFits w32 c.args.x.a = search rules in
    let y_fits : SFits w32 c.args.y.a = search rules in
    let e = sym (same_z c.args.x.a c.args.y.a x_fits y_fits) ∙ eq-eqb _ _ c.if-x-y-4.false in
    rw (eq-eqb _ _ c.if-x-y.false, eq-eqb _ _ c.if-x-y-2.false, eq-eqb _ _ c.if-x-y-3.false, e, eq-eqb _ _ c.if-x-y-5.false, ne_eqb _ _ c.if-x-y-6.true) refl

pub returns : goal.returns
unfolding apart_in
returns c =
    let x_fits : SFits w32 c.args.x.a = search rules in
    let y_fits : SFits w32 c.args.y.a = search rules in
    let e = sym (same_z c.args.x.a c.args.y.a x_fits y_fits) ∙ eq-eqb _ _ c.if-x-y-4.false in
    rw (eq-eqb _ _ c.if-x-y.false, eq-eqb _ _ c.if-x-y-2.false, eq-eqb _ _ c.if-x-y-3.false, e, eq-eqb _ _ c.if-x-y-5.false, eq-eqb _ _ c.if-x-y-6.false) refl
