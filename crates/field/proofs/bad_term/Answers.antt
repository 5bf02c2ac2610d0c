use mathlib.Core.Path.{◌≡◌}
use mathlib.Core.Bool.{Bool, true, false}
use borrow.Author.Tests.{eq-eqb, ne_eqb}
use Rattle.field.specs.declared.Field.{Field}
use Rattle.field.specs.declared.Field.TheVariants.{Start, Length, A, B, C}
use Rattle.field.specs.Field.{field_fits}
use Rattle.field.proofs.Chain.{at_start, at_length, at_a, at_b, at_c, at_reserved, at_none}
use Rattle.field.proofs.Chain.{start_is, length_is, a_is, b_fits, b_fails, c_fits, c_fails}
use Rattle.field.proofs.bad_term.Goals as goal

pub returns-then-not-start_fits : goal.returns-then-not-start_fits
returns-then-not-start_fits c =
    let fits : Field → Bool =
    λ (f : Field). field_fits c.args.minutes c.args.x c.args.reserved f in
    at_start fits
    (start_is _ _ _ _ c.limits_of-l.ensures _ false c.start_fits.ensures c.if-not-start_fits.true)

pub returns-then-not-length_fits : goal.returns-then-not-length_fits
returns-then-not-length_fits c =
    let fits : Field → Bool =
    λ (f : Field). field_fits c.args.minutes c.args.x c.args.reserved f in
    let starts : fits Start ≡ true =
    start_is _ _ _ _ c.limits_of-l.ensures _ true c.start_fits.ensures c.if-not-start_fits.false in
    at_length fits starts
    (length_is _ _ _ _ c.limits_of-l.ensures _ false c.length_fits.ensures c.if-not-length_fits.true)

pub returns-then-not-a_fits : goal.returns-then-not-a_fits
returns-then-not-a_fits c =
    let fits : Field → Bool =
    λ (f : Field). field_fits c.args.minutes c.args.x c.args.reserved f in
    let starts : fits Start ≡ true =
    start_is _ _ _ _ c.limits_of-l.ensures _ true c.start_fits.ensures c.if-not-start_fits.false in
    let lasts : fits Length ≡ true =
    length_is _ _ _ _ c.limits_of-l.ensures _ true c.length_fits.ensures c.if-not-length_fits.false in
    at_a fits starts lasts
    (a_is _ _ _ _ c.limits_of-l.ensures _ false c.a_fits.ensures c.if-not-a_fits.true)

pub returns-then-l-x : goal.returns-then-l-x
returns-then-l-x c =
    let fits : Field → Bool =
    λ (f : Field). field_fits c.args.minutes c.args.x c.args.reserved f in
    let starts : fits Start ≡ true =
    start_is _ _ _ _ c.limits_of-l.ensures _ true c.start_fits.ensures c.if-not-start_fits.false in
    let lasts : fits Length ≡ true =
    length_is _ _ _ _ c.limits_of-l.ensures _ true c.length_fits.ensures c.if-not-length_fits.false in
    let some_a : fits A ≡ true =
    a_is _ _ _ _ c.limits_of-l.ensures _ true c.a_fits.ensures c.if-not-a_fits.false in
    at_b fits starts
    lasts some_a
    (b_fails _ _ _ _ c.limits_of-l.ensures c.if-l-x.true)

pub returns-then-l-x-2 : goal.returns-then-l-x-2
returns-then-l-x-2 c =
    let fits : Field → Bool =
    λ (f : Field). field_fits c.args.minutes c.args.x c.args.reserved f in
    let starts : fits Start ≡ true =
    start_is _ _ _ _ c.limits_of-l.ensures _ true c.start_fits.ensures c.if-not-start_fits.false in
    let lasts : fits Length ≡ true =
    length_is _ _ _ _ c.limits_of-l.ensures _ true c.length_fits.ensures c.if-not-length_fits.false in
    let some_a : fits A ≡ true =
    a_is _ _ _ _ c.limits_of-l.ensures _ true c.a_fits.ensures c.if-not-a_fits.false in
    let some-b : fits B ≡ true =
    b_fits _ _ _ _ c.limits_of-l.ensures c.if-l-x.false in
    at_c fits
    starts lasts
    some_a some-b
    (c_fails _ _ _ _ c.limits_of-l.ensures c.if-l-x-2.true)

pub returns-then-reserved-ne0 : goal.returns-then-reserved-ne0
unfolding field_fits
returns-then-reserved-ne0 c =
    let fits : Field → Bool =
    λ (f : Field). field_fits c.args.minutes c.args.x c.args.reserved f in
    let starts : fits Start ≡ true =
    start_is c.args.minutes c.args.x c.args.reserved _ c.limits_of-l.ensures _ true c.start_fits.ensures c.if-not-start_fits.false in
    let lasts : fits Length ≡ true =
    length_is c.args.minutes c.args.x c.args.reserved _ c.limits_of-l.ensures _ true c.length_fits.ensures c.if-not-length_fits.false in
    let some_a : fits A ≡ true =
    a_is c.args.minutes c.args.x c.args.reserved _ c.limits_of-l.ensures _ true c.a_fits.ensures c.if-not-a_fits.false in
    let some-b : fits B ≡ true =
    b_fits c.args.minutes c.args.x c.args.reserved _ c.limits_of-l.ensures c.if-l-x.false in
    let some-c : fits C ≡ true =
    c_fits c.args.minutes c.args.x c.args.reserved _ c.limits_of-l.ensures c.if-l-x-2.false in
    at_reserved fits
    starts lasts
    some_a some-b some-c
    (ne_eqb _ _ c.if-reserved-ne0.true)

pub returns : goal.returns
unfolding field_fits
returns c =
    let fits : Field → Bool =
    λ (f : Field). field_fits c.args.minutes c.args.x c.args.reserved f in
    let starts : fits Start ≡ true =
    start_is c.args.minutes c.args.x c.args.reserved _ c.limits_of-l.ensures _ true c.start_fits.ensures c.if-not-start_fits.false in
    let lasts : fits Length ≡ true =
    length_is c.args.minutes c.args.x c.args.reserved _ c.limits_of-l.ensures _ true c.length_fits.ensures c.if-not-length_fits.false in
    let some_a : fits A ≡ true =
    a_is c.args.minutes c.args.x c.args.reserved _ c.limits_of-l.ensures _ true c.a_fits.ensures c.if-not-a_fits.false in
    let some-b : fits B ≡ true =
    b_fits c.args.minutes c.args.x c.args.reserved _ c.limits_of-l.ensures c.if-l-x.false in
    let some-c : fits C ≡ true =
    c_fits c.args.minutes c.args.x c.args.reserved _ c.limits_of-l.ensures c.if-l-x-2.false in
    at_none fits
    starts lasts
    some_a some-b some-c
    (eq-eqb _ _ c.if-reserved-ne0.false)
