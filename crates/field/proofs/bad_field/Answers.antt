use mathlib.Core.Path.{◌≡◌, sym, ◌∙◌}
use mathlib.Core.Bool.{Bool, true}
use borrow.Author.Tests.{le-leb, lt-leb}
use Rattle.field.specs.declared.Field.{Field}
use Rattle.field.specs.declared.Field.TheVariants.{Participant, State, Service, Revision}
use Rattle.field.specs.Field.{field_fits, bad_field}
use Rattle.field.proofs.Chain.{at_participant, at_state, at_service, at_revision, at_terms}
use Rattle.field.proofs.bad_field.Goals as goal

pub returns-then-not-member : goal.returns-then-not-member
unfolding field_fits bad_field
returns-then-not-member c =
    let fits : Field → Bool =
    λ (f : Field). field_fits c.args.minutes c.args.x c.args.reserved f in
    at_participant fits c.if-not-member.true

pub returns-then-x-gt-WITHDRAWN : goal.returns-then-x-gt-WITHDRAWN
unfolding field_fits bad_field
returns-then-x-gt-WITHDRAWN c =
    let fits : Field → Bool =
    λ (f : Field). field_fits c.args.minutes c.args.x c.args.reserved f in
    let some-member : fits Participant ≡ true =
    c.if-not-member.false in
    at_state fits some-member (lt-leb _ _ c.if-x-gt-WITHDRAWN.true)

pub returns-then-not-service_fits : goal.returns-then-not-service_fits
unfolding field_fits bad_field
returns-then-not-service_fits c =
    let fits : Field → Bool =
    λ (f : Field). field_fits c.args.minutes c.args.x c.args.reserved f in
    let some-member : fits Participant ≡ true =
    c.if-not-member.false in
    let some-state : fits State ≡ true =
    le-leb _ _ c.if-x-gt-WITHDRAWN.false in
    at_service fits some-member some-state
    (sym c.service_fits.ensures ∙ c.if-not-service_fits.true)

pub returns-then-x-lt1 : goal.returns-then-x-lt1
unfolding field_fits bad_field
returns-then-x-lt1 c =
    let fits : Field → Bool =
    λ (f : Field). field_fits c.args.minutes c.args.x c.args.reserved f in
    let some-member : fits Participant ≡ true =
    c.if-not-member.false in
    let some-state : fits State ≡ true =
    le-leb _ _ c.if-x-gt-WITHDRAWN.false in
    let some-service : fits Service ≡ true =
    sym c.service_fits.ensures ∙ c.if-not-service_fits.false in
    at_revision fits some-member
    some-state some-service (lt-leb _ _ c.if-x-lt1.true)

pub returns : goal.returns
unfolding bad_field field_fits
returns c =
    let fits : Field → Bool =
    λ (f : Field). field_fits c.args.minutes c.args.x c.args.reserved f in
    let some-member : fits Participant ≡ true =
    c.if-not-member.false in
    let some-state : fits State ≡ true =
    le-leb _ _ c.if-x-gt-WITHDRAWN.false in
    let some-service : fits Service ≡ true =
    sym c.service_fits.ensures ∙ c.if-not-service_fits.false in
    let some-revision : fits Revision ≡ true =
    le-leb _ _ c.if-x-lt1.false in
    c.bad_term.ensures ∙ at_terms fits
    some-member some-state some-service
    some-revision
