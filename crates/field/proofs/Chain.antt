-- The first bad field of the two halves of the list, test by test. Assumes nothing.
use mathlib.Core.Path.{◌≡◌, sym, ◌∙◌, ap}
use mathlib.Core.Bool.{Bool, true, false}
use Prim.Native.Nat.{ℕ, ◌≤◌, ◌<◌}
use lib.Dec.{leb}
use borrow.Author.Tests.{le-leb, lt-leb}
use Rattle.call.specs.declared.Call.{Call}
use Rattle.call.specs.declared.service.Limits.{Limits}
use Rattle.call.specs.Limits.{limits_of}
use Rattle.std.specs.Prelude.{Some, None}
use Rattle.field.specs.declared.Field.{Field}
use Rattle.field.specs.declared.Field.TheVariants.{Participant, State, Service, Revision, Start, Length, A, B, C, Reserved}
use Rattle.field.specs.Field.{start_fits, length_fits, a_fits, field_fits, terms, fields, first_bad}

module _ (fits : Field → Bool) where
  pub at_participant : fits Participant ≡ false → Some Participant ≡ first_bad fits fields
  unfolding first_bad
  at_participant h = rw h

  pub at_state : fits Participant ≡ true → fits State ≡ false → Some State ≡ first_bad fits fields
  unfolding first_bad
  at_state p h = rw (p, h)

  pub at_service : fits Participant ≡ true → fits State ≡ true → fits Service ≡ false → Some Service ≡ first_bad fits fields
  unfolding first_bad
  at_service p q h = rw (p, q, h)

  pub at_revision : fits Participant ≡ true → fits State ≡ true → fits Service ≡ true → fits Revision ≡ false → Some Revision ≡ first_bad fits fields
  unfolding first_bad
  at_revision p q r h = rw (p, q, r, h)

  pub at_terms : fits Participant ≡ true → fits State ≡ true → fits Service ≡ true → fits Revision ≡ true → first_bad fits terms ≡ first_bad fits fields
  unfolding first_bad
  at_terms p q r s = rw (p, q, r, s)

  pub at_start : fits Start ≡ false → Some Start ≡ first_bad fits terms
  unfolding first_bad
  at_start h = rw h

  pub at_length : fits Start ≡ true → fits Length ≡ false → Some Length ≡ first_bad fits terms
  unfolding first_bad
  at_length p h = rw (p, h)

  pub at_a : fits Start ≡ true → fits Length ≡ true → fits A ≡ false → Some A ≡ first_bad fits terms
  unfolding first_bad
  at_a p q h = rw (p, q, h)

  pub at_b : fits Start ≡ true → fits Length ≡ true → fits A ≡ true → fits B ≡ false → Some B ≡ first_bad fits terms
  unfolding first_bad
  at_b p q r h = rw (p, q, r, h)

  pub at_c : fits Start ≡ true → fits Length ≡ true → fits A ≡ true → fits B ≡ true → fits C ≡ false → Some C ≡ first_bad fits terms
  unfolding first_bad
  at_c p q r s h = rw (p, q, r, s, h)

  pub at_reserved : fits Start ≡ true → fits Length ≡ true → fits A ≡ true → fits B ≡ true → fits C ≡ true → fits Reserved ≡ false → Some Reserved ≡ first_bad fits terms
  unfolding first_bad
  at_reserved p q r s t h = rw (p, q, r, s, t, h)

  pub at_none : fits Start ≡ true → fits Length ≡ true → fits A ≡ true → fits B ≡ true → fits C ≡ true → fits Reserved ≡ true → None ≡ first_bad fits terms
  unfolding first_bad
  at_none p q r s t h = rw (p, q, r, s, t, h)

-- What the code finds of a service's limits is the test of the field.
module _ (m : ℕ) (x : Call) (n : ℕ) (l : Limits) (is : l ≡ limits_of x.service) where
  pub start_is : (t v : Bool) → t ≡ start_fits l x → t ≡ v → field_fits m x n Start ≡ v
  unfolding field_fits
  start_is t v e f = ap (λ (k : Limits). start_fits k x) (sym is) ∙ sym e ∙ f

  pub length_is : (t v : Bool) → t ≡ length_fits l m x → t ≡ v → field_fits m x n Length ≡ v
  unfolding field_fits
  length_is t v e f = ap (λ (k : Limits). length_fits k m x) (sym is) ∙ sym e ∙ f

  pub a_is : (t v : Bool) → t ≡ a_fits l x → t ≡ v → field_fits m x n A ≡ v
  unfolding field_fits
  a_is t v e f = ap (λ (k : Limits). a_fits k x) (sym is) ∙ sym e ∙ f

  pub b_fits : x.b ≤ l.b → field_fits m x n B ≡ true
  unfolding field_fits
  b_fits h = ap (λ (k : Limits). leb x.b k.b) (sym is) ∙ le-leb x.b l.b h

  pub b_fails : l.b < x.b → field_fits m x n B ≡ false
  unfolding field_fits
  b_fails h = ap (λ (k : Limits). leb x.b k.b) (sym is) ∙ lt-leb x.b l.b h

  pub c_fits : x.c ≤ l.c → field_fits m x n C ≡ true
  unfolding field_fits
  c_fits h = ap (λ (k : Limits). leb x.c k.c) (sym is) ∙ le-leb x.c l.c h

  pub c_fails : l.c < x.c → field_fits m x n C ≡ false
  unfolding field_fits
  c_fails h = ap (λ (k : Limits). leb x.c k.c) (sym is) ∙ lt-leb x.c l.c h
