-- Two records of one call, in one state and at one revision, differ in a field exactly where they are not equal. Assumes nothing.
use mathlib.Core.Path.{◌≡◌, refl}
use mathlib.Core.Bool.{Bool, true, false, cond, not, ◌&&◌}
use mathlib.Core.Logic.{◌↔◌}
use mathlib.Core.List.{List, [], ◌∷◌}
use Prim.Native.Nat.{ℕ}
use lib.Dec.{eqb}
use lib.IntN.{ℤ, pos}
use lib.Signed.{le_z}
use borrow.Author.Tests.{eq-eqb}
use Rattle.le.proofs.Tests.{each, all}
use Rattle.call.specs.declared.Call.{Call}
use Rattle.rule.specs.Standing.{same_call}
use Rattle.rule.proofs.Equality.{same_eq, eq_same}
use Rattle.std.specs.Prelude.{Some, None}
use Rattle.drawer.specs.declared.apart.Field.TheVariants.{Service, Start, Length, A, B, C}
use Rattle.drawer.specs.Apart.{apart_in}

-- of one call, in one state and at one revision
pub record Alike (x y : Call) : Type 0 where
  pub participant : x.participant ≡ y.participant
  pub state : x.state ≡ y.state
  pub number : x.number ≡ y.number
  pub revision : x.revision ≡ y.revision

apart_none : (s t l a b c : Bool)
    → cond (not s) (Some Service) (cond (not t) (Some Start) (cond (not l) (Some Length) (cond (not a) (Some A) (cond (not b) (Some B) (cond (not c) (Some C) None))))) ≡ None
    → (s ≡ true) × (t ≡ true) × (l ≡ true) × (a ≡ true) × (b ≡ true) × (c ≡ true)
apart_none true true true true true true e = (refl, refl, refl, refl, refl, refl)
apart_none false t l a b c e = absurd cc
apart_none true false l a b c e = absurd cc
apart_none true true false a b c e = absurd cc
apart_none true true true false b c e = absurd cc
apart_none true true true true false c e = absurd cc
apart_none true true true true true false e = absurd cc

-- all that is compared of two records
rest : Call → Call → List Bool
rest x y =
    eqb x.service y.service
    ∷ eqb x.state y.state
    ∷ eqb x.number y.number
    ∷ eqb x.revision y.revision
    ∷ eqb x.start y.start
    ∷ eqb x.length y.length
    ∷ le_z x.a y.a
    ∷ le_z y.a x.a
    ∷ eqb x.b y.b
    ∷ eqb x.c y.c
    ∷ []

pub apart_exactly : (x y : Call) → Alike x y → (apart_in x y ≡ None) ↔ (x ≡ y)
unfolding apart_in same_call rest
apart_exactly x y k = (from, to)
  where
    from : apart_in x y ≡ None → x ≡ y
    from e =
        let h =
        apart_none (eqb x.service y.service) (eqb x.start y.start) (eqb x.length y.length) (le_z x.a y.a && le_z y.a x.a)
        (eqb x.b y.b) (eqb x.c y.c) e in
        let a = each (le_z x.a y.a) (le_z y.a x.a ∷ []) h.3 in
        same_eq x y (all (eqb x.participant y.participant) (rest x y) (
          eq-eqb _ _ k.participant,
          (h.0, (eq-eqb _ _ k.state, (eq-eqb _ _ k.number, (eq-eqb _ _ k.revision, (h.1, (h.2, (a.0, (a.1.0, (h.4, (h.5, tt)))))))))),
        ))

    to : x ≡ y → apart_in x y ≡ None
    to e =
        let t = each (eqb x.participant y.participant) (rest x y) (eq_same x y e) in
        let u = t.1.1.1.1.1.1.1 in
        rw (t.1.0, t.1.1.1.1.1.0, t.1.1.1.1.1.1.0, u.0, u.1.0, u.1.1.0, u.1.1.1.0) refl

-- The order of the fields, worked out

-- call 5 of member 7, live at revision 1
abbrev call : (service start length : ℕ) → ℤ → (b c : ℕ) → Call
call service start length a b c =
    record { participant = 7; service = service; state = 0; number = 5; revision = 1; start = start; length = length; a = a; b = b; c = c }

-- Two records that differ in a field and in every one behind it: that field is told, and where they differ in none, nothing.
pub first_told :
    (apart_in (call 8 0 15 (pos 1) 1 0) (call 2 15 30 (pos 2) 2 1) ≡ Some Service)
    × (apart_in (call 8 0 15 (pos 1) 1 0) (call 8 15 30 (pos 2) 2 1) ≡ Some Start)
    × (apart_in (call 8 0 15 (pos 1) 1 0) (call 8 0 30 (pos 2) 2 1) ≡ Some Length)
    × (apart_in (call 8 0 15 (pos 1) 1 0) (call 8 0 15 (pos 2) 2 1) ≡ Some A)
    × (apart_in (call 8 0 15 (pos 1) 1 0) (call 8 0 15 (pos 1) 2 1) ≡ Some B)
    × (apart_in (call 8 0 15 (pos 1) 1 0) (call 8 0 15 (pos 1) 1 1) ≡ Some C)
    × (apart_in (call 8 0 15 (pos 1) 1 0) (call 8 0 15 (pos 1) 1 0) ≡ None)
unfolding apart_in
first_told = (refl, refl, refl, refl, refl, refl, refl)
