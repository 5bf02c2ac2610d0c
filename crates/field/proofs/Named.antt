-- A field is named exactly where a record is refused by 5, and it is the first whose condition fails. Assumes nothing.
use mathlib.Core.Path.{◌≡◌, refl, sym, ◌∙◌, ap, subst}
use mathlib.Core.Bool.{Bool, true, false, cond, not, ◌&&◌, ◌||◌, true≢false}
use mathlib.Core.List.{List, [], ◌∷◌}
use mathlib.Core.Logic.{◌↔◌}
use Prim.Native.Nat.{ℕ, ◌+◌, ◌%◌, ◌≤◌, ◌<◌}
use native.Mathlib.Omega.{arith}
use native.Mathlib.Decide.{dec_lt, ℕ_discrete}
use lib.Dec.{eqb, leb}
use lib.Signed.{le_z}
use borrow.Author.Tests.{leb-true, le-leb, lt-leb, eq-eqb, ne_eqb}
use Rattle.le.proofs.Tests.{each, all}
use Rattle.units.specs.Month.{minutes_per_quarter}
use Rattle.call.specs.declared.Call.{Call}
use Rattle.call.specs.declared.service.Limits.{Limits}
use Rattle.call.specs.Limits.{limits_of, limits_allow, call_is_sound}
use Rattle.call.specs.Revising.{live, withdrawn}
use Rattle.call.specs.Services.{most_participant, stability_trip}
use Rattle.call.proofs.Limits.{no_service}
use Rattle.std.specs.Prelude.{Option, Some, None}
use Rattle.field.specs.declared.Field.{Field}
use Rattle.field.specs.Field.{service_fits, start_fits, length_fits, a_fits, field_fits, fields, first_bad, bad_field}
use Rattle.field.specs.Columns.{FieldHolds, FirstFails, here, later, none}
use Rattle.field.proofs.Columns.{holds_exact}

-- The first that fails

module _ (m : ℕ) (c : Call) (r : ℕ) where
  abbrev fits : Field → Bool
  fits f = field_fits m c r f

  abbrev Holds : Field → Type 0
  Holds f = FieldHolds m c r f

  first : (fs : List Field) → FirstFails Holds fs (first_bad fits fs)
  unfolding first_bad
  first [] = none
  first (f ∷ fs) = go (fits f) refl (first fs)
    where
      go : (t : Bool) → fits f ≡ t → FirstFails Holds fs (first_bad fits fs) → FirstFails Holds (f ∷ fs) (cond t (first_bad fits fs) (Some f))
      go true e rest = later f ((holds_exact m c r f).0 e) rest
      go false e rest = here f (λ h. true≢false (sym ((holds_exact m c r f).1 h) ∙ e))

  only : {fs : List Field} {f : Option Field} → FirstFails Holds fs f → first_bad fits fs ≡ f
  unfolding first_bad
  only none = refl
  only (later g h rest) = rw ((holds_exact m c r g).1 h) (only rest)
  only (here f {fs} n) = go (fits f) refl
    where
      go : (t : Bool) → fits f ≡ t → cond t (first_bad fits fs) (Some f) ≡ Some f
      go true e = absurd (n ((holds_exact m c r f).0 e))
      go false e = refl

  -- A FIELD IS NAMED EXACTLY WHERE ITS CONDITION FAILS AND THOSE OF THE FIELDS BEFORE IT HOLD; none is named where all hold.
  pub named_exactly : (f : Option Field) → (bad_field m c r ≡ f) ↔ FirstFails Holds fields f
  unfolding bad_field
  named_exactly f = (λ e. subst (λ (g : Option Field). FirstFails Holds fields g) e (first fields), only)

  -- every field of a list fits
  abbrev Fit : List Field → Type 0
  Fit [] = Unit {0}
  Fit (f ∷ fs) = (fits f ≡ true) × Fit fs

  every : (fs : List Field) → first_bad fits fs ≡ None → Fit fs
  unfolding first_bad
  every [] e = tt
  every (f ∷ fs) e = go (fits f) refl e (λ g. every fs g)
    where
      go : (t : Bool) → fits f ≡ t → cond t (first_bad fits fs) (Some f) ≡ None → (first_bad fits fs ≡ None → Fit fs) → (fits f ≡ true) × Fit fs
      go true d e rest = (d, rest e)
      go false d e rest = absurd cc

  no_bad : (fs : List Field) → Fit fs → first_bad fits fs ≡ None
  unfolding first_bad
  no_bad [] h = refl
  no_bad (f ∷ fs) h = rw h.0 (no_bad fs h.1)

-- The test of a record, and the tests of its fields

first_of : (q t u : Bool) → (not q || t && u) ≡ true → (not q || t) ≡ true
first_of true true u h = refl
first_of true false u h = h
first_of false t u h = refl

second_of : (q t u : Bool) → (not q || t && u) ≡ true → (not q || u) ≡ true
second_of true true u h = h
second_of true false u h = absurd (true≢false (sym h))
second_of false t u h = refl

both_of : (q t u : Bool) → (not q || t) ≡ true → (not q || u) ≡ true → (not q || t && u) ≡ true
both_of true true u h k = k
both_of true false u h k = h
both_of false t u h k = refl

of_live : (t u v w : Bool) → v ≡ false → (t && u || v && w) ≡ true → u ≡ true
of_live true true v w e h = refl
of_live true false v w e h = absurd (true≢false (sym (rw e at h)))
of_live false u v w e h = absurd (true≢false (sym (rw e at h)))

of_others : (t u v w : Bool) → t ≡ false → (t && u || v && w) ≡ true → w ≡ true
of_others true u v w e h = absurd (true≢false e)
of_others false u true w e h = h
of_others false u false w e h = absurd (true≢false (sym h))

module _ (m : ℕ) (c : Call) (r : ℕ) where
  abbrev l : Limits
  l = limits_of c.service

  abbrev on_start : Bool
  on_start = eqb (c.start % minutes_per_quarter) 0

  abbrev on_length : Bool
  on_length = eqb (c.length % minutes_per_quarter) 0

  abbrev state_test : Bool
  state_test = eqb c.state live && leb 1 c.service || leb 1 c.state && eqb c.service 0

  abbrev rest : List Bool
  rest = leb c.participant most_participant ∷ leb c.state withdrawn ∷ leb 1 c.revision ∷ state_test ∷ leb (c.start + c.length) m ∷ limits_allow l c ∷ []

  abbrev bounds : List Bool
  bounds =
      leb c.start l.latest ∷ leb l.shortest c.length ∷ leb c.length l.longest ∷ le_z l.low c.a ∷ le_z c.a l.high
      ∷ leb c.b l.b ∷ leb c.c l.c ∷ []

  -- a service of the table, where some length is within its limits
  in_table : leb l.shortest c.length ≡ true → leb c.length l.longest ≡ true → c.service ≤ stability_trip
  in_table h k = go (dec_lt stability_trip c.service)
    where
      go : Dec (stability_trip < c.service) → c.service ≤ stability_trip
      go (yes d) =
          let e = no_service c.service d in
          let p : 1 ≤ c.length = leb-true 1 c.length (sym (ap (λ (k : Limits). leb k.shortest c.length) e) ∙ h) in
          let q : c.length ≤ 0 = leb-true c.length 0 (sym (ap (λ (k : Limits). leb c.length k.longest) e) ∙ k) in
          absurd (omega arith)
      go (no d) = omega arith

  served : state_test ≡ true → c.service ≤ stability_trip → service_fits c ≡ true
  unfolding service_fits
  served h k = go (ℕ_discrete c.state live)
    where
      go : Dec (c.state ≡ live) → service_fits c ≡ true
      go (yes d) =
          let v : leb 1 c.state ≡ false = lt-leb 1 c.state (omega arith) in
          rw (eq-eqb _ _ d) (all (leb 1 c.service) (leb c.service stability_trip ∷ []) (of_live (eqb c.state live) _ (leb 1 c.state) _ v h, (le-leb _ _ k, tt)))
      go (no d) = rw (ne_eqb _ _ d) (of_others (eqb c.state live) _ (leb 1 c.state) _ (ne_eqb _ _ d) h)

  -- and back
  state_test_lem : service_fits c ≡ true → state_test ≡ true
  unfolding service_fits
  state_test_lem h = go (ℕ_discrete c.state live)
    where
      go : Dec (c.state ≡ live) → state_test ≡ true
      go (yes d) =
          let p = each (leb 1 c.service) (leb c.service stability_trip ∷ []) (rw (eq-eqb _ _ d) at h) in
          rw (eq-eqb _ _ d, p.0) refl
      go (no d) =
          let v : leb 1 c.state ≡ true = le-leb 1 c.state (omega arith) in
          rw (ne_eqb _ _ d, v) (rw (ne_eqb _ _ d) at h)

  abbrev is_sound : Bool
  is_sound = call_is_sound m c && eqb r 0

  fit : is_sound ≡ true → Fit m c r fields
  unfolding call_is_sound limits_allow field_fits start_fits length_fits a_fits
  fit h =
      let two = each (call_is_sound m c) (eqb r 0 ∷ []) h in
      let p = each (leb 1 c.participant) rest two.0 in
      let q = p.1 in
      let t = each (not l.quarters || on_start && on_length) bounds q.1.1.1.1.1.0 in
      let u = t.1 in
      let inside = in_table u.1.0 u.1.1.0 in (
        all (leb 1 c.participant) (leb c.participant most_participant ∷ []) (p.0, (q.0, tt)),
        (
          q.1.0,
          (
            served q.1.1.1.0 inside,
            (
              q.1.1.0,
              (
                all (not l.quarters || on_start) (leb c.start l.latest ∷ []) (first_of l.quarters on_start on_length t.0, (u.0, tt)),
                (
                  all (not l.quarters || on_length) (leb l.shortest c.length ∷ leb c.length l.longest ∷ leb (c.start + c.length) m ∷ [])
                      (second_of l.quarters on_start on_length t.0, (u.1.0, (u.1.1.0, (q.1.1.1.1.0, tt)))),
                  (
                    all (le_z l.low c.a) (le_z c.a l.high ∷ []) (u.1.1.1.0, (u.1.1.1.1.0, tt)),
                    (u.1.1.1.1.1.0, (u.1.1.1.1.1.1.0, (two.1.0, tt))),
                  ),
                ),
              ),
            ),
          ),
        ),
      )

  sound : Fit m c r fields → is_sound ≡ true
  unfolding call_is_sound limits_allow field_fits start_fits length_fits a_fits
  sound h =
      let p = each (leb 1 c.participant) (leb c.participant most_participant ∷ []) h.0 in
      let g = h.1.1.1.1 in
      let s = each (not l.quarters || on_start) (leb c.start l.latest ∷ []) g.0 in
      let k = each (not l.quarters || on_length) (leb l.shortest c.length ∷ leb c.length l.longest ∷ leb (c.start + c.length) m ∷ []) g.1.0 in
      let a = each (le_z l.low c.a) (le_z c.a l.high ∷ []) g.1.1.0 in
      let b = g.1.1.1 in
      let within = all (not l.quarters || on_start && on_length) bounds
      (both_of l.quarters on_start on_length s.0 k.0, (s.1.0, (k.1.0, (k.1.1.0, (a.0, (a.1.0, (b.0, (b.1.0, tt)))))))) in
      all (call_is_sound m c) (eqb r 0 ∷ []) (
        all (leb 1 c.participant) rest
            (p.0, (p.1.0, (h.1.0, (h.1.1.1.0, (state_test_lem h.1.1.0, (k.1.1.1.0, (within, tt))))))),
        (b.1.1.0, tt),
      )

  -- Of a record that passes the test of 5 no field is named, and of every other one is.
  pub none_exactly : (is_sound ≡ true) ↔ (bad_field m c r ≡ None)
  unfolding bad_field
  none_exactly = (λ h. no_bad m c r fields (fit h), λ e. sound (every m c r fields e))
