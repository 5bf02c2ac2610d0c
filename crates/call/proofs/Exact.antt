-- The test of a record holds exactly where the call is within the paper's limits. Assumes nothing.
use mathlib.Core.Path.{◌≡◌, refl, sym, ◌∙◌, ap, subst}
use mathlib.Core.Bool.{Bool, true, false, not, ◌&&◌, ◌||◌, true≢false}
use mathlib.Core.List.{List, [], ◌∷◌}
use mathlib.Core.Logic.{◌⊎◌, inl, inr, ⊎_elim, ◌↔◌}
use Prim.Native.Nat.{ℕ, zero, suc, ◌+◌, ◌-◌, ◌%◌, ◌≤◌, ◌<◌, zero-le}
use native.Mathlib.Omega.{arith}
use native.Mathlib.Decide.{ℕ_discrete}
use lib.Dec.{eqb, leb, lit≤}
use lib.IntN.{ℤ, pos, negsuc, nat_abs}
use lib.Signed.{le_z, mag}
use borrow.Author.Tests.{leb-true, le-leb, eqb-true, eq-eqb}
use Rattle.le.proofs.Tests.{each, all}
use Rattle.call.specs.Limits.{table, limits_of, limits_allow, call_is_sound}
use Rattle.units.specs.Month.{minutes_per_quarter, most_minutes}
use Rattle.call.specs.Revising.{withdrawn}
use Rattle.call.specs.Services.{most_participant, most_called, most_moved, least_moved, any_minutes, stability_trip}
use Rattle.call.specs.Service.{Window, NoTime, Blank, Stated, is_live, is_contested_lem, is_withdrawn_lem, CallWithin}
use Rattle.call.specs.Service.{ServiceRow, is_deep_peak, is_reserve, is_start_stop, is_standby, is_black_start}
use Rattle.call.specs.Service.{is_agc_availability, is_agc_contribution, is_frequency_event, is_avc, is_stability_trip}
use Rattle.call.specs.declared.Call.{Call}
use Rattle.call.specs.declared.service.Limits.{Limits}
use Rattle.call.proofs.Bytes.{Sized}

-- The tests of a row, as facts
record Allowed (l : Limits) (c : Call) : Type 0 where
  quarters : l.quarters ≡ true → (c.start % minutes_per_quarter ≡ 0) × (c.length % minutes_per_quarter ≡ 0)
  latest : c.start ≤ l.latest
  shortest : l.shortest ≤ c.length
  longest : c.length ≤ l.longest
  low : le_z l.low c.a ≡ true
  high : le_z c.a l.high ≡ true
  most_b : c.b ≤ l.b
  most_c : c.c ≤ l.c

on_quarters : (q t u : Bool) → (not q || t && u) ≡ true → q ≡ true → (t ≡ true) × (u ≡ true)
on_quarters true true true h e = (refl, refl)
on_quarters true true false h e = absurd (true≢false (sym h))
on_quarters true false u h e = absurd (true≢false (sym h))
on_quarters false t u h e = absurd (true≢false (sym e))

quarters_on : (q t u : Bool) → (q ≡ true → (t ≡ true) × (u ≡ true)) → (not q || t && u) ≡ true
quarters_on true t u h = let p = h refl in rw (p.0, p.1) refl
quarters_on false t u h = refl

module _ (l : Limits) (c : Call) where
  abbrev quarter : Bool
  quarter = not l.quarters || eqb (c.start % minutes_per_quarter) 0 && eqb (c.length % minutes_per_quarter) 0

  abbrev bounds : List Bool
  bounds =
      leb c.start l.latest ∷ leb l.shortest c.length ∷ leb c.length l.longest ∷ le_z l.low c.a ∷ le_z c.a l.high
      ∷ leb c.b l.b ∷ leb c.c l.c ∷ []

  allowed : limits_allow l c ≡ true → Allowed l c
  unfolding limits_allow
  allowed h =
      let p = each quarter bounds h in
      let q = p.1 in
      record {
        quarters = λ e. let g = on_quarters l.quarters (eqb (c.start % minutes_per_quarter) 0) (eqb (c.length % minutes_per_quarter) 0) p.0 e in (eqb-true _ _ g.0, eqb-true _ _ g.1);
        latest = leb-true _ _ q.0;
        shortest = leb-true _ _ q.1.0;
        longest = leb-true _ _ q.1.1.0;
        low = q.1.1.1.0;
        high = q.1.1.1.1.0;
        most_b = leb-true _ _ q.1.1.1.1.1.0;
        most_c = leb-true _ _ q.1.1.1.1.1.1.0;
      }

  allowing : Allowed l c → limits_allow l c ≡ true
  unfolding limits_allow
  allowing t =
      all quarter bounds (
        quarters_on l.quarters (eqb (c.start % minutes_per_quarter) 0) (eqb (c.length % minutes_per_quarter) 0) (λ e. let g = t.quarters e in (eq-eqb _ _ g.0, eq-eqb _ _ g.1)),
        (le-leb _ _ t.latest, (le-leb _ _ t.shortest, (le-leb _ _ t.longest, (t.low, (t.high, (le-leb _ _ t.most_b, (le-leb _ _ t.most_c, tt))))))),
      )

-- a between two limits
some_a : (a : ℤ) (k : ℕ) → le_z (pos 0) a ≡ true → le_z a (pos k) ≡ true → (n : ℕ) × (a ≡ pos n) × (n ≤ k)
some_a (pos n) k l h = (n, refl, leb-true n k h)
some_a (negsuc n) k l h = absurd (true≢false (sym l))

no_a : (a : ℤ) → le_z (pos 0) a ≡ true → le_z a (pos 0) ≡ true → a ≡ pos 0
no_a a l h = let p = some_a a 0 l h in let z : p.0 ≡ 0 = omega (arith, p.2) in p.1 ∙ ap pos z

swing : (a : ℤ) → le_z least_moved a ≡ true → le_z a (pos most_moved) ≡ true → nat_abs a ≤ most_moved
swing (pos n) l h = leb-true n most_moved h
swing (negsuc n) l h = let e = leb-true n (most_moved - 1) l in omega arith

none : (n : ℕ) → n ≤ 0 → n ≡ 0
none n h = omega arith

-- a row's tests give the row of the paper's table
module _ (c : Call) where
  abbrev At : ℕ → Type 0
  At s = Allowed (limits_of s) c

  window : c.start % minutes_per_quarter ≡ 0 → c.length % minutes_per_quarter ≡ 0 → minutes_per_quarter ≤ c.length → Window c
  window p q r = record { starts = p; lasts = q; shortest = r }

  no_time : c.start ≤ 0 → c.length ≤ 0 → NoTime c
  no_time p q = record { no_start = none _ p; no_length = none _ q }

  row_of : (s : ℕ) → c.service ≡ s → 1 ≤ s → At s → ServiceRow c
  unfolding limits_of table
  row_of zero e h t = absurd (omega arith)
  row_of (suc zero) e h t = let q = t.quarters refl in is_deep_peak e (window q.0 q.1 t.shortest) (no_a _ t.low t.high) (none _ t.most_b) (none _ t.most_c)
  row_of (suc (suc zero)) e h t =
      let q = t.quarters refl in
      let a = some_a _ most_called t.low t.high in
      is_reserve e (window q.0 q.1 t.shortest) a.0 a.1 a.2 (none _ t.most_b) (none _ t.most_c)
  row_of (suc (suc (suc zero))) e h t = is_start_stop e t.shortest (no_a _ t.low t.high) (none _ t.most_b) (none _ t.most_c)
  row_of (suc (suc (suc (suc zero)))) e h t = is_standby e t.shortest (no_a _ t.low t.high) (none _ t.most_b) (none _ t.most_c)
  row_of (suc (suc (suc (suc (suc zero))))) e h t = is_black_start e (no_time t.latest t.longest) (no_a _ t.low t.high) (none _ t.most_b) (none _ t.most_c)
  row_of (suc (suc (suc (suc (suc (suc zero)))))) e h t = is_agc_availability e (no_time t.latest t.longest) (no_a _ t.low t.high) t.most_b (none _ t.most_c)
  row_of (suc (suc (suc (suc (suc (suc (suc zero))))))) e h t = is_agc_contribution e (no_time t.latest t.longest) (no_a _ t.low t.high) t.most_b (none _ t.most_c)
  row_of (suc (suc (suc (suc (suc (suc (suc (suc zero)))))))) e h t = is_frequency_event e (swing c.a t.low t.high) t.most_b t.most_c
  row_of (suc (suc (suc (suc (suc (suc (suc (suc (suc zero))))))))) e h t = is_avc e (none _ t.latest) (no_a _ t.low t.high) t.most_b t.most_c
  row_of (suc (suc (suc (suc (suc (suc (suc (suc (suc (suc zero)))))))))) e h t = is_stability_trip e (none _ t.longest) (no_a _ t.low t.high) (none _ t.most_b) (none _ t.most_c)
  row_of (suc (suc (suc (suc (suc (suc (suc (suc (suc (suc (suc s))))))))))) e h t = absurd (let p = t.shortest in let q = t.longest in omega arith)

  blank_of : c.service ≡ 0 → At 0 → Blank c
  unfolding limits_of table
  blank_of e t = record { service = e; time = no_time t.latest t.longest; no_a = no_a _ t.low t.high; no_b = none _ t.most_b; no_c = none _ t.most_c }

-- and back
fits_any : (c : Call) (m : ℕ) → m ≤ most_minutes → c.start + c.length ≤ m → (c.start ≤ any_minutes) × (c.length ≤ any_minutes)
fits_any c m k h = (omega arith, omega arith)

from_a : {a : ℤ} (n k : ℕ) → a ≡ pos n → n ≤ k → (le_z (pos 0) a ≡ true) × (le_z a (pos k) ≡ true)
from_a n k e h = (ap (λ (z : ℤ). le_z (pos 0) z) e ∙ le-leb 0 n zero-le, ap (λ (z : ℤ). le_z z (pos k)) e ∙ le-leb n k h)

zero_a : {a : ℤ} → a ≡ pos 0 → (le_z (pos 0) a ≡ true) × (le_z a (pos 0) ≡ true)
zero_a e = from_a 0 0 e (lit≤ tt)

from_swing : (a : ℤ) → nat_abs a ≤ most_moved → (le_z least_moved a ≡ true) × (le_z a (pos most_moved) ≡ true)
from_swing (pos n) h = (refl, le-leb n most_moved h)
from_swing (negsuc n) h = let k : suc n ≤ most_moved = h in (le-leb n (most_moved - 1) (omega arith), refl)

never : {A : Type 0} → false ≡ true → A
never e = absurd (true≢false (sym e))

at_most : {n k : ℕ} → n ≡ 0 → n ≤ k
at_most e = omega arith

-- a row's tests, in its order: quarters, start, length from and to, a, b, c
tests : (c : Call) (l : Limits) → (l.quarters ≡ true → (c.start % minutes_per_quarter ≡ 0) × (c.length % minutes_per_quarter ≡ 0)) → c.start ≤ l.latest → l.shortest ≤ c.length
    → c.length ≤ l.longest → (le_z l.low c.a ≡ true) × (le_z c.a l.high ≡ true) → c.b ≤ l.b → c.c ≤ l.c → Allowed l c
tests c l q s f t a b d = record { quarters = q; latest = s; shortest = f; longest = t; low = a.0; high = a.1; most_b = b; most_c = d }

module _ (c : Call) (start : c.start ≤ any_minutes) (long : c.length ≤ any_minutes) where
  abbrev Meets : Type 0
  Meets = (1 ≤ c.service) × (limits_allow (limits_of c.service) c ≡ true)

  meets : (k : ℕ) → c.service ≡ k → 1 ≤ k → Allowed (limits_of k) c → Meets
  meets k e h t = (rw e h, subst (λ (s : ℕ). limits_allow (limits_of s) c ≡ true) (sym e) (allowing (limits_of k) c t))

  row_meets : ServiceRow c → Meets
  unfolding limits_of table
  row_meets (is_deep_peak e w a b d) = meets 1 e (lit≤ tt) (tests c _ (λ x. (w.starts, w.lasts)) start w.shortest long (zero_a a) (at_most b) (at_most d))
  row_meets (is_reserve e w n a k b d) = meets 2 e (lit≤ tt) (tests c _ (λ x. (w.starts, w.lasts)) start w.shortest long (from_a n most_called a k) (at_most b) (at_most d))
  row_meets (is_start_stop e l a b d) = meets 3 e (lit≤ tt) (tests c _ never start l long (zero_a a) (at_most b) (at_most d))
  row_meets (is_standby e l a b d) = meets 4 e (lit≤ tt) (tests c _ never start l long (zero_a a) (at_most b) (at_most d))
  row_meets (is_black_start e w a b d) = meets 5 e (lit≤ tt) (tests c _ never (at_most w.no_start) zero-le (at_most w.no_length) (zero_a a) (at_most b) (at_most d))
  row_meets (is_agc_availability e w a b d) = meets 6 e (lit≤ tt) (tests c _ never (at_most w.no_start) zero-le (at_most w.no_length) (zero_a a) b (at_most d))
  row_meets (is_agc_contribution e w a b d) = meets 7 e (lit≤ tt) (tests c _ never (at_most w.no_start) zero-le (at_most w.no_length) (zero_a a) b (at_most d))
  row_meets (is_frequency_event e a b d) = meets 8 e (lit≤ tt) (tests c _ never start zero-le long (from_swing c.a a) b d)
  row_meets (is_avc e s a b d) = meets 9 e (lit≤ tt) (tests c _ never (at_most s) zero-le long (zero_a a) b d)
  row_meets (is_stability_trip e l a b d) = meets 10 e (lit≤ tt) (tests c _ never start zero-le (at_most l) (zero_a a) (at_most b) (at_most d))

blank_allowed : (c : Call) → Blank c → limits_allow (limits_of c.service) c ≡ true
unfolding limits_of table
blank_allowed c w =
    subst (λ (s : ℕ). limits_allow (limits_of s) c ≡ true) (sym w.service)
    (allowing (limits_of 0) c (tests c _ never (at_most w.time.no_start) zero-le (at_most w.time.no_length) (zero_a w.no_a) (at_most w.no_b) (at_most w.no_c)))

-- The whole test

either : (t u v w : Bool) → (t && u || v && w) ≡ true → ((t ≡ true) × (u ≡ true)) ⊎ ((v ≡ true) × (w ≡ true))
either true true v w h = inl (refl, refl)
either true false true true h = inr (refl, refl)
either false u true true h = inr (refl, refl)
either true false true false h = never h
either false u true false h = never h
either true false false w h = never h
either false u false w h = never h

module _ (m : ℕ) (c : Call) where
  abbrev state_test : Bool
  state_test = eqb c.state 0 && leb 1 c.service || leb 1 c.state && eqb c.service 0

  abbrev rest : List Bool
  rest =
      leb c.participant most_participant ∷ leb c.state withdrawn ∷ leb 1 c.revision ∷ state_test ∷ leb (c.start + c.length) m
      ∷ limits_allow (limits_of c.service) c ∷ []

  stated : c.state ≤ withdrawn → state_test ≡ true → c.start + c.length ≤ m → Allowed (limits_of c.service) c → Stated m c
  stated s h l t =
      ⊎_elim (λ p. is_live (eqb-true _ _ p.0) l (row_of c c.service refl (leb-true _ _ p.1) t))
      (λ p. struck (leb-true _ _ p.0) (eqb-true _ _ p.1) (ℕ_discrete c.state 1))
      (either (eqb c.state 0) (leb 1 c.service) (leb 1 c.state) (eqb c.service 0) h)
    where
      struck : 1 ≤ c.state → c.service ≡ 0 → Dec (c.state ≡ 1) → Stated m c
      struck p e (yes d) = is_contested_lem d (blank_of c e (subst (At c) e t))
      struck p e (no d) = is_withdrawn_lem (omega arith) (blank_of c e (subst (At c) e t))

  pub sound_within : c.number < 4294967296 → c.revision < 4294967296 → call_is_sound m c ≡ true → CallWithin m c
  unfolding call_is_sound
  sound_within n r h =
      let p = each (leb 1 c.participant) rest h in
      let q = p.1 in
      record {
        participant = (leb-true _ _ p.0, leb-true _ _ q.0);
        number = n;
        revision = (leb-true _ _ q.1.1.0, r);
        content = stated (leb-true _ _ q.1.0) q.1.1.1.0 (leb-true _ _ q.1.1.1.1.0) (allowed (limits_of c.service) c q.1.1.1.1.1.0);
      }

  -- what the state's clause gives of the tests
  abbrev Passes : Type 0
  Passes = (c.state ≤ withdrawn) × (state_test ≡ true) × (c.start + c.length ≤ m) × (limits_allow (limits_of c.service) c ≡ true)

  blank_passes : 1 ≤ c.state → c.state ≤ withdrawn → Blank c → Passes
  blank_passes p q w =
      let s : state_test ≡ true = struck_test (eqb c.state 0) (leb 1 c.service) (leb 1 c.state) (eqb c.service 0) (le-leb _ _ p) (eq-eqb _ _ w.service) in
      (q, s, omega (arith, w.time.no_start, w.time.no_length), blank_allowed c w)
    where
      struck_test : (t u v w : Bool) → v ≡ true → w ≡ true → (t && u || v && w) ≡ true
      struck_test true true v w e f = refl
      struck_test true false v w e f = rw (e, f) refl
      struck_test false u v w e f = rw (e, f) refl

  passes : m ≤ most_minutes → Stated m c → Passes
  passes k (is_live e l r) =
      let f = fits_any c m k l in
      let t = row_meets c f.0 f.1 r in
      (omega arith, live_test (eqb c.state 0) (leb 1 c.service) (leb 1 c.state) (eqb c.service 0) (eq-eqb _ _ e) (le-leb _ _ t.0), l, t.1)
    where
      live_test : (t u v w : Bool) → t ≡ true → u ≡ true → (t && u || v && w) ≡ true
      live_test t u v w e f = rw (e, f) refl
  passes k (is_contested_lem e w) = blank_passes (omega arith) (omega arith) w
  passes k (is_withdrawn_lem e w) = blank_passes (omega arith) (omega arith) w

  pub within_sound : m ≤ most_minutes → CallWithin m c → call_is_sound m c ≡ true
  unfolding call_is_sound
  within_sound k w =
      let p = passes k w.content in
      all (leb 1 c.participant) rest
      (le-leb _ _ w.participant.0, (le-leb _ _ w.participant.1, (le-leb _ _ p.0, (le-leb _ _ w.revision.0, (p.1, (le-leb _ _ p.2, (p.3, tt)))))))

  -- Refusal 5, exactly: in a month, a record whose numbers are of 32 bits passes the test where it is within the limits, and nowhere else.
  pub sound_exact : m ≤ most_minutes → c.number < 4294967296 → c.revision < 4294967296 → (call_is_sound m c ≡ true) ↔ CallWithin m c
  sound_exact k n r = (sound_within n r, within_sound k)

-- A call within the limits fits its bytes

small_a : (a : ℤ) (n : ℕ) → a ≡ pos n → n ≤ most_moved → mag a ≤ most_moved
small_a a n e h = rw e h

small_swing : (a : ℤ) → nat_abs a ≤ most_moved → mag a ≤ most_moved
small_swing (pos n) h = h
small_swing (negsuc n) h = let k : suc n ≤ most_moved = h in omega arith

abbrev Small : Call → Type 0
Small c = (c.service ≤ stability_trip) × (mag c.a ≤ most_moved) × (c.b ≤ most_moved) × (c.c ≤ most_moved)

row_small : (c : Call) → ServiceRow c → Small c
row_small c (is_deep_peak e w a b d) = (omega arith, small_a _ 0 a (lit≤ tt), omega arith, omega arith)
row_small c (is_reserve e w n a k b d) = (omega arith, small_a _ n a (omega arith), omega arith, omega arith)
row_small c (is_start_stop e l a b d) = (omega arith, small_a _ 0 a (lit≤ tt), omega arith, omega arith)
row_small c (is_standby e l a b d) = (omega arith, small_a _ 0 a (lit≤ tt), omega arith, omega arith)
row_small c (is_black_start e w a b d) = (omega arith, small_a _ 0 a (lit≤ tt), omega arith, omega arith)
row_small c (is_agc_availability e w a b d) = (omega arith, small_a _ 0 a (lit≤ tt), omega arith, omega arith)
row_small c (is_agc_contribution e w a b d) = (omega arith, small_a _ 0 a (lit≤ tt), omega arith, omega arith)
row_small c (is_frequency_event e a b d) = (omega arith, small_swing c.a a, omega arith, omega arith)
row_small c (is_avc e s a b d) = (omega arith, small_a _ 0 a (lit≤ tt), omega arith, omega arith)
row_small c (is_stability_trip e l a b d) = (omega arith, small_a _ 0 a (lit≤ tt), omega arith, omega arith)

blank_small : (c : Call) → Blank c → Small c
blank_small c w = (omega (arith, w.service), small_a _ 0 w.no_a (lit≤ tt), omega (arith, w.no_b), omega (arith, w.no_c))

pub within_sized : (m : ℕ) (c : Call) → m ≤ most_minutes → CallWithin m c → Sized c
within_sized m c k w = go w.content
  where
    size : Small c → c.state ≤ withdrawn → c.start + c.length ≤ m → Sized c
    size s t l =
        record {
          participant = omega (arith, w.participant.1);
          service = omega (arith, s.0);
          state = omega arith;
          number = w.number;
          revision = w.revision.1;
          start = omega arith;
          length = omega arith;
          signed_a = record { sfits = omega (arith, s.1) };
          most_b = omega (arith, s.2);
          most_c = omega (arith, s.3);
        }

    go : Stated m c → Sized c
    go (is_live e l r) = size (row_small c r) (omega arith) l
    go (is_contested_lem e v) = size (blank_small c v) (omega arith) (omega (arith, v.time.no_start, v.time.no_length))
    go (is_withdrawn_lem e v) = size (blank_small c v) (omega arith) (omega (arith, v.time.no_start, v.time.no_length))
