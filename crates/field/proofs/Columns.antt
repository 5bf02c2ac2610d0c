-- The test of each field holds exactly where the paper's condition does. Assumes nothing.
use mathlib.Core.Path.{◌≡◌, refl, sym, ◌∙◌, ap}
use mathlib.Core.Bool.{Bool, true, false, not, ◌&&◌, ◌||◌, true≢false}
use mathlib.Core.List.{List, [], ◌∷◌, ◌++◌}
use mathlib.Core.Logic.{◌↔◌}
use Prim.Native.Nat.{ℕ, zero, suc, ◌+◌, ◌-◌, ◌%◌, ◌≤◌, zero-le}
use native.Mathlib.Omega.{arith}
use native.Mathlib.Decide.{ℕ_discrete}
use lib.Dec.{eqb, leb}
use lib.IntN.{ℤ, pos, negsuc, nat_abs}
use lib.Signed.{le_z}
use borrow.Author.Tests.{leb-true, le-leb, eqb-true, eq-eqb, ne_eqb}
use Rattle.le.proofs.Tests.{each, all}
use Rattle.units.specs.Month.{minutes_per_quarter}
use Rattle.call.specs.declared.Call.{Call}
use Rattle.call.specs.declared.service.Limits.{Limits}
use Rattle.call.specs.Limits.{table, limits_of}
use Rattle.call.specs.Revising.{live}
use Rattle.call.specs.Services.{deep_peak, reserve, start_stop, standby, black_start, agc_availability, agc_contribution, frequency_event, avc, stability_trip}
use Rattle.call.specs.Services.{most_participant, most_rate, most_called, most_moved, least_moved, any_minutes}
use Rattle.field.specs.declared.Field.{Field}
use Rattle.field.specs.declared.Field.TheVariants.{Participant, State, Service, Revision, Start, Length, A, B, C, Reserved}
use Rattle.field.specs.Field.{service_fits, start_fits, length_fits, a_fits, field_fits}
use Rattle.field.specs.Columns.{one_of, ServiceColumn, StartColumn, LengthColumn, AColumn, BColumn, CColumn, FieldHolds}

-- Lists of services

-- a service of a list is one of its members
abbrev Each : (ℕ → Type 0) → List ℕ → Type 0
Each P [] = Unit {0}
Each P (k ∷ ks) = P k × Each P ks

of_each : (P : ℕ → Type 0) (ks : List ℕ) (s : ℕ) → Each P ks → one_of ks s ≡ true → P s
unfolding one_of
of_each P [] s h e = absurd (true≢false (sym e))
of_each P (k ∷ ks) s h e = go (ℕ_discrete s k) (λ f. of_each P ks s h.1 f)
  where
    go : Dec (s ≡ k) → (one_of ks s ≡ true → P s) → P s
    go (yes d) rest = rw d h.0
    go (no d) rest = rest (rw (ne_eqb s k d) at e)

neither : (ks ls : List ℕ) (s : ℕ) → one_of ks s ≡ false → one_of ls s ≡ false → one_of (ks ++ ls) s ≡ false
unfolding one_of
neither [] ls s h g = g
neither (k ∷ ks) ls s h g = go (eqb s k) h (λ f. neither ks ls s f g)
  where
    go : (t : Bool) → (t || one_of ks s) ≡ false → (one_of ks s ≡ false → one_of (ks ++ ls) s ≡ false) → (t || one_of (ks ++ ls) s) ≡ false
    go true e rest = absurd (true≢false e)
    go false e rest = rest e

one_of_two : (j k s : ℕ) → eqb s j ≡ false → eqb s k ≡ false → one_of (j ∷ k ∷ []) s ≡ false
unfolding one_of
one_of_two j k s e f = rw (e, f)

no_rate : (s : ℕ) → one_of (agc_availability ∷ agc_contribution ∷ avc ∷ []) s ≡ false → eqb s frequency_event ≡ false
    → one_of (agc_availability ∷ agc_contribution ∷ frequency_event ∷ avc ∷ []) s ≡ false
unfolding one_of
no_rate s e f = rw f e

-- of the first list, or of the second, or of neither
pick : {P : Type 0} (t u : Bool) → (t ≡ true → P) → (u ≡ true → P) → (t ≡ false → u ≡ false → P) → P
pick true u a b e = a refl
pick false true a b e = b refl
pick false false a b e = e refl refl

none : (n : ℕ) → n ≤ 0 → n ≡ 0
none n h = omega arith

at_none : (n : ℕ) → n ≡ 0 → n ≤ 0
at_none n h = omega arith

-- Start

abbrev windows : List ℕ
windows = deep_peak ∷ reserve ∷ []

abbrev timed : List ℕ
timed = start_stop ∷ standby ∷ frequency_event ∷ stability_trip ∷ []

module _ (c : Call) where
  abbrev StartAt : ℕ → Type 0
  StartAt s = start_fits (limits_of s) c ≡ true

  abbrev OnQuarter : Type 0
  OnQuarter = (c.start % minutes_per_quarter ≡ 0) × (c.start ≤ any_minutes)

  quarter_start : (eqb (c.start % minutes_per_quarter) 0 && leb c.start any_minutes) ≡ true ↔ OnQuarter
  quarter_start = (
    λ h. let p = each _ (leb c.start any_minutes ∷ []) h in (eqb-true _ _ p.0, leb-true _ _ p.1.0),
    λ h. all _ (leb c.start any_minutes ∷ []) (eq-eqb _ _ h.0, (le-leb _ _ h.1, tt)),
  )

  any_start : leb c.start any_minutes ≡ true ↔ (c.start ≤ any_minutes)
  any_start = (leb-true _ _, le-leb _ _)

  no_start : leb c.start 0 ≡ true ↔ (c.start ≡ 0)
  no_start = (λ h. none _ (leb-true _ _ h), λ h. le-leb _ _ (at_none _ h))

  start_windows : (s : ℕ) → one_of windows s ≡ true → StartAt s ↔ OnQuarter
  unfolding start_fits limits_of table
  start_windows s e = of_each (λ s. StartAt s ↔ OnQuarter) windows s (quarter_start, (quarter_start, tt)) e

  start_timed : (s : ℕ) → one_of timed s ≡ true → StartAt s ↔ (c.start ≤ any_minutes)
  unfolding start_fits limits_of table
  start_timed s e = of_each (λ s. StartAt s ↔ (c.start ≤ any_minutes)) timed s (any_start, (any_start, (any_start, (any_start, tt)))) e

  start_others : (s : ℕ) → one_of (windows ++ timed) s ≡ false → StartAt s ↔ (c.start ≡ 0)
  unfolding start_fits limits_of table one_of
  start_others zero e = no_start
  start_others (suc zero) e = absurd (true≢false e)
  start_others (suc (suc zero)) e = absurd (true≢false e)
  start_others (suc (suc (suc zero))) e = absurd (true≢false e)
  start_others (suc (suc (suc (suc zero)))) e = absurd (true≢false e)
  start_others (suc (suc (suc (suc (suc zero))))) e = no_start
  start_others (suc (suc (suc (suc (suc (suc zero)))))) e = no_start
  start_others (suc (suc (suc (suc (suc (suc (suc zero))))))) e = no_start
  start_others (suc (suc (suc (suc (suc (suc (suc (suc zero)))))))) e = absurd (true≢false e)
  start_others (suc (suc (suc (suc (suc (suc (suc (suc (suc zero))))))))) e = no_start
  start_others (suc (suc (suc (suc (suc (suc (suc (suc (suc (suc zero)))))))))) e = absurd (true≢false e)
  start_others (suc (suc (suc (suc (suc (suc (suc (suc (suc (suc (suc s))))))))))) e = no_start

  start_exact : StartAt c.service ↔ StartColumn c
  start_exact = (
    λ h. pick (one_of windows c.service) (one_of timed c.service)
        (λ e. let p = (start_windows _ e).0 h in StartColumn.of_windows e p.0 p.1) (λ e. StartColumn.of_any e ((start_timed _ e).0 h))
        (λ e f. let n = neither windows timed c.service e f in StartColumn.of_others n ((start_others _ n).0 h)),
    back,
  )
    where
      back : StartColumn c → StartAt c.service
      back (StartColumn.of_windows e h k) = (start_windows _ e).1 (h, k)
      back (StartColumn.of_any e h) = (start_timed _ e).1 h
      back (StartColumn.of_others e h) = (start_others _ e).1 h

-- Length

abbrev lasting : List ℕ
lasting = start_stop ∷ standby ∷ []

abbrev free : List ℕ
free = frequency_event ∷ avc ∷ []

abbrev blanks : List ℕ
blanks = 0 ∷ black_start ∷ agc_availability ∷ agc_contribution ∷ stability_trip ∷ []

module _ (c : Call) where
  -- the length's test without the month's end
  abbrev long : Limits → Bool
  long l = (not l.quarters || eqb (c.length % minutes_per_quarter) 0) && leb l.shortest c.length && leb c.length l.longest

  abbrev LongAt : ℕ → Type 0
  LongAt s = long (limits_of s) ≡ true

  abbrev ByQuarters : Type 0
  ByQuarters = (c.length % minutes_per_quarter ≡ 0) × (minutes_per_quarter ≤ c.length) × (c.length ≤ any_minutes)

  abbrev Between : ℕ → ℕ → Type 0
  Between k m = (k ≤ c.length) × (c.length ≤ m)

  quarter_long : (eqb (c.length % minutes_per_quarter) 0 && leb minutes_per_quarter c.length && leb c.length any_minutes) ≡ true ↔ ByQuarters
  quarter_long = (
    λ h. let p = each _ (leb minutes_per_quarter c.length ∷ leb c.length any_minutes ∷ []) h in (eqb-true _ _ p.0, leb-true _ _ p.1.0, leb-true _ _ p.1.1.0),
    λ h. all _ (leb minutes_per_quarter c.length ∷ leb c.length any_minutes ∷ []) (eq-eqb _ _ h.0, (le-leb _ _ h.1, (le-leb _ _ h.2, tt))),
  )

  between : (k m : ℕ) → (leb k c.length && leb c.length m) ≡ true ↔ Between k m
  between k m = (
    λ h. let p = each _ (leb c.length m ∷ []) h in (leb-true _ _ p.0, leb-true _ _ p.1.0),
    λ h. all _ (leb c.length m ∷ []) (le-leb _ _ h.0, (le-leb _ _ h.1, tt)),
  )

  long_windows : (s : ℕ) → one_of windows s ≡ true → LongAt s ↔ ByQuarters
  unfolding limits_of table
  long_windows s e = of_each (λ s. LongAt s ↔ ByQuarters) windows s (quarter_long, (quarter_long, tt)) e

  long_lasting : (s : ℕ) → one_of lasting s ≡ true → LongAt s ↔ Between 1 any_minutes
  unfolding limits_of table
  long_lasting s e = of_each (λ s. LongAt s ↔ Between 1 any_minutes) lasting s (between 1 any_minutes, (between 1 any_minutes, tt)) e

  long_free : (s : ℕ) → one_of free s ≡ true → LongAt s ↔ Between 0 any_minutes
  unfolding limits_of table
  long_free s e = of_each (λ s. LongAt s ↔ Between 0 any_minutes) free s (between 0 any_minutes, (between 0 any_minutes, tt)) e

  long_blanks : (s : ℕ) → one_of blanks s ≡ true → LongAt s ↔ Between 0 0
  unfolding limits_of table
  long_blanks s e = let z = between 0 0 in of_each (λ s. LongAt s ↔ Between 0 0) blanks s (z, (z, (z, (z, (z, tt))))) e

  -- no length will do for a service past 10
  no_long : (s : ℕ) → one_of (windows ++ (lasting ++ (free ++ blanks))) s ≡ false → LongAt s → ⊥
  unfolding limits_of table one_of
  no_long zero e h = absurd (true≢false e)
  no_long (suc zero) e h = absurd (true≢false e)
  no_long (suc (suc zero)) e h = absurd (true≢false e)
  no_long (suc (suc (suc zero))) e h = absurd (true≢false e)
  no_long (suc (suc (suc (suc zero)))) e h = absurd (true≢false e)
  no_long (suc (suc (suc (suc (suc zero))))) e h = absurd (true≢false e)
  no_long (suc (suc (suc (suc (suc (suc zero)))))) e h = absurd (true≢false e)
  no_long (suc (suc (suc (suc (suc (suc (suc zero))))))) e h = absurd (true≢false e)
  no_long (suc (suc (suc (suc (suc (suc (suc (suc zero)))))))) e h = absurd (true≢false e)
  no_long (suc (suc (suc (suc (suc (suc (suc (suc (suc zero))))))))) e h = absurd (true≢false e)
  no_long (suc (suc (suc (suc (suc (suc (suc (suc (suc (suc zero)))))))))) e h = absurd (true≢false e)
  no_long (suc (suc (suc (suc (suc (suc (suc (suc (suc (suc (suc s))))))))))) e h = let p = (between 1 0).0 h in omega arith

  long_exact : LongAt c.service ↔ LengthColumn c
  long_exact = (forth, back)
    where
      forth : LongAt c.service → LengthColumn c
      forth h =
          pick (one_of windows c.service) (one_of lasting c.service)
          (λ e. let p = (long_windows _ e).0 h in LengthColumn.of_windows e p.0 p.1 p.2)
          (λ e. let p = (long_lasting _ e).0 h in LengthColumn.of_minutes e p.0 p.1)
          (λ e f.
          pick (one_of free c.service) (one_of blanks c.service) (λ g. LengthColumn.of_any g ((long_free _ g).0 h).1)
          (λ g. LengthColumn.of_others g (none _ ((long_blanks _ g).0 h).1))
          (λ g k. absurd (no_long _ (neither windows (lasting ++ (free ++ blanks)) c.service e (neither lasting (free ++ blanks) c.service f (neither free blanks c.service g k))) h)))

      back : LengthColumn c → LongAt c.service
      back (LengthColumn.of_windows e h k l) = (long_windows _ e).1 (h, k, l)
      back (LengthColumn.of_minutes e h k) = (long_lasting _ e).1 (h, k)
      back (LengthColumn.of_any e h) = (long_free _ e).1 (zero-le, h)
      back (LengthColumn.of_others e h) = (long_blanks _ e).1 (zero-le, at_none _ h)

  length_exact : (m : ℕ) → length_fits (limits_of c.service) m c ≡ true ↔ (LengthColumn c × (c.start + c.length ≤ m))
  unfolding length_fits
  length_exact m = (
    λ h. let p = each (long (limits_of c.service)) (leb (c.start + c.length) m ∷ []) h in (long_exact.0 p.0, leb-true _ _ p.1.0),
    λ h. all (long (limits_of c.service)) (leb (c.start + c.length) m ∷ []) (long_exact.1 h.0, (le-leb _ _ h.1, tt)),
  )

-- a

abbrev armed : List ℕ
armed = reserve ∷ frequency_event ∷ []

some_a : (a : ℤ) (k : ℕ) → le_z (pos 0) a ≡ true → le_z a (pos k) ≡ true → (n : ℕ) × (a ≡ pos n) × (n ≤ k)
some_a (pos n) k l h = (n, refl, leb-true n k h)
some_a (negsuc n) k l h = absurd (true≢false (sym l))

from_a : {a : ℤ} (n k : ℕ) → a ≡ pos n → n ≤ k → (le_z (pos 0) a ≡ true) × (le_z a (pos k) ≡ true)
from_a n k e h = (ap (λ (z : ℤ). le_z (pos 0) z) e ∙ le-leb 0 n zero-le, ap (λ (z : ℤ). le_z z (pos k)) e ∙ le-leb n k h)

swing : (a : ℤ) → le_z least_moved a ≡ true → le_z a (pos most_moved) ≡ true → nat_abs a ≤ most_moved
swing (pos n) l h = leb-true n most_moved h
swing (negsuc n) l h = let e = leb-true n (most_moved - 1) l in omega arith

from_swing : (a : ℤ) → nat_abs a ≤ most_moved → (le_z least_moved a ≡ true) × (le_z a (pos most_moved) ≡ true)
from_swing (pos n) h = (refl, le-leb n most_moved h)
from_swing (negsuc n) h = let k : suc n ≤ most_moved = h in (le-leb n (most_moved - 1) (omega arith), refl)

module _ (c : Call) where
  abbrev AAt : ℕ → Type 0
  AAt s = a_fits (limits_of s) c ≡ true

  no_a : (le_z (pos 0) c.a && le_z c.a (pos 0)) ≡ true ↔ (c.a ≡ pos 0)
  no_a = (
    λ h. let p = each _ (le_z c.a (pos 0) ∷ []) h in let q = some_a c.a 0 p.0 p.1.0 in q.1 ∙ ap pos (none _ q.2),
    λ h. let p = from_a 0 0 h zero-le in all _ (le_z c.a (pos 0) ∷ []) (p.0, (p.1, tt)),
  )

  a_others : (s : ℕ) → one_of armed s ≡ false → AAt s ↔ (c.a ≡ pos 0)
  unfolding a_fits limits_of table one_of
  a_others zero e = no_a
  a_others (suc zero) e = no_a
  a_others (suc (suc zero)) e = absurd (true≢false e)
  a_others (suc (suc (suc zero))) e = no_a
  a_others (suc (suc (suc (suc zero)))) e = no_a
  a_others (suc (suc (suc (suc (suc zero))))) e = no_a
  a_others (suc (suc (suc (suc (suc (suc zero)))))) e = no_a
  a_others (suc (suc (suc (suc (suc (suc (suc zero))))))) e = no_a
  a_others (suc (suc (suc (suc (suc (suc (suc (suc zero)))))))) e = absurd (true≢false e)
  a_others (suc (suc (suc (suc (suc (suc (suc (suc (suc zero))))))))) e = no_a
  a_others (suc (suc (suc (suc (suc (suc (suc (suc (suc (suc zero)))))))))) e = no_a
  a_others (suc (suc (suc (suc (suc (suc (suc (suc (suc (suc (suc s))))))))))) e = no_a

  a_reserve : (s : ℕ) → s ≡ reserve → AAt s ↔ ((le_z (pos 0) c.a ≡ true) × (le_z c.a (pos most_called) ≡ true))
  unfolding a_fits limits_of table
  a_reserve s e =
      rw e (
        λ h. let p = each _ (le_z c.a (pos most_called) ∷ []) h in (p.0, p.1.0),
        λ h. all _ (le_z c.a (pos most_called) ∷ []) (h.0, (h.1, tt)),
      )

  a_events : (s : ℕ) → s ≡ frequency_event → AAt s ↔ ((le_z least_moved c.a ≡ true) × (le_z c.a (pos most_moved) ≡ true))
  unfolding a_fits limits_of table
  a_events s e =
      rw e (
        λ h. let p = each _ (le_z c.a (pos most_moved) ∷ []) h in (p.0, p.1.0),
        λ h. all _ (le_z c.a (pos most_moved) ∷ []) (h.0, (h.1, tt)),
      )

  a_exact : AAt c.service ↔ AColumn c
  a_exact = (forth, back)
    where
      forth : AAt c.service → AColumn c
      forth h =
          pick (eqb c.service reserve) (eqb c.service frequency_event)
          (λ e. let d = eqb-true _ _ e in let p = (a_reserve _ d).0 h in let q = some_a c.a most_called p.0 p.1 in AColumn.of_reserve d q.0 q.1 q.2)
          (λ e. let d = eqb-true _ _ e in let p = (a_events _ d).0 h in AColumn.of_events d (swing c.a p.0 p.1))
          (λ e f. let n = one_of_two reserve frequency_event c.service e f in AColumn.of_others n ((a_others _ n).0 h))

      back : AColumn c → AAt c.service
      back (AColumn.of_reserve e n f k) = (a_reserve _ e).1 (from_a n most_called f k)
      back (AColumn.of_events e h) = (a_events _ e).1 (from_swing c.a h)
      back (AColumn.of_others e h) = (a_others _ e).1 h

-- b and c

abbrev rated : List ℕ
rated = agc_availability ∷ agc_contribution ∷ avc ∷ []

module _ (c : Call) where
  abbrev BAt : ℕ → Type 0
  BAt s = leb c.b (limits_of s).b ≡ true

  within_b : (k : ℕ) → leb c.b k ≡ true ↔ (c.b ≤ k)
  within_b k = (leb-true _ _, le-leb _ _)

  no_b : leb c.b 0 ≡ true ↔ (c.b ≡ 0)
  no_b = (λ h. none _ (leb-true _ _ h), λ h. le-leb _ _ (at_none _ h))

  b_rated : (s : ℕ) → one_of rated s ≡ true → BAt s ↔ (c.b ≤ most_rate)
  unfolding limits_of table
  b_rated s e = let w = within_b most_rate in of_each (λ s. BAt s ↔ (c.b ≤ most_rate)) rated s (w, (w, (w, tt))) e

  b_events : (s : ℕ) → s ≡ frequency_event → BAt s ↔ (c.b ≤ most_moved)
  unfolding limits_of table
  b_events s e = rw e (within_b most_moved)

  b_others : (s : ℕ) → one_of (agc_availability ∷ agc_contribution ∷ frequency_event ∷ avc ∷ []) s ≡ false → BAt s ↔ (c.b ≡ 0)
  unfolding limits_of table one_of
  b_others zero e = no_b
  b_others (suc zero) e = no_b
  b_others (suc (suc zero)) e = no_b
  b_others (suc (suc (suc zero))) e = no_b
  b_others (suc (suc (suc (suc zero)))) e = no_b
  b_others (suc (suc (suc (suc (suc zero))))) e = no_b
  b_others (suc (suc (suc (suc (suc (suc zero)))))) e = absurd (true≢false e)
  b_others (suc (suc (suc (suc (suc (suc (suc zero))))))) e = absurd (true≢false e)
  b_others (suc (suc (suc (suc (suc (suc (suc (suc zero)))))))) e = absurd (true≢false e)
  b_others (suc (suc (suc (suc (suc (suc (suc (suc (suc zero))))))))) e = absurd (true≢false e)
  b_others (suc (suc (suc (suc (suc (suc (suc (suc (suc (suc zero)))))))))) e = no_b
  b_others (suc (suc (suc (suc (suc (suc (suc (suc (suc (suc (suc s))))))))))) e = no_b

  b_exact : BAt c.service ↔ BColumn c
  b_exact = (forth, back)
    where
      forth : BAt c.service → BColumn c
      forth h =
          pick (one_of rated c.service) (eqb c.service frequency_event) (λ e. BColumn.of_rates e ((b_rated _ e).0 h))
          (λ e. let d = eqb-true _ _ e in BColumn.of_events d ((b_events _ d).0 h))
          (λ e f. let n = no_rate c.service e f in BColumn.of_others n ((b_others _ n).0 h))

      back : BColumn c → BAt c.service
      back (BColumn.of_rates e h) = (b_rated _ e).1 h
      back (BColumn.of_events e h) = (b_events _ e).1 h
      back (BColumn.of_others e h) = (b_others _ e).1 h

  abbrev CAt : ℕ → Type 0
  CAt s = leb c.c (limits_of s).c ≡ true

  within_c : (k : ℕ) → leb c.c k ≡ true ↔ (c.c ≤ k)
  within_c k = (leb-true _ _, le-leb _ _)

  no_c : leb c.c 0 ≡ true ↔ (c.c ≡ 0)
  no_c = (λ h. none _ (leb-true _ _ h), λ h. le-leb _ _ (at_none _ h))

  c_events : (s : ℕ) → s ≡ frequency_event → CAt s ↔ (c.c ≤ 1)
  unfolding limits_of table
  c_events s e = rw e (within_c 1)

  c_rated : (s : ℕ) → s ≡ avc → CAt s ↔ (c.c ≤ most_rate)
  unfolding limits_of table
  c_rated s e = rw e (within_c most_rate)

  c_others : (s : ℕ) → one_of free s ≡ false → CAt s ↔ (c.c ≡ 0)
  unfolding limits_of table one_of
  c_others zero e = no_c
  c_others (suc zero) e = no_c
  c_others (suc (suc zero)) e = no_c
  c_others (suc (suc (suc zero))) e = no_c
  c_others (suc (suc (suc (suc zero)))) e = no_c
  c_others (suc (suc (suc (suc (suc zero))))) e = no_c
  c_others (suc (suc (suc (suc (suc (suc zero)))))) e = no_c
  c_others (suc (suc (suc (suc (suc (suc (suc zero))))))) e = no_c
  c_others (suc (suc (suc (suc (suc (suc (suc (suc zero)))))))) e = absurd (true≢false e)
  c_others (suc (suc (suc (suc (suc (suc (suc (suc (suc zero))))))))) e = absurd (true≢false e)
  c_others (suc (suc (suc (suc (suc (suc (suc (suc (suc (suc zero)))))))))) e = no_c
  c_others (suc (suc (suc (suc (suc (suc (suc (suc (suc (suc (suc s))))))))))) e = no_c

  c_exact : CAt c.service ↔ CColumn c
  c_exact = (forth, back)
    where
      forth : CAt c.service → CColumn c
      forth h =
          pick (eqb c.service frequency_event) (eqb c.service avc) (λ e. let d = eqb-true _ _ e in CColumn.of_events d ((c_events _ d).0 h))
          (λ e. let d = eqb-true _ _ e in CColumn.of_rates d ((c_rated _ d).0 h))
          (λ e f. let n = one_of_two frequency_event avc c.service e f in CColumn.of_others n ((c_others _ n).0 h))

      back : CColumn c → CAt c.service
      back (CColumn.of_rates e h) = (c_rated _ e).1 h
      back (CColumn.of_events e h) = (c_events _ e).1 h
      back (CColumn.of_others e h) = (c_others _ e).1 h

-- Service

service_exact : (c : Call) → service_fits c ≡ true ↔ ServiceColumn c
unfolding service_fits
service_exact c = (forth (ℕ_discrete c.state live), back)
  where
    forth : Dec (c.state ≡ live) → service_fits c ≡ true → ServiceColumn c
    forth (yes d) h =
        let p = each (leb 1 c.service) (leb c.service stability_trip ∷ []) (rw (eq-eqb _ _ d) at h) in
        ServiceColumn.of_live d (leb-true _ _ p.0) (leb-true _ _ p.1.0)
    forth (no d) h = ServiceColumn.of_others d (eqb-true _ _ (rw (ne_eqb _ _ d) at h))

    back : ServiceColumn c → service_fits c ≡ true
    back (ServiceColumn.of_live d h k) = rw (eq-eqb _ _ d) (all (leb 1 c.service) (leb c.service stability_trip ∷ []) (le-leb _ _ h, (le-leb _ _ k, tt)))
    back (ServiceColumn.of_others d h) = rw (ne_eqb _ _ d) (eq-eqb _ _ h)

-- Every field

-- The test of a field holds exactly where the paper's condition does.
pub holds_exact : (m : ℕ) (c : Call) (r : ℕ) (f : Field) → field_fits m c r f ≡ true ↔ FieldHolds m c r f
unfolding field_fits FieldHolds
holds_exact m c r Participant = (
  λ h. let p = each (leb 1 c.participant) (leb c.participant most_participant ∷ []) h in (leb-true _ _ p.0, leb-true _ _ p.1.0),
  λ h. all (leb 1 c.participant) (leb c.participant most_participant ∷ []) (le-leb _ _ h.0, (le-leb _ _ h.1, tt)),
)
holds_exact m c r State = (leb-true _ _, le-leb _ _)
holds_exact m c r Service = service_exact c
holds_exact m c r Revision = (leb-true _ _, le-leb _ _)
holds_exact m c r Start = start_exact c
holds_exact m c r Length = length_exact c m
holds_exact m c r A = a_exact c
holds_exact m c r B = b_exact c
holds_exact m c r C = c_exact c
holds_exact m c r Reserved = (eqb-true _ _, eq-eqb _ _)
