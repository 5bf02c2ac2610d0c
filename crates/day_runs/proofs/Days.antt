-- The answer of a day, case by case; what an accepted month gives. Assumes nothing.
use mathlib.Core.Path.{◌≡◌, refl, sym, ◌∙◌, ap}
use mathlib.Core.Bool.{Bool, true, false, ◌&&◌}
use mathlib.Core.List.{List, []}
use Prim.Native.Nat.{ℕ, ◌+◌, ◌-◌, ◌*◌, ◌%◌, ◌≤◌, ◌<◌}
use native.Mathlib.Omega.{arith}
use lib.Dec.{eqb, leb}
use lib.ListN.{length, take}
use borrow.Author.Tests.{eq-eqb, ne_eqb, eqb-true, eqb-false}
use Rattle.units.specs.Month.{days_of}
use Rattle.call.specs.Services.{deep_peak, reserve}
use Rattle.book.specs.Book.{size_of, header_at, count_at, calls_from, calls_of}
use Rattle.book.specs.Check.{accepted, check, header_minutes}
use Rattle.book.proofs.Judged.{zero_accepted}
use Rattle.pay.specs.declared.Member.{Member}
use Rattle.pay.specs.Member.{member_is_sound}
use Rattle.score.specs.declared.answer.Earned.{Earned}
use Rattle.score.specs.declared.answer.Earned.TheVariants.{Refused}
use Rattle.score.specs.Scoring.{after, in_fen}
use Rattle.score.proofs.Checked.{all_sound}
use Rattle.reckon.specs.Reckoning.{windows_of, grains_reckoned, reckoning}
use Rattle.reckon.specs.declared.windows.Windows.{Windows}
use Rattle.reckon.specs.Inner.{Placed, calls_at, Finds}
use Rattle.reckon.proofs.Apart.{deep_peak_has, reserve_has}
use Rattle.reckon.proofs.Places.{calls_there, places_placed}
use Rattle.day_runs.specs.DayRuns.{places_per_day, runs_from, day_of, day_runs, runs_told}
use Rattle.day_runs.specs.Inner.{day_at, FewRuns}
use Rattle.day_runs.proofs.Few.{sound_quartered, day_few}

-- What an accepted month gives

pub fen_number : (e : Earned) (v p : ℕ) → e ≡ Refused v p → (in_fen e).number ≡ v
unfolding in_fen
fen_number e v p h = rw h refl

module _ (m : Member) (b series : List ℕ) (z : (reckoning m b series).number ≡ 0) where
  pub line_good : member_is_sound m ≡ true
  unfolding reckoning grains_reckoned
  line_good = go (member_is_sound m) refl
    where
      go : (t : Bool) → member_is_sound m ≡ t → member_is_sound m ≡ true
      go true e = e
      go false e = absurd (omega (arith, fen_number (grains_reckoned m b series) 10 0 (rw e refl), z))

  pub book_good : check b ≡ accepted
  unfolding reckoning grains_reckoned after
  book_good = go (eqb (check b).number 0) refl
    where
      go : (t : Bool) → eqb (check b).number 0 ≡ t → check b ≡ accepted
      go true e = zero_accepted b (eqb-true (check b).number 0 e)
      go false e = absurd (eqb-false (check b).number 0 e (sym (fen_number (grains_reckoned m b series) (check b).number (check b).place (rw (line_good, e) refl)) ∙ z))

-- The runs that are told

module _ (m : Member) (b series : List ℕ) (day : ℕ) where
  pub told_refused : ((reckoning m b series).number ≡ 0 → ⊥) → runs_told m b series day ≡ []
  unfolding runs_told
  told_refused h = rw (ne_eqb (reckoning m b series).number 0 h) refl

  module _ (z : (reckoning m b series).number ≡ 0) where
    told_accepted : runs_told m b series day ≡ day_runs m b series day
    unfolding runs_told
    told_accepted = rw (eq-eqb (reckoning m b series).number 0 z) refl

    pub told_day : (days : ℕ) → days ≡ days_of (header_at b).year (header_at b).month → (leb 1 day && leb day days) ≡ true
        → runs_told m b series day ≡ runs_from (day_of m b series day) 0 places_per_day 0
    unfolding day_runs
    told_day days e h = told_accepted ∙ rw (← e, h) refl

    pub told_none : (days : ℕ) → days ≡ days_of (header_at b).year (header_at b).month → (leb 1 day && leb day days) ≡ false → runs_told m b series day ≡ []
    unfolding day_runs
    told_none days e h = told_accepted ∙ rw (← e, h) refl

  -- a day of a sound book has few
  pub few_runs : check b ≡ accepted → FewRuns (day_of m b series day)
  unfolding day_of calls_of
  few_runs ok =
      let sound : (k : ℕ) → k < 0 + count_at b → ◌≡◌ {A = Bool} _ true = λ k l. all_sound b ok k (omega arith) in
      day_few (day_of m b series day)
      (sound_quartered m deep_peak (header_minutes (header_at b)) series b deep_peak_has 0 (count_at b) sound)
      (sound_quartered m reserve (header_minutes (header_at b)) series b reserve_has 0 (count_at b) sound)
      (start (day - 1))
    where
      start : (k : ℕ) → k * 1440 % 15 ≡ 0
      start k = omega arith

-- The windows that were found are the member's

module _ (m : Member) (service : ℕ) (b : List ℕ) (n : ℕ) (r : Windows) (found : Finds m service b n r) where
  pub found_calls : n ≡ count_at b → calls_at b (take r.count r.at) ≡ windows_of m service (calls_of b)
  unfolding calls_of
  found_calls e = ap (calls_at b) found.places ∙ calls_there m service b n ∙ ap (λ (k : ℕ). windows_of m service (calls_from b 0 k)) e

  pub found_placed : size_of n ≤ length b → Placed b (take r.count r.at)
  found_placed l = rw found.places (places_placed m service b n l)

-- so that it is the day
pub same_day : (m : Member) (b series p q : List ℕ) (day : ℕ) → calls_at b p ≡ windows_of m deep_peak (calls_of b) → calls_at b q ≡ windows_of m reserve (calls_of b)
    → day_at m b p q series ((day - 1) * 1440) ≡ day_of m b series day
unfolding day_of
same_day m b series p q day e f = rw (e, f) refl
