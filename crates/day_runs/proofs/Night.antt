-- A window over midnight: the runs of the day before it, of the day behind it, and of the day after that. Assumes nothing.
use mathlib.Core.Path.{◌≡◌, refl, sym, ◌∙◌, ap}
use mathlib.Core.Bool.{Bool, true, false, ◌&&◌}
use mathlib.Core.List.{List, [], ◌∷◌}
use Prim.Native.Nat.{ℕ, zero, suc, ◌+◌, ◌-◌, ◌*◌, ◌/◌, ◌%◌, ◌≤◌, ◌<◌}
use native.Mathlib.Nat.{zero-add, add-zero}
use native.Mathlib.Decide.{dec_lt, ℕ_discrete}
use native.Mathlib.Omega.{arith}
use Rattle.units.specs.Month.{is_leap, days_of}
use Rattle.call.specs.declared.Call.{Call}
use Rattle.book.specs.declared.Header.{Header}
use Rattle.book.specs.Book.{header_at, calls_of}
use Rattle.pay.specs.Window.{lacking, deep_peak_minute, minute_pay}
use Rattle.pay.specs.Event.{clamp}
use Rattle.score.specs.declared.answer.Score.{Score}
use Rattle.score.specs.Scoring.{is_own_live}
use Rattle.reckon.specs.Reckoning.{is_window, windows_of, covers, window_minute, minute_at, reckoning}
use Rattle.reckon.specs.Cases.{february, coal_of, book_of, paid, over_midnight, even}
use Rattle.reckon.proofs.OneWindow.{covers_in, covers_before, covers_behind}
use Rattle.reckon.proofs.Cases.{reads, night_within, even_at, night_reckoned}
use Rattle.day_runs.specs.DayRuns.{covered_by, is_covered, call_over, goes_on, run_begins, run_length}
use Rattle.day_runs.specs.DayRuns.{Day, places_per_day, minute_of, is_deep, windows_at, begins_at, length_at, pay_at, run_at, runs_from, day_of, runs_told}
use Rattle.day_runs.specs.Cases.{hour_before, hour_behind}
use Rattle.day_runs.proofs.Goes.{begins_later, length_on, length_ends}
use Rattle.day_runs.proofs.Slots.{deep_begins, reserve_begins}
use Rattle.day_runs.proofs.Days.{told_day}
use Rattle.day_runs.proofs.Promises.{from_yes, from_no}

abbrev book : List ℕ
book = book_of over_midnight

abbrev windows : List Call
windows = over_midnight ∷ []

-- February 2026, and the one call
its : (header_at book ≡ february) × (calls_of book ≡ windows)
its = reads over_midnight night_within

-- The minutes of the window

covered : (minute : ℕ) → 1380 ≤ minute → minute < 1500 → covered_by windows minute ≡ 0
unfolding covered_by over_midnight
covered minute l h = rw (covers_in over_midnight minute l h) refl

before : (minute : ℕ) → minute < 1380 → covered_by windows minute ≡ 1
unfolding covered_by over_midnight
before minute l = rw (covers_before over_midnight minute l) refl

behind : (minute : ℕ) → 1500 ≤ minute → covered_by windows minute ≡ 1
unfolding covered_by over_midnight
behind minute l = rw (covers_behind over_midnight minute l) refl

not_covered : (minute : ℕ) → covered_by windows minute ≡ 1 → is_covered windows minute ≡ false
unfolding is_covered
not_covered minute e = rw e refl

-- within the window each minute goes on with the one before it
goes : (minute : ℕ) → 1380 ≤ minute → minute + 1 < 1500 → goes_on even windows minute ≡ true
unfolding goes_on
goes minute l h = rw (covered minute l (omega arith), covered (minute + 1) (omega arith) h, even_at (minute / 15) (omega arith), even_at ((minute + 1) / 15) (omega arith)) refl

-- behind its last minute it does not
stops : goes_on even windows 1499 ≡ false
unfolding goes_on
stops = rw (covered 1499 (omega arith) (omega arith), behind 1500 (omega arith)) refl

and_no : (t : Bool) → (t && false) ≡ false
and_no true = refl
and_no false = refl

-- so no run begins but with its first minute, and with the day's
none_begins : (first minute : ℕ) → first < minute → (minute ≡ 1380 → ⊥) → run_begins even windows first minute ≡ false
none_begins first minute l n = go (dec_lt minute 1380) (dec_lt minute 1500)
  where
    go : Dec (minute < 1380) → Dec (minute < 1500) → run_begins even windows first minute ≡ false
    go (yes h) d = begins_later even windows first minute l ∙ rw (not_covered minute (before minute h)) refl
    go (no h) (no k) = begins_later even windows first minute l ∙ rw (not_covered minute (behind minute (omega arith))) refl
    go (no h) (yes k) = begins_later even windows first minute l ∙ rw (goes (minute - 1) (least n) (omega arith)) (and_no (is_covered windows minute))
      where
        least : (minute ≡ 1380 → ⊥) → 1380 ≤ minute - 1
        least n = omega (arith, n)

-- The first two days, and the third

module _ (first : ℕ) where
  -- the day that begins with a minute, its windows written out
  abbrev day : Day
  day = record { member = coal_of 300000; series = even; deep = windows; reserves = []; first = first }

  -- no run of service 2
  no_reserve : (minute : ℕ) → run_begins even [] first minute ≡ false
  unfolding run_begins is_covered covered_by
  no_reserve minute = refl

  -- no run begins at a place that is none of the window's first minute, and not the day's first
  none_at : (place : ℕ) → 0 < place → (place % 2 ≡ 0 → first + place / 2 ≡ 1380 → ⊥) → begins_at day place ≡ false
  none_at place l n = go (ℕ_discrete (place % 2) 0)
    where
      go : Dec (place % 2 ≡ 0) → begins_at day place ≡ false
      go (yes e) = deep_begins day place e ∙ none_begins first (first + place / 2) (omega arith) (n e)
      go (no e) = reserve_begins day place e ∙ no_reserve (first + place / 2)

  -- and so none from such a place on
  none_from : (n place sum : ℕ) → ((k : ℕ) → place ≤ k → k < place + n → begins_at day k ≡ false) → runs_from day place n sum ≡ []
  unfolding runs_from
  none_from zero place sum h = refl
  none_from (suc n) place sum h = rw (h place (omega arith) (omega arith)) (none_from n (suc place) sum (λ k l u. h k (omega arith) (omega arith)))

  -- none up to one
  none_upto : (n rest place sum : ℕ) → ((k : ℕ) → place ≤ k → k < place + n → begins_at day k ≡ false) → runs_from day place (n + rest) sum ≡ runs_from day (place + n) rest sum
  unfolding runs_from
  none_upto zero rest place sum h = rw (add-zero place, zero-add rest) refl
  none_upto (suc n) rest place sum h =
      let e : suc n + rest ≡ suc (n + rest) = omega arith in
      let d : suc place + n ≡ place + suc n = omega arith in
      rw (e, h place (omega arith) (omega arith), ← d) (none_upto n rest (suc place) sum (λ k l u. h k (omega arith) (omega arith)))

-- the day of a book is that
day_is : (n : ℕ) → day_of (coal_of 300000) book even (1 + n) ≡ day (n * 1440)
unfolding day_of windows_of is_window is_own_live coal_of over_midnight
day_is n = let e : 1 + n - 1 ≡ n = omega arith in rw (its.1, e) refl

-- how long a run is: so many minutes go on
runs_on : (k left minute : ℕ) → ((i : ℕ) → i < k → goes_on even windows (minute + i) ≡ true) → run_length even windows minute (k + left) ≡ k + run_length even windows (minute + k) left
runs_on zero left minute h = rw (zero-add left, add-zero minute, zero-add (run_length even windows minute left)) refl
runs_on (suc k) left minute h =
    let e : suc k + left ≡ suc (k + left) = omega arith in
    let d : suc minute + k ≡ minute + suc k = omega arith in
    let on : goes_on even windows minute ≡ true = rw (add-zero minute) at (h 0 (omega arith)) in
    let more : (i : ℕ) → i < k → goes_on even windows (suc minute + i) ≡ true = λ i l. let f : minute + suc i ≡ suc minute + i = omega arith in rw f at (h (suc i) (omega arith)) in
    rw e (length_on even windows minute (k + left) on ∙ omega (arith, ap (λ (j : ℕ). run_length even windows j left) d, runs_on k left (suc minute) more))

-- Day 1: one run, up to midnight

first_long : length_at (day 0) 2760 ≡ 60
unfolding length_at windows_at is_deep minute_of run_length
first_long = runs_on 60 0 1380 (λ i l. goes (1380 + i) (omega arith) (omega arith))

first_pays : pay_at (day 0) 2760 ≡ 300000000
unfolding pay_at windows_at is_deep minute_of minute_at covers window_minute minute_pay deep_peak_minute lacking clamp coal_of over_midnight even
first_pays = refl

first_run : run_at (day 0) 2760 0 ≡ hour_before
unfolding run_at hour_before windows_at is_deep minute_of call_over covers over_midnight even
first_run = rw (first_long, first_pays) refl

first_begins : begins_at (day 0) 2760 ≡ true
unfolding begins_at windows_at is_deep minute_of run_begins is_covered covered_by goes_on covers over_midnight
first_begins = refl

first_none : begins_at (day 0) 0 ≡ false
unfolding begins_at windows_at is_deep minute_of run_begins is_covered covered_by covers over_midnight
first_none = refl

first_day : runs_from (day 0) 0 places_per_day 0 ≡ hour_before ∷ []
first_day =
    none_upto 0 2760 120 0 0 (λ k l u. up k u (ℕ_discrete k 0))
    ∙ from_yes (day 0) 119 2760 0 first_begins
    ∙ rw (first_run, none_from 0 119 2761 _ (λ k l u. none_at 0 k (omega arith) (λ e f. omega arith))) refl
  where
    up : (k : ℕ) → k < 0 + 2760 → Dec (k ≡ 0) → begins_at (day 0) k ≡ false
    up k u (yes e) = rw e first_none
    up k u (no e) = none_at 0 k (omega (arith, e)) (λ _ f. omega arith)

-- Day 2: one run, from midnight on

second_long : length_at (day 1440) 0 ≡ 60
unfolding length_at windows_at is_deep minute_of
second_long = runs_on 59 1381 1440 (λ i l. goes (1440 + i) (omega arith) (omega arith)) ∙ ap (λ (k : ℕ). 59 + k) (length_ends even windows 1499 1380 stops)

second_pays : pay_at (day 1440) 0 ≡ 300000000
unfolding pay_at windows_at is_deep minute_of minute_at covers window_minute minute_pay deep_peak_minute lacking clamp coal_of over_midnight even
second_pays = refl

second_run : run_at (day 1440) 0 0 ≡ hour_behind
unfolding run_at hour_behind windows_at is_deep minute_of call_over covers over_midnight even
second_run = rw (second_long, second_pays) refl

second_begins : begins_at (day 1440) 0 ≡ true
unfolding begins_at windows_at is_deep minute_of run_begins is_covered covered_by covers over_midnight
second_begins = refl

second_day : runs_from (day 1440) 0 places_per_day 0 ≡ hour_behind ∷ []
second_day = from_yes (day 1440) 2879 0 0 second_begins ∙ rw (second_run, none_from 1440 2879 1 _ (λ k l u. none_at 1440 k (omega arith) (λ e f. omega arith))) refl

-- Day 3: none

third_none : begins_at (day 2880) 0 ≡ false
unfolding begins_at windows_at is_deep minute_of run_begins is_covered covered_by covers over_midnight
third_none = refl

third_day : runs_from (day 2880) 0 places_per_day 0 ≡ []
third_day = from_no (day 2880) 2879 0 0 third_none ∙ none_from 2880 2879 1 0 (λ k l u. none_at 2880 k (omega arith) (λ e f. omega arith))

-- The month is accepted, and has those days

accepted : (reckoning (coal_of 300000) book even).number ≡ 0
unfolding paid
accepted = ap (λ (r : Score). r.number) night_reckoned

days : 28 ≡ days_of (header_at book).year (header_at book).month
unfolding february days_of is_leap
days = sym (ap (λ (h : Header). days_of h.year h.month) its.0)

-- THE DAY BEFORE MIDNIGHT, THE DAY BEHIND IT, AND THE DAY AFTER THAT, run by run.
pub night_first : runs_told (coal_of 300000) book even 1 ≡ hour_before ∷ []
night_first = told_day (coal_of 300000) book even 1 accepted 28 days refl ∙ ap (λ (d : Day). runs_from d 0 places_per_day 0) (day_is 0) ∙ first_day

pub night_second : runs_told (coal_of 300000) book even 2 ≡ hour_behind ∷ []
night_second = told_day (coal_of 300000) book even 2 accepted 28 days refl ∙ ap (λ (d : Day). runs_from d 0 places_per_day 0) (day_is 1) ∙ second_day

pub night_third : runs_told (coal_of 300000) book even 3 ≡ []
night_third = told_day (coal_of 300000) book even 3 accepted 28 days refl ∙ ap (λ (d : Day). runs_from d 0 places_per_day 0) (day_is 2) ∙ third_day
