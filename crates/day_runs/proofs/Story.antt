-- The first day of the request's first case: what its runs pay together is what the window pays. Assumes nothing.
use mathlib.Core.Path.{◌≡◌, refl, sym, ◌∙◌, ap}
use mathlib.Core.List.{List, [], ◌∷◌}
use Prim.Native.Nat.{ℕ, ◌+◌, ◌≤◌}
use native.Mathlib.Omega.{arith}
use Rattle.units.specs.Month.{is_leap, days_of}
use Rattle.call.specs.Services.{reserve}
use Rattle.book.specs.declared.Header.{Header}
use Rattle.book.specs.Book.{header_at, calls_of}
use Rattle.score.specs.declared.answer.Score.{Score}
use Rattle.score.specs.Scoring.{is_own_live}
use Rattle.reckon.specs.Reckoning.{is_window, windows_of, minute_at, reckoning}
use Rattle.reckon.specs.Cases.{february, coal_of, two_hours, book_of, series_of, paid, rising}
use Rattle.reckon.proofs.Sums.{total_none_of, total_between}
use Rattle.reckon.proofs.OneWindow.{covers_behind}
use Rattle.reckon.proofs.Cases.{reads, reserve_within, rising_walked, rising_reckoned}
use Rattle.day_runs.specs.DayRuns.{Day, day_of, runs_told, runs_pay, last_sum, day_minutes}
use Rattle.day_runs.proofs.Promises.{day_adds_up, last_is_sum}

abbrev book : List ℕ
book = book_of (two_hours reserve 290000)

abbrev series : List ℕ
series = series_of rising

-- February 2026, and the one call
its : (header_at book ≡ february) × (calls_of book ≡ two_hours reserve 290000 ∷ [])
its = reads (two_hours reserve 290000) reserve_within

-- the day with its windows written out
plain : Day
plain = record { member = coal_of 300000; series = series; deep = []; reserves = two_hours reserve 290000 ∷ []; first = 0 }

day_is : day_of (coal_of 300000) book series 1 ≡ plain
unfolding day_of plain windows_of is_window is_own_live coal_of two_hours
day_is = rw its.1 refl

-- its minutes: nothing in service 1, and in service 2 the window's two hours
behind : (i : ℕ) → 0 + 120 ≤ i → minute_at (coal_of 300000) series (two_hours reserve 290000 ∷ []) i ≡ 0
unfolding minute_at two_hours
behind i l = rw (covers_behind (two_hours reserve 290000) i (omega arith)) refl

minutes_are : day_minutes plain ≡ 13650000000
unfolding day_minutes plain minute_at
minutes_are =
    let none = total_none_of (minute_at (coal_of 300000) series []) 0 1440 (λ i l. refl) in
    let all = total_between (minute_at (coal_of 300000) series (two_hours reserve 290000 ∷ [])) 0 120 1440 (omega arith) (λ i l. absurd (omega arith)) behind in
    omega (arith, none, all, rising_walked)

-- the month is accepted, and has that day
accepted : (reckoning (coal_of 300000) book series).number ≡ 0
unfolding paid
accepted = ap (λ (r : Score). r.number) rising_reckoned

days : 28 ≡ days_of (header_at book).year (header_at book).month
unfolding february days_of is_leap
days = sym (ap (λ (h : Header). days_of h.year h.month) its.0)

-- its runs pay that together, and the last line tells it
pub rising_day : runs_pay (runs_told (coal_of 300000) book series 1) ≡ 13650000000
rising_day = day_adds_up (coal_of 300000) book series 1 accepted (rw (← days) refl) ∙ ap day_minutes day_is ∙ minutes_are

pub rising_last : last_sum 0 (runs_told (coal_of 300000) book series 1) ≡ 13650000000
rising_last = last_is_sum (coal_of 300000) book series 1 accepted (rw (← days) refl) ∙ ap day_minutes day_is ∙ minutes_are
