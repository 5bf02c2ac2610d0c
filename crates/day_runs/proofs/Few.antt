-- A day has few runs: each begins with a quarter hour, where windows do. Assumes nothing.
use mathlib.Core.Path.{◌≡◌, refl, sym, ◌∙◌, ap}
use mathlib.Core.Bool.{Bool, true, false, cond, ◌&&◌}
use mathlib.Core.List.{List, [], ◌∷◌}
use Prim.Native.Nat.{ℕ, zero, suc, ◌+◌, ◌-◌, ◌*◌, ◌/◌, ◌%◌, ◌≤◌, ◌<◌}
use native.Mathlib.Decide.{dec_le}
use native.Mathlib.Omega.{arith}
use lib.Dec.{leb}
use lib.ListN.{get_or, length}
use borrow.Author.Tests.{eq-eqb, le-leb, lt-leb}
use Rattle.call.specs.declared.Call.{Call}
use Rattle.call.specs.Limits.{call_is_sound}
use Rattle.book.specs.Book.{record_at, calls_from}
use Rattle.pay.specs.declared.Member.{Member}
use Rattle.pay.specs.Sum.{total}
use Rattle.pay.proofs.Sums.{total_none, total_split}
use Rattle.reckon.specs.Reckoning.{is_window, windows_of, covers, output_at}
use Rattle.reckon.proofs.Sums.{total_none_of}
use Rattle.reckon.proofs.Apart.{AtQuarters, HasWindows, at_quarters, window_of, windows_none, windows_yes, windows_no}
use Rattle.day_runs.specs.DayRuns.{covered_by, is_covered, goes_on, run_begins, Day, places_per_day, begins_at, length_at, pay_at, run_at, runs_from, most_runs}
use Rattle.day_runs.proofs.Goes.{begins_later}
use Rattle.day_runs.proofs.AddUp.{total_first, total_moved, total_pairs}
use Rattle.day_runs.proofs.Slots.{deep_begins, reserve_begins}

-- each window begins and ends at quarter hours
pub data Quartered : List Call → Type 0 where
  none : Quartered []
  more : {x : Call} {windows : List Call} → AtQuarters x → Quartered windows → Quartered (x ∷ windows)

-- those among sound records do
pub sound_quartered : (m : Member) (service minutes : ℕ) (series b : List ℕ) → HasWindows service → (i n : ℕ) → ((k : ℕ) → k < i + n → call_is_sound minutes (record_at b k) ≡ true)
    → Quartered (windows_of m service (calls_from b i n))
sound_quartered m service minutes series b has i zero sound = rw (windows_none m service series b i) none
sound_quartered m service minutes series b has i (suc n) sound =
    go (is_window m service (record_at b i)) refl (sound_quartered m service minutes series b has (suc i) n (λ k l. sound k (omega arith)))
  where
    go : (t : Bool) → is_window m service (record_at b i) ≡ t → Quartered (windows_of m service (calls_from b (suc i) n)) → Quartered (windows_of m service (calls_from b i (suc n)))
    go true e q =
        let w = window_of m service (record_at b i) e in
        rw (windows_yes m service series b i n e) (more (at_quarters minutes (record_at b i) (sound i (omega arith)) (rw w.of_service has.quarters)) q)
    go false e q = rw (windows_no m service series b i n e) q

-- Within a quarter hour nothing changes

leb_same : (a b c d : ℕ) → (a ≤ b → c ≤ d) → (c ≤ d → a ≤ b) → leb a b ≡ leb c d
leb_same a b c d p q = go (dec_le a b)
  where
    go : Dec (a ≤ b) → leb a b ≡ leb c d
    go (yes l) = le-leb a b l ∙ sym (le-leb c d (p l))
    go (no n) = lt-leb a b (omega arith) ∙ sym (lt-leb c d (past (λ l. n (q l))))
      where
        past : (c ≤ d → ⊥) → d < c
        past f = omega arith

module _ (minute : ℕ) (inside : (minute + 1) % 15 ≡ 0 → ⊥) where
  covers_still : (x : Call) → AtQuarters x → covers x minute ≡ covers x (minute + 1)
  unfolding covers
  covers_still x q =
      let s = q.starts in
      let n = q.lasts in
      let a : leb x.start minute ≡ leb x.start (minute + 1) = leb_same x.start minute x.start (minute + 1) (λ l. omega arith) (λ l. begins x.start s l) in
      let e : leb (minute + 1) (x.start + x.length) ≡ leb (minute + 1 + 1) (x.start + x.length) =
      leb_same (minute + 1) (x.start + x.length) (minute + 1 + 1) (x.start + x.length) (λ l. ends (x.start + x.length) (omega arith) l) (λ l. omega arith) in
      rw (a, e) refl
    where
      begins : (s : ℕ) → s % 15 ≡ 0 → s ≤ minute + 1 → s ≤ minute
      begins s d l = go (dec_le s minute)
        where
          go : Dec (s ≤ minute) → s ≤ minute
          go (yes h) = h
          go (no h) = absurd (inside (let e : minute + 1 ≡ s = omega arith in rw e d))

      ends : (e : ℕ) → e % 15 ≡ 0 → minute + 1 ≤ e → minute + 1 + 1 ≤ e
      ends e d l = go (dec_le (minute + 1 + 1) e)
        where
          go : Dec (minute + 1 + 1 ≤ e) → minute + 1 + 1 ≤ e
          go (yes h) = h
          go (no h) = absurd (inside (let f : minute + 1 ≡ e = omega arith in rw f d))

  covered_still : (windows : List Call) → Quartered windows → covered_by windows minute ≡ covered_by windows (minute + 1)
  unfolding covered_by
  covered_still [] q = refl
  covered_still (x ∷ windows) (more q qs) = rw (covers_still x q, covered_still windows qs) refl

  goes_still : (series : List ℕ) (windows : List Call) → Quartered windows → goes_on series windows minute ≡ true
  unfolding goes_on
  goes_still series windows q =
      let d : minute / 15 ≡ (minute + 1) / 15 = quotient minute inside in
      let o : output_at series minute ≡ output_at series (minute + 1) = ap (λ (k : ℕ). get_or series k 0) d in
      rw (eq-eqb (covered_by windows minute) (covered_by windows (minute + 1)) (covered_still windows q), eq-eqb (output_at series minute) (output_at series (minute + 1)) o) refl
    where
      quotient : (n : ℕ) → ((n + 1) % 15 ≡ 0 → ⊥) → n / 15 ≡ (n + 1) / 15
      quotient n h = omega arith

-- One service

unfoldable one : List ℕ → List Call → ℕ → ℕ → ℕ
one series windows first minute = cond (run_begins series windows first minute) 1 0

module _ (series : List ℕ) (windows : List Call) (quartered : Quartered windows) (first : ℕ) (at : first % 15 ≡ 0) where
  abbrev begun : ℕ → ℕ
  begun minute = one series windows first minute

  at_most_one : (minute : ℕ) → begun minute ≤ 1
  unfolding one
  at_most_one minute = go (run_begins series windows first minute)
    where
      go : (t : Bool) → cond t 1 0 ≤ 1
      go true = omega arith
      go false = omega arith

  and_no : (t : Bool) → (t && false) ≡ false
  and_no true = refl
  and_no false = refl

  -- inside a quarter hour none begins
  quiet : (minute : ℕ) → first < minute → (minute % 15 ≡ 0 → ⊥) → begun minute ≡ 0
  unfolding one
  quiet minute l h =
      let e : minute - 1 + 1 ≡ minute = omega arith in
      let g : goes_on series windows (minute - 1) ≡ true = goes_still (minute - 1) (rw e h) series windows quartered in
      rw (begins_later series windows first minute l, g, and_no (is_covered windows minute)) refl

  quarter_few : (q : ℕ) → first ≤ 15 * q → total begun (15 * q) 15 ≤ 1
  quarter_few q l =
      let z = total_none_of begun (suc (15 * q)) 14 (λ i h. quiet (suc (15 * q) + i) (omega arith) (rest q i h)) in
      omega (arith, total_first begun (15 * q) 14, at_most_one (15 * q), z)
    where
      rest : (q i : ℕ) → i < 14 → (suc (15 * q) + i) % 15 ≡ 0 → ⊥
      rest q i h e = omega arith

  quarters_few : (q k : ℕ) → first ≤ 15 * q → total begun (15 * q) (15 * k) ≤ k
  quarters_few q zero l = omega (arith, total_none begun (15 * q))
  quarters_few q (suc k) l =
      let n : 15 * suc k ≡ 15 * k + 15 = omega arith in
      let d : 15 * q + 15 * k ≡ 15 * (q + k) = omega arith in
      let s = total_split begun (15 * q) (15 * k) 15 in
      rw (n, s, d) (omega (arith, quarters_few q k l, quarter_few (q + k) (omega arith)))

  service_few : total begun first 1440 ≤ 96
  service_few =
      let e : 15 * (first / 15) ≡ first = omega arith in
      rw e at (quarters_few (first / 15) 96 (omega arith))

-- Both services

unfoldable one_at : Day → ℕ → ℕ
one_at d place = cond (begins_at d place) 1 0

count_is : (d : Day) (n place sum : ℕ) → length (runs_from d place n sum) ≡ total (one_at d) place n
unfolding runs_from one_at
count_is d zero place sum = sym (total_none (one_at d) place)
count_is d (suc n) place sum = go (begins_at d place) refl (count_is d n (suc place) (sum + length_at d place * pay_at d place)) (count_is d n (suc place) sum) (total_first (one_at d) place n)
  where
    go : (t : Bool) → begins_at d place ≡ t
        → length (runs_from d (suc place) n (sum + length_at d place * pay_at d place)) ≡ total (one_at d) (suc place) n
        → length (runs_from d (suc place) n sum) ≡ total (one_at d) (suc place) n
        → total (one_at d) place (suc n) ≡ one_at d place + total (one_at d) (suc place) n
        → length (cond t (run_at d place sum ∷ runs_from d (suc place) n (sum + length_at d place * pay_at d place)) (runs_from d (suc place) n sum)) ≡ total (one_at d) place (suc n)
    go true e a b f = let o : one_at d place ≡ 1 = rw e refl in omega (arith, a, f, o)
    go false e a b f = let o : one_at d place ≡ 0 = rw e refl in omega (arith, b, f, o)

-- A DAY HAS AT MOST 192 RUNS: a quarter hour begins one of each service at most.
pub day_few : (d : Day) → Quartered d.deep → Quartered d.reserves → d.first % 15 ≡ 0 → length (runs_from d 0 places_per_day 0) ≤ most_runs
unfolding one_at one
day_few d p q at =
    let pairs = total_pairs (one_at d) (λ i. one_at d (2 * i)) (λ i. one_at d (2 * i + 1)) (λ i. refl) (λ i. refl) 1440 in
    let a = total_moved (one d.series d.deep d.first) (λ i. one_at d (2 * i)) d.first 1440 (λ i l. even i) in
    let c = total_moved (one d.series d.reserves d.first) (λ i. one_at d (2 * i + 1)) d.first 1440 (λ i l. uneven i) in
    omega (arith, count_is d places_per_day 0 0, pairs, a, c, service_few d.series d.deep p d.first at, service_few d.series d.reserves q d.first at)
  where
    even : (i : ℕ) → one_at d (2 * i) ≡ one d.series d.deep d.first (d.first + i)
    even i =
        let e : 2 * i / 2 ≡ i = omega arith in
        ap (λ (t : Bool). cond t 1 0) (deep_begins d (2 * i) (omega arith) ∙ ap (λ (k : ℕ). run_begins d.series d.deep d.first (d.first + k)) e)

    uneven : (i : ℕ) → one_at d (2 * i + 1) ≡ one d.series d.reserves d.first (d.first + i)
    uneven i =
        let e : (2 * i + 1) / 2 ≡ i = omega arith in
        ap (λ (t : Bool). cond t 1 0) (reserve_begins d (2 * i + 1) (λ f. odd i f) ∙ ap (λ (k : ℕ). run_begins d.series d.reserves d.first (d.first + k)) e)
      where
        odd : (i : ℕ) → (2 * i + 1) % 2 ≡ 0 → ⊥
        odd i f = omega arith
