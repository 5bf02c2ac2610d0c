-- Windows of one service that stand against none cover no minute together, so that each adds its own minutes to the walk. Assumes nothing.
use mathlib.Core.Path.{◌≡◌, refl, sym, ◌∙◌, ap}
use mathlib.Core.Bool.{Bool, true, false, cond, not, ◌&&◌, ◌||◌}
use mathlib.Core.List.{List, [], ◌∷◌}
use Prim.Native.Nat.{ℕ, zero, suc, ◌+◌, ◌%◌, ◌≤◌, ◌<◌}
use native.Mathlib.Nat.{zero-add, add-zero}
use native.Mathlib.Omega.{arith}
use lib.Dec.{eqb, leb}
use lib.Signed.{le_z}
use borrow.Author.Tests.{eq-eqb, eqb-true, lt-ltb, le-leb}
use Rattle.le.proofs.Tests.{each, holds_or_fails, fails}
use Rattle.call.specs.declared.Call.{Call}
use Rattle.call.specs.Limits.{table, limits_of, limits_allow, call_is_sound}
use Rattle.call.specs.Revising.{live}
use Rattle.call.specs.Services.{deep_peak, reserve, standby}
use Rattle.book.specs.Book.{record_at, calls_from}
use Rattle.pay.specs.declared.Member.{Member}
use Rattle.pay.specs.declared.open.Month.{Month}
use Rattle.pay.specs.Sum.{total}
use Rattle.pay.specs.Open.{open_to}
use Rattle.pay.specs.Window.{window_pay}
use Rattle.pay.specs.Event.{called_up}
use Rattle.pay.proofs.Sums.{total_none, total_one, total_split}
use Rattle.pay.proofs.Bounds.{ends_within}
use Rattle.score.specs.First.{any_below}
use Rattle.score.specs.Refusing.{overlaps, clashes, clash_at, number_of, refusal_at}
use Rattle.score.specs.Scoring.{is_own_live}
use Rattle.score.proofs.First.{any_not}
use Rattle.score.proofs.Energy.{own_refusal}
use Rattle.reckon.specs.Reckoning.{is_window, windows_of, covers, minute_at}
use Rattle.reckon.proofs.Sums.{total_plus, total_none_of}
use Rattle.reckon.proofs.OneWindow.{covered, alone, paying, window_walked}

-- what a window is
pub record Window (m : Member) (service : ℕ) (x : Call) : Type 0 where
  pub own : x.participant ≡ m.number
  pub is_live : x.state ≡ live
  pub of_service : x.service ≡ service

pub window_of : (m : Member) (service : ℕ) (x : Call) → is_window m service x ≡ true → Window m service x
unfolding is_window is_own_live
window_of m service x h =
    let p = each (eqb x.participant m.number) (eqb x.state live ∷ eqb x.service service ∷ []) h in
    record { own = eqb-true _ _ p.0; is_live = eqb-true _ _ p.1.0; of_service = eqb-true _ _ p.1.1.0 }

own_live : (m : Member) (x : Call) → x.participant ≡ m.number → x.state ≡ live → is_own_live m x ≡ true
unfolding is_own_live
own_live m x p q = simp (eq-eqb _ _ p, eq-eqb _ _ q)

-- a call that is not refused has no earlier one against it
no_clash : (fit clash : Bool) → number_of fit clash ≡ 0 → clash ≡ false
unfolding number_of
no_clash false clash h = absurd (omega arith)
no_clash true true h = absurd (omega arith)
no_clash true false h = refl

-- services 1 and 2, whose windows begin and end at quarter hours, and may not overlap
pub record HasWindows (service : ℕ) : Type 0 where
  pub quarters : (limits_of service).quarters ≡ true
  pub low : service ≤ standby

pub deep_peak_has : HasWindows deep_peak
unfolding limits_of table
deep_peak_has = record { quarters = refl; low = omega arith }

pub reserve_has : HasWindows reserve
unfolding limits_of table
reserve_has = record { quarters = refl; low = omega arith }

-- a sound window begins and ends at quarter hours
pub record AtQuarters (x : Call) : Type 0 where
  pub starts : x.start % 15 ≡ 0
  pub lasts : x.length % 15 ≡ 0

pub at_quarters : (minutes : ℕ) (x : Call) → call_is_sound minutes x ≡ true → (limits_of x.service).quarters ≡ true → AtQuarters x
unfolding call_is_sound limits_allow
at_quarters minutes x h q =
    let l = limits_of x.service in
    let p = each (leb 1 x.participant) (leb x.participant 64 ∷ leb x.state 2 ∷ leb 1 x.revision
    ∷ (eqb x.state 0 && leb 1 x.service || leb 1 x.state && eqb x.service 0)
    ∷ leb (x.start + x.length) minutes ∷ limits_allow l x ∷ []) h in
    let r = each (not l.quarters || eqb (x.start % 15) 0 && eqb (x.length % 15) 0)
    (leb x.start l.latest ∷ leb l.shortest x.length ∷ leb x.length l.longest
    ∷ le_z l.low x.a ∷ le_z x.a l.high ∷ leb x.b l.b ∷ leb x.c l.c ∷ []) p.1.1.1.1.1.1.0 in
    let t = each (eqb (x.start % 15) 0) (eqb (x.length % 15) 0 ∷ []) (rw q at r.0) in
    record { starts = eqb-true _ _ t.0; lasts = eqb-true _ _ t.1.0 }

module _ (month : Month) (m : Member) (service : ℕ) (has : HasWindows service) where
  clash_of : (x y : Call) → Window m service x → Window m service y → overlaps x y ≡ true → clashes m.number x y ≡ true
  unfolding clashes
  clash_of x y v w o =
      simp (eq-eqb _ _ w.own, eq-eqb _ _ w.is_live, eq-eqb y.service x.service (w.of_service ∙ sym v.of_service), le-leb x.service standby (rw v.of_service has.low), o)

  overlap_of : (x y : Call) (minute : ℕ) → covers x minute ≡ true → covers y minute ≡ true → overlaps x y ≡ true
  unfolding overlaps
  overlap_of x y minute h k =
      let p = covered x minute h in
      let q = covered y minute k in
      simp (lt-ltb x.start (y.start + y.length) (omega arith), lt-ltb y.start (x.start + x.length) (omega arith))

  -- two windows, the later one not refused, cover no minute together
  apart : (book : ℕ → Call) (j k : ℕ) → j < k → is_window m service (book j) ≡ true → is_window m service (book k) ≡ true → refusal_at month m book k ≡ 0
      → (minute : ℕ) → covers (book j) minute ≡ true → covers (book k) minute ≡ false
  unfolding clash_at
  apart book j k l wj wk r minute h = fails (covers (book k) minute) (λ g. g) never
    where
      never : covers (book k) minute ≡ true → ⊥
      never g =
          let v = window_of m service (book k) wk in
          let w = window_of m service (book j) wj in
          let n = own_refusal month m book k (own_live m (book k) v.own v.is_live) (open_to month m (book k)) (any_below (clash_at m.number (book k) book) k) refl refl in
          let f = any_not (clash_at m.number (book k) book) k (no_clash _ _ (sym n ∙ r)) j l in
          holds_or_fails (clash_of (book k) (book j) v w (overlap_of (book k) (book j) minute g h)) f

-- what the first way pays for record i where it is such a window
unfoldable pub window_at : Member → ℕ → List ℕ → (ℕ → Call) → ℕ → ℕ
window_at m service series book i = cond (is_window m service (book i)) (window_pay m (book i).service (called_up (book i).a) series (book i).start (book i).length) 0

module _ (m : Member) (service : ℕ) (series b : List ℕ) where
  abbrev book : ℕ → Call
  book = record_at b

  abbrev from : ℕ → ℕ → List Call
  from i n = windows_of m service (calls_from b i n)

  pub windows_none : (i : ℕ) → from i 0 ≡ []
  unfolding windows_of calls_from
  windows_none i = refl

  pub windows_yes : (i n : ℕ) → is_window m service (book i) ≡ true → from i (suc n) ≡ book i ∷ from (suc i) n
  unfolding windows_of calls_from
  windows_yes i n h = rw h refl

  pub windows_no : (i n : ℕ) → is_window m service (book i) ≡ false → from i (suc n) ≡ from (suc i) n
  unfolding windows_of calls_from
  windows_no i n h = rw h refl

  -- a minute that none of the windows covers pays nothing
  missed : (minute i n : ℕ) → ((k : ℕ) → i ≤ k → k < i + n → is_window m service (book k) ≡ true → covers (book k) minute ≡ false) → minute_at m series (from i n) minute ≡ 0
  unfolding minute_at
  missed minute i zero h = rw (windows_none i) refl
  missed minute i (suc n) h = go (is_window m service (book i)) refl (missed minute (suc i) n (λ k l u. h k (omega arith) (omega arith)))
    where
      go : (t : Bool) → is_window m service (book i) ≡ t → minute_at m series (from (suc i) n) minute ≡ 0 → minute_at m series (from i (suc n)) minute ≡ 0
      go true e ih = rw (windows_yes i n e, h i (omega arith) (omega arith) e) ih
      go false e ih = rw (windows_no i n e) ih

  window_at_yes : (i : ℕ) → is_window m service (book i) ≡ true → window_at m service series book i ≡ window_pay m (book i).service (called_up (book i).a) series (book i).start (book i).length
  unfolding window_at
  window_at_yes i h = rw h refl

  window_at_no : (i : ℕ) → is_window m service (book i) ≡ false → window_at m service series book i ≡ 0
  unfolding window_at
  window_at_no i h = rw h refl

  -- the first window's minutes and the others'
  one_more : (x : Call) (windows : List Call) → ((minute : ℕ) → covers x minute ≡ true → minute_at m series windows minute ≡ 0)
      → (minute : ℕ) → minute_at m series (x ∷ windows) minute ≡ alone m series x minute + minute_at m series windows minute
  unfolding minute_at alone paying
  one_more x windows h minute = go (covers x minute) refl
    where
      go : (t : Bool) → covers x minute ≡ t → cond t (paying m series x minute) (minute_at m series windows minute) ≡ cond t (paying m series x minute) 0 + minute_at m series windows minute
      go true e = rw (h minute e) (sym (add-zero (paying m series x minute)))
      go false e = sym (zero-add (minute_at m series windows minute))

  module _ (month : Month) (minutes : ℕ) (has : HasWindows service) where
    -- THE WALK OF A SERVICE IS THE SUM OF ITS WINDOWS THE FIRST WAY: each is sound, and none is refused.
    pub service_walked : (i n : ℕ) → ((k : ℕ) → k < i + n → call_is_sound minutes (book k) ≡ true) → ((k : ℕ) → k < i + n → refusal_at month m book k ≡ 0)
        → total (minute_at m series (from i n)) 0 minutes ≡ total (window_at m service series book) i n
    unfolding minute_at
    service_walked i zero sound clear = rw (windows_none i) (total_none_of (minute_at m series []) 0 minutes (λ k l. refl) ∙ sym (total_none (window_at m service series book) i))
    service_walked i (suc n) sound clear =
        go (is_window m service (book i)) refl (service_walked (suc i) n (λ k l. sound k (omega arith)) (λ k l. clear k (omega arith)))
      where
        first : total (window_at m service series book) i (suc n) ≡ window_at m service series book i + total (window_at m service series book) (suc i) n
        first =
            let e : suc n ≡ 1 + n = omega arith in
            let d : i + 1 ≡ suc i = omega arith in
            ap (total (window_at m service series book) i) e ∙ total_split (window_at m service series book) i 1 n ∙ rw (d, total_one (window_at m service series book) i) refl

        go : (t : Bool) → is_window m service (book i) ≡ t → total (minute_at m series (from (suc i) n)) 0 minutes ≡ total (window_at m service series book) (suc i) n
            → total (minute_at m series (from i (suc n))) 0 minutes ≡ total (window_at m service series book) i (suc n)
        go false e ih = rw (windows_no i n e) (ih ∙ sym (first ∙ rw (window_at_no i e) (zero-add _)))
        go true e ih =
            let s = sound i (omega arith) in
            let w = window_of m service (book i) e in
            let q = at_quarters minutes (book i) s (rw w.of_service has.quarters) in
            let miss : (minute : ℕ) → covers (book i) minute ≡ true → minute_at m series (from (suc i) n) minute ≡ 0 =
            λ minute h. missed minute (suc i) n (λ k l u v. apart month m service has book i k (omega arith) e v (clear k (omega arith)) minute h) in
            let sum = total_plus (alone m series (book i)) (minute_at m series (from (suc i) n)) (minute_at m series (book i ∷ from (suc i) n)) (one_more (book i) (from (suc i) n) miss) 0 minutes in
            let own = window_walked m series (book i) minutes q.starts q.lasts (ends_within minutes (book i) s) in
            rw (windows_yes i n e) (omega (arith, sum, own, ih, first, window_at_yes i e))
