-- 004's ceiling on AVC over a whole month: a month has one AVC call, and that stays below. Assumes nothing.
use mathlib.Core.Path.{◌≡◌, refl, sym, ◌∙◌}
use mathlib.Core.Bool.{Bool, true, false, cond, ◌&&◌}
use mathlib.Core.List.{List, [], ◌∷◌}
use mathlib.Core.Logic.{inr}
use Prim.Native.Nat.{ℕ, zero, suc, ◌+◌, ◌-◌, ◌*◌, ◌≤◌, ◌<◌}
use native.Mathlib.Nat.{zero-add, not-suc-le-zero}
use native.Mathlib.Decide.{dec_le}
use native.Mathlib.Omega.{arith}
use lib.Dec.{eqb}
use borrow.Author.Tests.{eqb-true}
use Rattle.le.specs.Le.{IsBytes}
use Rattle.le.proofs.Tests.{each}
use Rattle.call.specs.declared.Call.{Call}
use Rattle.call.specs.Revising.{live}
use Rattle.call.specs.Services.{avc}
use Rattle.book.specs.Book.{header_at, count_at, record_at}
use Rattle.book.specs.Check.{header_minutes}
use Rattle.book.proofs.Records.{record_within}
use Rattle.pay.specs.declared.Member.{Member}
use Rattle.pay.specs.declared.open.Month.{Month}
use Rattle.pay.specs.Sum.{total}
use Rattle.pay.specs.Live.{live_pay}
use Rattle.pay.proofs.Sums.{total_same, total_zero}
use Rattle.pay.proofs.Ceiling.{avc_below_ceiling}
use Rattle.score.specs.Scoring.{is_own_live, month_at}
use Rattle.score.specs.Outcomes.{Ready, second, Passes, other, gone, good, Clear}
use Rattle.score.proofs.Checked.{all_sound}

-- the grains of record i where it is the member's live AVC call
unfoldable pub avc_at : Member → List ℕ → (ℕ → Call) → ℕ → ℕ
avc_at m series book i = cond (is_own_live m (book i) && eqb (book i).service avc) (live_pay m series (book i)) 0

-- one term at most is not 0: the sum is at most that term's bound
total_one : (f : ℕ → ℕ) (b n : ℕ) → ((i : ℕ) → i < n → f i ≤ b) → ((i j : ℕ) → i < j → j < n → 0 < f i → 0 < f j → ⊥) → total f 0 n ≤ b
unfolding total
total_one f b zero h d = omega arith
total_one f b (suc n) h d = go (dec_le (f n) 0) (total_one f b n (λ i l. h i (omega arith)) (λ i j l m. d i j l (omega arith)))
  where
    zero_of : (x : ℕ) → (0 < x → ⊥) → x ≡ 0
    zero_of zero p = refl
    zero_of (suc x) p = absurd (p (omega arith))

    go : Dec (f n ≤ 0) → total f 0 n ≤ b → total f 0 n + f (0 + n) ≤ b
    go (yes p) ih = rw zero-add (omega arith)
    go (no p) ih =
        let z : total f 0 n ≡ 0 = total_same f (λ i. 0) 0 n (λ i l. rw zero-add (zero_of (f i) (λ q. d i n l (omega arith) q (omega arith)))) ∙ total_zero 0 n in
        rw zero-add (omega (arith, h n (omega arith)))

-- a live AVC call of the member
record Is (m : Member) (x : Call) : Type 0 where
  own : x.participant ≡ m.number
  is_live : x.state ≡ live
  service : x.service ≡ avc

is_of : (m : Member) (x : Call) → (is_own_live m x && eqb x.service avc) ≡ true → Is m x
unfolding is_own_live
is_of m x h =
    let p = each (eqb x.participant m.number) (eqb x.state live ∷ eqb x.service avc ∷ []) h in
    record { own = eqb-true _ _ p.0; is_live = eqb-true _ _ p.1.0; service = eqb-true _ _ p.1.1.0 }

avc_is : (m : Member) (series : List ℕ) (book : ℕ → Call) (i : ℕ) → 0 < avc_at m series book i → Is m (book i)
unfolding avc_at
avc_is m series book i h = go (is_own_live m (book i) && eqb (book i).service avc) refl h
  where
    go : (t : Bool) → (is_own_live m (book i) && eqb (book i).service avc) ≡ t → 0 < cond t (live_pay m series (book i)) 0 → Is m (book i)
    go true e h = is_of m (book i) e
    go false e h = absurd (not-suc-le-zero h)

-- two of them are against each other
two_clash : (month : Month) (m : Member) (book : ℕ → Call) (i j : ℕ) → i < j → Is m (book i) → Is m (book j) → Passes month m book j → ⊥
two_clash month m book i j l x y (other p) = p y.own
two_clash month m book i j l x y (gone p q) = let z : ◌≡◌ {A = ℕ} 0 2 = sym y.is_live ∙ q in omega arith
two_clash month m book i j l x y (good p q o n) =
    n i l (second (record { own = x.own; live = x.is_live; service = x.service ∙ sym y.service }) (inr (inr (inr y.service))))

module _ (m : Member) (b series : List ℕ) (bytes : IsBytes b) (ready : Ready m b series) where
  one_below : (i : ℕ) → i < count_at b → avc_at m series (record_at b) i ≤ 6000000 * m.rated.0 - 1
  unfolding avc_at header_minutes
  one_below i l = go (is_own_live m (record_at b i) && eqb (record_at b i).service avc) refl
    where
      go : (t : Bool) → (is_own_live m (record_at b i) && eqb (record_at b i).service avc) ≡ t → cond t (live_pay m series (record_at b i)) 0 ≤ 6000000 * m.rated.0 - 1
      go false e = omega arith
      go true e =
          let w = record_within (header_minutes (header_at b)) b bytes i (all_sound b ready.front.book i l) in
          let s = (is_of m (record_at b i) e).service in
          let c = avc_below_ceiling (header_at b).year (header_at b).month m series (record_at b i) w s ready.front.line.rated.0 in
          omega arith

  -- Over a month that is accepted, AVC pays the member below 6,000,000 grains for each kW.
  pub avc_month_below : Clear (month_at b) m (record_at b) (count_at b) → total (avc_at m series (record_at b)) 0 (count_at b) < 6000000 * m.rated.0
  avc_month_below clear =
      let t = total_one (avc_at m series (record_at b)) (6000000 * m.rated.0 - 1) (count_at b) one_below
      (λ i j l k p q. two_clash (month_at b) m (record_at b) i j l (avc_is m series (record_at b) i p) (avc_is m series (record_at b) j q) (clear j k)) in
      omega (arith, ready.front.line.rated.0)
