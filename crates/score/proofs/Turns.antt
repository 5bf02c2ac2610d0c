-- The definitions of a score, case by case. Assumes nothing.
use mathlib.Core.Path.{◌≡◌, refl, ◌∙◌, ap}
use mathlib.Core.Bool.{Bool, true, false, cond, not, ◌&&◌, ◌||◌, true≢false}
use mathlib.Core.List.{List, [], ◌∷◌}
use Prim.Native.Nat.{ℕ, ◌+◌, ◌≤◌, ◌<◌}
use native.Mathlib.Nat.{le_refl, zero-add}
use native.Mathlib.Omega.{arith}
use lib.Dec.{eqb, ltb, leb}
use lib.IntN.{pos}
use lib.ListN.{get_or, length}
use borrow.Author.Tests.{eq-eqb, ne_eqb, lt-ltb, le-ltb, ltb-false, eqb-true, eqb-false, leb-true}
use Rattle.le.proofs.Tests.{each}
use Rattle.call.specs.declared.Call.{Call}
use Rattle.call.specs.Limits.{limits_of, limits_allow, call_is_sound}
use Rattle.call.specs.Revising.{live, contested, withdrawn}
use Rattle.call.specs.Services.{standby}
use Rattle.book.specs.declared.Verdict.{Verdict}
use Rattle.book.specs.Check.{refused, accepted, check}
use Rattle.book.specs.Book.{header_at, count_at, record_at}
use Rattle.units.specs.Month.{quarters_of}
use Rattle.pay.specs.declared.Member.{Member}
use Rattle.pay.specs.declared.open.Month.{Month}
use Rattle.pay.specs.Sum.{total, total_z}
use Rattle.pay.proofs.Sums.{total_same, total_zero, total_z_zero}
use Rattle.pay.specs.Member.{member_is_sound}
use Rattle.pay.specs.Open.{open_to}
use Rattle.pay.specs.Live.{live_pay, live_wh}
use Rattle.score.specs.declared.answer.Earned.{Earned}
use Rattle.score.specs.declared.answer.Earned.TheVariants.{Accepted, Refused}
use Rattle.score.specs.First.{first_nonzero, any_below}
use Rattle.score.specs.Series.{most_output, length_place, too_much, first_too_much, series_fault}
use Rattle.score.specs.Refusing.{overlaps, is_once, clashes, clash_at, own_at, first_own, number_of, refusal_at}
use Rattle.score.specs.Scoring.{is_own_live, pay_of, wh_of, pay_at, wh_at, month_grains, first_refused, records_earned, after, month_at, sound_earned, grains_earned, score_refused, in_fen, scoring}
use Rattle.score.specs.Inner.{NoneBefore}
use Rattle.score.proofs.First.{or_false, first_more, first_hit, first_before, first_of_all, any_zero}

-- a value of the series above the limit, and one within it
pub much_yes : (series : List ℕ) (i : ℕ) → most_output < get_or series i 0 → too_much series i ≡ 0 → ⊥
unfolding too_much
much_yes series i h e = eqb-false 11 0 refl (simp (lt-ltb most_output (get_or series i 0) h) at e)

pub much_not : (series : List ℕ) (i : ℕ) → get_or series i 0 ≤ most_output → too_much series i ≡ 0
unfolding too_much
much_not series i h = simp (le-ltb most_output (get_or series i 0) h)

-- one value more, none of those before above the limit
pub much_none : (series : List ℕ) (i : ℕ) (any : Bool) → (any ≡ false → first_nonzero (too_much series) i ≡ i)
    → (any || ltb most_output (get_or series i 0)) ≡ false → first_nonzero (too_much series) (i + 1) ≡ i + 1
much_none series i any h f =
    let p = or_false any (ltb most_output (get_or series i 0)) f in
    first_more (too_much series) i (h p.0) (much_not series i (ltb-false most_output (get_or series i 0) p.1))

module _ (series : List ℕ) (quarters : ℕ) where
  pub series_length : (length series ≡ quarters → ⊥) → series_fault series quarters ≡ refused 11 length_place
  unfolding series_fault
  series_length h = simp (ne_eqb _ _ h)

  pub series_value : length series ≡ quarters → (at : ℕ) → at ≡ first_too_much series → at < length series → series_fault series quarters ≡ refused 11 at
  unfolding series_fault
  series_value h at f l = simp (eq-eqb _ _ h, ← f, lt-ltb _ _ l)

  pub series_good : length series ≡ quarters → (at : ℕ) → at ≡ first_too_much series → length series ≤ at → series_fault series quarters ≡ accepted
  unfolding series_fault
  series_good h at f l = simp (eq-eqb _ _ h, ← f, le-ltb _ _ l)

  -- no fault: the length is as the month says
  pub series_sound : (series_fault series quarters).number ≡ 0 → length series ≡ quarters
  unfolding series_fault
  series_sound h = go (eqb (length series) quarters) refl h
    where
      rest : Verdict
      rest = cond (ltb (first_too_much series) (length series)) (refused 11 (first_too_much series)) accepted

      go : (t : Bool) → eqb (length series) quarters ≡ t → (cond (not t) (refused 11 length_place) rest).number ≡ 0 → length series ≡ quarters
      go true e h = eqb-true _ _ e
      go false e h = absurd (omega arith)

-- a record of the member, and one of another
pub own_yes : (number : ℕ) (book : ℕ → Call) (i : ℕ) → (book i).participant ≡ number → own_at number book i ≡ 0 → ⊥
unfolding own_at
own_yes number book i h e = eqb-false 1 0 refl (simp (eq-eqb _ _ h) at e)

pub own_not : (number : ℕ) (book : ℕ → Call) (i : ℕ) → ((book i).participant ≡ number → ⊥) → own_at number book i ≡ 0
unfolding own_at
own_not number book i h = simp (ne_eqb _ _ h)

-- no record before the first of the member is the member's
pub before_own : (number : ℕ) (book : ℕ → Call) (count first : ℕ) → first ≡ first_own number book count → NoneBefore number book first
unfolding first_own
before_own number book count first f k l e = own_yes number book k e (first_before (own_at number book) count k (omega arith))

-- another's record stands against none
pub clash_other : (number : ℕ) (x y : Call) → (y.participant ≡ number → ⊥) → clashes number x y ≡ false
unfolding clashes
clash_other number x y h = simp (ne_eqb _ _ h)

-- nor does any stand against a call whose service can't clash
clash_free : (number : ℕ) (x y : Call) → (leb x.service standby || is_once x.service) ≡ false → clashes number x y ≡ false
unfolding clashes
clash_free number x y h = go (leb x.service standby) (is_once x.service) h
  where
    one : Bool
    one = eqb y.participant number && eqb y.state live && eqb y.service x.service

    last : (t : Bool) → (t && false) ≡ false
    last true = refl
    last false = refl

    go : (t u : Bool) → (t || u) ≡ false → (one && (t && overlaps x y || u)) ≡ false
    go true u h = absurd (true≢false h)
    go false true h = absurd (true≢false h)
    go false false h = last one

-- none of the first so many records stands against x
pub none_before : (number : ℕ) (x : Call) (book : ℕ → Call) (n : ℕ) → NoneBefore number book n → any_below (clash_at number x book) n ≡ false
unfolding clash_at
none_before number x book n h = any_zero (clash_at number x book) n (λ k l. clash_other number x (book k) (h k l))

pub none_free : (number : ℕ) (x : Call) (book : ℕ → Call) (n : ℕ) → (leb x.service standby || is_once x.service) ≡ false → any_below (clash_at number x book) n ≡ false
unfolding clash_at
none_free number x book n h = any_zero (clash_at number x book) n (λ k l. clash_free number x (book k) h)

-- a sound record's state is 0, 1 or 2
pub state_low : (minutes : ℕ) (x : Call) → call_is_sound minutes x ≡ true → x.state ≤ withdrawn
unfolding call_is_sound
state_low minutes x h =
    let p = each (leb 1 x.participant) (leb x.participant 64 ∷ leb x.state 2 ∷ leb 1 x.revision
    ∷ (eqb x.state 0 && leb 1 x.service || leb 1 x.state && eqb x.service 0)
    ∷ leb (x.start + x.length) minutes ∷ limits_allow (limits_of x.service) x ∷ []) h in
    leb-true _ _ p.1.1.0

-- Record i
module _ (month : Month) (m : Member) (book : ℕ → Call) (i : ℕ) where
  -- others' records are skipped
  pub refuse_other : ((book i).participant ≡ m.number → ⊥) → refusal_at month m book i ≡ 0
  unfolding refusal_at
  refuse_other p = simp (ne_eqb _ _ p)

  module _ (p : (book i).participant ≡ m.number) where
    pub refuse_withdrawn : (book i).state ≡ withdrawn → refusal_at month m book i ≡ 0
    unfolding refusal_at
    refuse_withdrawn q = simp (eq-eqb _ _ p, q)

    pub refuse_contested : (book i).state ≡ contested → refusal_at month m book i ≡ 14
    unfolding refusal_at
    refuse_contested r = simp (eq-eqb _ _ p, r)

    pub refuse_live : (book i).state ≡ live → (o a : Bool) → o ≡ open_to month m (book i) → a ≡ any_below (clash_at m.number (book i) book) i → refusal_at month m book i ≡ number_of o a
    unfolding refusal_at
    refuse_live s o a d f = simp (eq-eqb _ _ p, s, ← d, ← f)

module _ (m : Member) (series : List ℕ) (x : Call) where
  pub pay_own : is_own_live m x ≡ true → pay_of m series x ≡ live_pay m series x
  unfolding pay_of
  pay_own h = simp h

  pub pay_none : is_own_live m x ≡ false → pay_of m series x ≡ 0
  unfolding pay_of
  pay_none h = simp h

  pub wh_own : is_own_live m x ≡ true → wh_of m x ≡ live_wh m.kind x
  unfolding wh_of
  wh_own h = simp h

  pub wh_none : is_own_live m x ≡ false → wh_of m x ≡ pos 0
  unfolding wh_of
  wh_none h = simp h

module _ (month : Month) (m : Member) (series : List ℕ) (book : ℕ → Call) (count : ℕ) where
  -- the first refusal is the answer
  pub records_refused : (i : ℕ) → i < count → first_nonzero (refusal_at month m book) i ≡ i → (refusal_at month m book i ≡ 0 → ⊥)
      → records_earned month m series book count ≡ Refused (refusal_at month m book i) i
  unfolding records_earned first_refused
  records_refused i h p q = let e = first_hit (refusal_at month m book) i count h p q in simp (e, lt-ltb i count h)

  -- where there is none, the month's grains are
  pub records_sum : first_nonzero (refusal_at month m book) count ≡ count → records_earned month m series book count ≡ Accepted (record { 0 = month_grains m series book count })
  unfolding records_earned first_refused
  records_sum p = simp (p, le-ltb count count (le_refl count))

-- before the member's first record nothing is refused and nothing paid
pub record Skipped (month : Month) (m : Member) (series : List ℕ) (book : ℕ → Call) (n : ℕ) : Type 0 where
  pub refusals : first_nonzero (refusal_at month m book) n ≡ n
  pub pays : total (pay_at m series book) 0 n ≡ 0
  pub energy : total_z (wh_at m book) n ≡ pos 0

not_own : (m : Member) (x : Call) → (x.participant ≡ m.number → ⊥) → is_own_live m x ≡ false
unfolding is_own_live
not_own m x h = simp (ne_eqb _ _ h)

pub pay_other : (m : Member) (series : List ℕ) (book : ℕ → Call) (k : ℕ) → ((book k).participant ≡ m.number → ⊥) → pay_at m series book k ≡ 0
unfolding pay_at pay_of
pay_other m series book k h = simp (not_own m (book k) h)

pub wh_other : (m : Member) (book : ℕ → Call) (k : ℕ) → ((book k).participant ≡ m.number → ⊥) → wh_at m book k ≡ pos 0
unfolding wh_at wh_of
wh_other m book k h = simp (not_own m (book k) h)

pub skipped : (month : Month) (m : Member) (series : List ℕ) (book : ℕ → Call) (n : ℕ) → NoneBefore m.number book n → Skipped month m series book n
skipped month m series book n h =
    record {
      refusals = first_of_all (refusal_at month m book) n (λ k l. refuse_other month m book k (h k l));
      pays = total_same (pay_at m series book) (λ i. 0) 0 n (λ k l. rw zero-add (pay_other m series book k (h k l))) ∙ total_zero 0 n;
      energy = total_z_zero (wh_at m book) n (λ k l. wh_other m book k (h k l));
    }

-- The whole of it

-- what the series lacks in the month of a book
abbrev pub fault_in : List ℕ → List ℕ → Verdict
fault_in b series = series_fault series (quarters_of (header_at b).year (header_at b).month)

after_fault : (f : Verdict) (next : Earned) → (f.number ≡ 0 → ⊥) → after f next ≡ Refused f.number f.place
unfolding after
after_fault f next h = rw (ne_eqb _ _ h) refl

after_none : (f : Verdict) (next : Earned) → f.number ≡ 0 → after f next ≡ next
unfolding after
after_none f next h = rw (eq-eqb _ _ h) refl

module _ (m : Member) (b series : List ℕ) where
  pub sound_refused : (f : Verdict) → f ≡ fault_in b series → (f.number ≡ 0 → ⊥) → sound_earned m b series ≡ Refused f.number f.place
  unfolding sound_earned
  sound_refused f e h = rw (← e) (after_fault f _ h)

  pub sound_records : (fault_in b series).number ≡ 0 → sound_earned m b series ≡ records_earned (month_at b) m series (record_at b) (count_at b)
  unfolding sound_earned
  sound_records h = after_none (fault_in b series) _ h

  pub earned_10 : member_is_sound m ≡ false → grains_earned m b series ≡ Refused 10 0
  unfolding grains_earned
  earned_10 h = simp h

  pub earned_book : member_is_sound m ≡ true → (f : Verdict) → f ≡ check b → (f.number ≡ 0 → ⊥) → grains_earned m b series ≡ Refused f.number f.place
  unfolding grains_earned
  earned_book h f e n = rw (h, ← e) (after_fault f _ n)

  pub earned_sound : member_is_sound m ≡ true → (check b).number ≡ 0 → grains_earned m b series ≡ sound_earned m b series
  unfolding grains_earned
  earned_sound h e = rw h (after_none (check b) _ e)

  -- the score is the same, in fen
  pub score_is : (e : Earned) → grains_earned m b series ≡ e → scoring m b series ≡ in_fen e
  unfolding scoring
  score_is e h = ap in_fen h

  pub score_refused_lem : (v p : ℕ) → grains_earned m b series ≡ Refused v p → scoring m b series ≡ score_refused v p
  unfolding scoring in_fen
  score_refused_lem v p h = ap in_fen h
