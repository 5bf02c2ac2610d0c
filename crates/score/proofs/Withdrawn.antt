-- A withdrawn call counts for nobody: every member's score is that of the book without it, places behind it one lower. Assumes nothing.
use mathlib.Core.Path.{◌≡◌, refl, sym, ◌∙◌, ap}
use mathlib.Core.Bool.{Bool, true, false, cond, not, ◌&&◌}
use mathlib.Core.List.{List}
use Prim.Native.Nat.{ℕ, suc, ◌≤◌, ◌<◌}
use native.Mathlib.Nat.{le_refl}
use native.Mathlib.Decide.{dec_le, dec_lt, ℕ_discrete}
use native.Mathlib.Omega.{arith}
use lib.Dec.{eqb}
use lib.IntN.{pos}
use lib.ListN.{length}
use borrow.Author.Tests.{ne_eqb}
use Rattle.units.specs.Month.{quarters_of}
use Rattle.call.specs.declared.Call.{Call}
use Rattle.call.specs.Key.{call_key}
use Rattle.call.specs.Revising.{live, contested, withdrawn}
use Rattle.book.specs.declared.Header.{Header}
use Rattle.book.specs.declared.Verdict.{Verdict}
use Rattle.book.specs.Book.{header_at, count_at, record_at}
use Rattle.book.specs.Check.{check}
use Rattle.book.specs.Sound.{Sound}
use Rattle.book.specs.Without.{book_without}
use Rattle.book.proofs.Exact.{sound_accepted}
use Rattle.book.proofs.Without.{without_sound, without_reads, records_left}
use Rattle.pay.specs.declared.Member.{Member}
use Rattle.pay.specs.declared.open.Month.{Month}
use Rattle.pay.specs.Member.{member_is_sound}
use Rattle.pay.specs.Open.{open_to}
use Rattle.score.specs.declared.answer.Earned.{Earned}
use Rattle.score.specs.declared.answer.Earned.TheVariants.{Accepted, Refused}
use Rattle.score.specs.First.{first_nonzero, any_below}
use Rattle.score.specs.Series.{first_too_much, series_fault}
use Rattle.score.specs.Refusing.{clashes, clash_at, number_of, refusal_at}
use Rattle.score.specs.Scoring.{is_own_live, pay_of, wh_of, pay_at, wh_at, month_grains, records_earned, month_at, sound_earned, grains_earned, in_fen, scoring}
use Rattle.score.specs.Lowered.{is_of_record, lowered_earned, lowered}
use Rattle.score.proofs.First.{first_le, first_bad_lem, first_again}
use Rattle.score.proofs.Turns.{series_length, series_value, series_good, refuse_other, refuse_withdrawn, pay_none, wh_none, records_refused, records_sum}
use Rattle.score.proofs.Turns.{fault_in, sound_refused, sound_records, earned_10, earned_sound}
use Rattle.score.proofs.TakenOut.{Out, total_out, total_z_out, any_out, any_same, raised, lower_raised, raised_value, raised_less, first_out, none_out}

-- A withdrawn record: no pay, no energy, no refusal, and it stands against none

and_false : (t : Bool) → (t && false) ≡ false
and_false true = refl
and_false false = refl

module _ (x : Call) (gone : x.state ≡ withdrawn) where
  not_live_lem : eqb x.state live ≡ false
  not_live_lem = ne_eqb x.state live (λ e. omega arith)

  none_live : (m : Member) → is_own_live m x ≡ false
  unfolding is_own_live
  none_live m = rw not_live_lem (and_false (eqb x.participant m.number))

  clash_gone : (number : ℕ) (y : Call) → clashes number y x ≡ false
  unfolding clashes
  clash_gone number y = rw (not_live_lem, and_false (eqb x.participant number)) refl

-- the records `less` are those of a book, n and one more, without record j, which is withdrawn
pub record WithdrawnOut (book less : ℕ → Call) (j n : ℕ) : Type 0 where
  pub fits : j ≤ n
  pub gone : (book j).state ≡ withdrawn
  pub before : (i : ℕ) → i < j → less i ≡ book i
  pub behind : (i : ℕ) → j ≤ i → i < n → less i ≡ book (suc i)

-- a refusal of a record where it stood, lowered
lowered_refused : (j v i : ℕ) → is_of_record v ≡ true → lowered_earned j (Refused v (raised j i)) ≡ Refused v i
unfolding lowered_earned
lowered_refused j v i h = rw (h, lower_raised j i) refl

-- the same record against the same earlier ones
refusal_same : (month : Month) (m : Member) (less book : ℕ → Call) (i k : ℕ) → less i ≡ book k
    → any_below (clash_at m.number (book k) less) i ≡ any_below (clash_at m.number (book k) book) k → refusal_at month m less i ≡ refusal_at month m book k
unfolding refusal_at
refusal_same month m less book i k e h = rw (e, h)

-- a record is refused with 12, 13 or 14
of_record : (month : Month) (m : Member) (book : ℕ → Call) (i : ℕ) → (refusal_at month m book i ≡ 0 → ⊥) → is_of_record (refusal_at month m book i) ≡ true
unfolding refusal_at number_of is_of_record
of_record month m book i h =
    go (eqb (book i).participant m.number) (eqb (book i).state withdrawn) (eqb (book i).state contested)
    (open_to month m (book i)) (any_below (clash_at m.number (book i) book) i) h
  where
    number : Bool → Bool → Bool → Bool → Bool → ℕ
    number t u v w x = cond (not t) 0 (cond u 0 (cond v 14 (cond (not w) 12 (cond x 13 0))))

    go : (t u v w x : Bool) → (number t u v w x ≡ 0 → ⊥) → is_of_record (number t u v w x) ≡ true
    go false u v w x h = absurd (h refl)
    go true true v w x h = absurd (h refl)
    go true false true w x h = refl
    go true false false false x h = refl
    go true false false true true h = refl
    go true false false true false h = absurd (h refl)

module _ (month : Month) (m : Member) (series : List ℕ) (book less : ℕ → Call) (j n : ℕ) (o : WithdrawnOut book less j n) where
  pays : Out (pay_at m series book) (pay_at m series less) 0 j n
  unfolding pay_at
  pays =
      record {
        fits = o.fits;
        at = pay_none m series (book j) (none_live (book j) o.gone m);
        before = λ i l. ap (pay_of m series) (o.before i l);
        behind = λ i l t. ap (pay_of m series) (o.behind i l t);
      }

  energies : Out (wh_at m book) (wh_at m less) (pos 0) j n
  unfolding wh_at
  energies =
      record {
        fits = o.fits;
        at = wh_none m series (book j) (none_live (book j) o.gone m);
        before = λ i l. ap (wh_of m) (o.before i l);
        behind = λ i l t. ap (wh_of m) (o.behind i l t);
      }

  -- those of the first i records that stand against x
  against : (x : Call) (i : ℕ) → j ≤ i → i ≤ n → Out (clash_at m.number x book) (clash_at m.number x less) false j i
  unfolding clash_at
  against x i l t =
      record {
        fits = l;
        at = clash_gone (book j) o.gone m.number x;
        before = λ k h. ap (clashes m.number x) (o.before k h);
        behind = λ k h s. ap (clashes m.number x) (o.behind k h (omega arith));
      }

  refusals : Out (refusal_at month m book) (refusal_at month m less) 0 j n
  refusals = record { fits = o.fits; at = at (ℕ_discrete (book j).participant m.number); before = before; behind = behind }
    where
      at : Dec ((book j).participant ≡ m.number) → refusal_at month m book j ≡ 0
      at (yes p) = refuse_withdrawn month m book j p o.gone
      at (no p) = refuse_other month m book j p

      clash_before_lem : (x : Call) (k : ℕ) → k < j → clash_at m.number x less k ≡ clash_at m.number x book k
      clash_before_lem x k l = (against x j (le_refl j) o.fits).before k l

      before : (i : ℕ) → i < j → refusal_at month m less i ≡ refusal_at month m book i
      before i l =
          refusal_same month m less book i i (o.before i l)
          (any_same (clash_at m.number (book i) book) (clash_at m.number (book i) less) i (λ k h. clash_before_lem (book i) k (omega arith)))

      behind : (i : ℕ) → j ≤ i → i < n → refusal_at month m less i ≡ refusal_at month m book (suc i)
      behind i l t =
          let x = book (suc i) in
          refusal_same month m less book i (suc i) (o.behind i l t)
          (sym (any_out (clash_at m.number x book) (clash_at m.number x less) j i (against x i l (omega arith))))

  grains_same : month_grains m series book (suc n) ≡ month_grains m series less n
  unfolding month_grains
  grains_same =
      rw (total_out (pay_at m series book) (pay_at m series less) j n pays, total_z_out (wh_at m book) (wh_at m less) j n energies) refl

  -- The records' outcome is that of the others, a refusal's place lowered behind record j.
  pub records_lowered : records_earned month m series less n ≡ lowered_earned j (records_earned month m series book (suc n))
  unfolding lowered_earned
  records_lowered = go (dec_le n f)
    where
      u : ℕ → ℕ
      u = refusal_at month m less

      v : ℕ → ℕ
      v = refusal_at month m book

      f : ℕ
      f = first_nonzero u n

      go : Dec (n ≤ f) → records_earned month m series less n ≡ lowered_earned j (records_earned month m series book (suc n))
      go (yes l) =
          let e : f ≡ n = omega (arith, first_le u n) in
          let x = records_sum month m series less n e in
          let y = records_sum month m series book (suc n) (none_out v u j n refusals e) in
          x ∙ ap (λ (g : ℕ). Accepted (record { 0 = g })) (sym grains_same) ∙ sym (ap (lowered_earned j) y)
      go (no l) =
          let t : f < n = omega arith in
          let b = first_bad_lem u n t in
          let e : v (raised j f) ≡ u f = raised_value v u j n refusals f t in
          let x = records_refused month m series less n f t (first_again u n) b in
          let y = records_refused month m series book (suc n) (raised j f) (raised_less j f n t) (first_out v u j n refusals t) (λ z. b (sym e ∙ z)) in
          x ∙ sym (lowered_refused j (u f) f (of_record month m less f b)) ∙ ap (λ (w : ℕ). lowered_earned j (Refused w (raised j f))) (sym e) ∙ sym (ap (lowered_earned j) y)

-- The whole answer

-- 11 is no refusal of a record
eleven : (series : List ℕ) (quarters : ℕ) → ((series_fault series quarters).number ≡ 0 → ⊥) → (series_fault series quarters).number ≡ 11
eleven series quarters h = go (ℕ_discrete (length series) quarters) (dec_lt (first_too_much series) (length series))
  where
    number : {v w : Verdict} → v ≡ w → v.number ≡ w.number
    number e = ap (λ (x : Verdict). x.number) e

    go : Dec (length series ≡ quarters) → Dec (first_too_much series < length series) → (series_fault series quarters).number ≡ 11
    go (no e) d = number (series_length series quarters e)
    go (yes e) (yes l) = number (series_value series quarters e (first_too_much series) refl l)
    go (yes e) (no l) = absurd (h (number (series_good series quarters e (first_too_much series) refl (omega arith))))

stays : (j v p : ℕ) → is_of_record v ≡ false → lowered_earned j (Refused v p) ≡ Refused v p
unfolding lowered_earned
stays j v p h = rw h refl

ten_stays : (j : ℕ) → lowered_earned j (Refused 10 0) ≡ Refused 10 0
unfolding is_of_record
ten_stays j = stays j 10 0 refl

eleven_stays : (j v p : ℕ) → v ≡ 11 → lowered_earned j (Refused v p) ≡ Refused v p
unfolding is_of_record
eleven_stays j v p e = stays j v p (rw e refl)

module _ (b : List ℕ) (sound : Sound b) (j : ℕ) (l : j < count_at b) (gone : (record_at b j).state ≡ withdrawn) where
  abbrev key : ℕ
  key = call_key (record_at b j)

  header_same : header_at (book_without key b) ≡ header_at b
  header_same = (without_reads key b sound).0

  records_out : WithdrawnOut (record_at b) (record_at (book_without key b)) j (count_at (book_without key b))
  records_out =
      let r = records_left b sound j l in
      record { fits = omega (arith, r.fewer); gone = gone; before = r.before; behind = r.behind }

  module _ (m : Member) (series : List ℕ) where
    sound_lowered : sound_earned m (book_without key b) series ≡ lowered_earned j (sound_earned m b series)
    sound_lowered = go (ℕ_discrete (fault_in b series).number 0)
      where
        fault_same : fault_in (book_without key b) series ≡ fault_in b series
        fault_same = ap (λ (h : Header). series_fault series (quarters_of h.year h.month)) header_same

        months : month_at (book_without key b) ≡ month_at b
        months = ap (λ (h : Header). record { year = h.year; month = h.month }) header_same

        go : Dec ((fault_in b series).number ≡ 0) → sound_earned m (book_without key b) series ≡ lowered_earned j (sound_earned m b series)
        go (yes z) =
            sound_records m (book_without key b) series (ap (λ (v : Verdict). v.number) fault_same ∙ z)
            ∙ ap (λ (k : Month). records_earned k m series (record_at (book_without key b)) (count_at (book_without key b))) months
            ∙ records_lowered (month_at b) m series (record_at b) (record_at (book_without key b)) j (count_at (book_without key b)) records_out
            ∙ ap (λ (n : ℕ). lowered_earned j (records_earned (month_at b) m series (record_at b) n)) (sym (records_left b sound j l).fewer)
            ∙ sym (ap (lowered_earned j) (sound_records m b series z))
        go (no z) =
            let f = fault_in b series in
            sound_refused m (book_without key b) series f (sym fault_same) z
            ∙ sym (eleven_stays j f.number f.place (eleven series (quarters_of (header_at b).year (header_at b).month) z))
            ∙ sym (ap (lowered_earned j) (sound_refused m b series f refl z))

    -- A withdrawn call counts for nobody: each member's answer over a sound book is that over the book without it.
    pub withdrawn_nobody : grains_earned m (book_without key b) series ≡ lowered_earned j (grains_earned m b series)
    withdrawn_nobody = go (member_is_sound m) refl
      where
        zero : (a : List ℕ) → Sound a → (check a).number ≡ 0
        zero a s = ap (λ (v : Verdict). v.number) (sound_accepted a s)

        go : (t : Bool) → member_is_sound m ≡ t → grains_earned m (book_without key b) series ≡ lowered_earned j (grains_earned m b series)
        go false e = earned_10 m (book_without key b) series e ∙ sym (ten_stays j) ∙ sym (ap (lowered_earned j) (earned_10 m b series e))
        go true e =
            earned_sound m (book_without key b) series e (zero (book_without key b) (without_sound key b sound)) ∙ sound_lowered
            ∙ sym (ap (lowered_earned j) (earned_sound m b series e (zero b sound)))

    -- And so in fen.
    pub withdrawn_score : scoring m (book_without key b) series ≡ lowered j (scoring m b series)
    unfolding scoring in_fen lowered_earned lowered is_of_record
    withdrawn_score = ap in_fen withdrawn_nobody ∙ same (grains_earned m b series)
      where
        same : (e : Earned) → in_fen (lowered_earned j e) ≡ lowered j (in_fen e)
        same (Accepted g) = refl
        same (Refused v p) = refl
