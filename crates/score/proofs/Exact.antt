-- Scoring is determined; each refusal comes exactly under its condition; fen come from the month's grains, once. Assumes nothing.
use mathlib.Core.Path.{◌≡◌, refl, sym, ◌∙◌, ap}
use mathlib.Core.Bool.{Bool, true, false, ◌&&◌, ◌||◌, true≢false}
use mathlib.Core.List.{List, [], ◌∷◌}
use mathlib.Core.Logic.{◌⊎◌, inl, inr, ⊎_elim, ◌↔◌}
use Prim.Native.Nat.{ℕ, zero, suc, ◌+◌, ◌≤◌, ◌<◌}
use native.Mathlib.Decide.{dec_lt, ℕ_discrete}
use native.Mathlib.Omega.{arith}
use lib.Dec.{eqb, ltb, leb}
use lib.ListN.{get_or, length}
use borrow.Author.Tests.{eq-eqb, lt-ltb, le-leb, eqb-true, leb-true, ltb-true}
use Rattle.le.proofs.Tests.{each, all, holds_or_fails}
use Rattle.units.specs.Money.{grains_to_fen}
use Rattle.units.specs.Month.{quarters_of}
use Rattle.call.specs.declared.Call.{Call}
use Rattle.call.specs.Revising.{live, contested, withdrawn}
use Rattle.call.specs.Services.{standby, black_start, agc_availability, agc_contribution, avc}
use Rattle.book.specs.declared.Verdict.{Verdict}
use Rattle.book.specs.Book.{header_at, count_at, record_at}
use Rattle.book.specs.Check.{refused, accepted, check, header_minutes}
use Rattle.pay.specs.declared.Member.{Member}
use Rattle.pay.specs.declared.open.Month.{Month}
use Rattle.pay.specs.Member.{member_is_sound, MemberWithin}
use Rattle.pay.specs.Open.{open_to}
use Rattle.pay.proofs.Within.{line_of, of_line_lem}
use Rattle.score.specs.declared.answer.Score.{Score}
use Rattle.score.specs.declared.answer.Earned.{Earned}
use Rattle.score.specs.declared.answer.Earned.TheVariants.{Accepted, Refused}
use Rattle.score.specs.First.{first_nonzero, any_below}
use Rattle.score.specs.Series.{most_output, length_place, too_much, first_too_much, series_fault}
use Rattle.score.specs.Refusing.{overlaps, is_once, clashes, clash_at, number_of, refusal_at}
use Rattle.score.specs.Scoring.{month_grains, records_earned, month_at, sound_earned, grains_earned, score_refused, in_fen, scoring}
use Rattle.score.specs.Outcomes.{LineAndBook, Spans, Ready, OfOneService, Against, shares_minute, second, Passes, other, gone, good, Clear, RecordsTurn, ScoreOutcome}
use Rattle.score.specs.Outcomes.{bad_line_lem, bad_book, bad_length, bad_value, is_contested_lem, not_open_lem, stands_against_lem, scored}
use Rattle.score.proofs.First.{first_le, first_bad_lem, first_before, first_all, first_of_all, first_hit, first_again, any_suc, any_none, any_not, any_hit, any_zero}
use Rattle.book.proofs.Judged.{zero_accepted}
use Rattle.score.proofs.Checked.{all_sound}
use Rattle.score.proofs.Turns.{much_not, much_yes, series_length, series_value, series_good, refuse_other, refuse_withdrawn, refuse_contested, refuse_live, records_refused}
use Rattle.score.proofs.Turns.{records_sum, fault_in, sound_refused, sound_records, earned_10, earned_book, earned_sound, score_is, score_refused_lem, state_low}

-- Two outcomes that the contract of `score` allows are one.
pub determined : (m : Member) (b series : List ℕ) (r s : Score) → r ≡ scoring m b series → s ≡ scoring m b series → r ≡ s
determined m b series r s p q = p ∙ sym q

-- One record against another

or_split : (t u : Bool) → (t || u) ≡ true → (t ≡ true) ⊎ (u ≡ true)
or_split true u h = inl refl
or_split false u h = inr h

or_left : (t u : Bool) → t ≡ true → (t || u) ≡ true
or_left true u h = refl
or_left false u h = absurd (true≢false (sym h))

or_right : (t u : Bool) → u ≡ true → (t || u) ≡ true
or_right true u h = refl
or_right false u h = h

-- a service of which a month has one call
abbrev Once : ℕ → Type 0
Once s = (s ≡ black_start) ⊎ (s ≡ agc_availability) ⊎ (s ≡ agc_contribution) ⊎ (s ≡ avc)

once_of : (s : ℕ) → is_once s ≡ true → Once s
unfolding is_once
once_of s h =
    ⊎_elim
    (λ p.
    ⊎_elim (λ q. ⊎_elim (λ r. inl (eqb-true _ _ r)) (λ r. inr (inl (eqb-true _ _ r))) (or_split (eqb s black_start) (eqb s agc_availability) q)) (λ q. inr (inr (inl (eqb-true _ _ q))))
    (or_split (eqb s black_start || eqb s agc_availability) (eqb s agc_contribution) p))
    (λ p. inr (inr (inr (eqb-true _ _ p)))) (or_split (eqb s black_start || eqb s agc_availability || eqb s agc_contribution) (eqb s avc) h)

of_once : (s : ℕ) → Once s → is_once s ≡ true
unfolding is_once
of_once s h = ⊎_elim (λ e. rw e) (⊎_elim (λ e. rw e) (⊎_elim (λ e. rw e) (λ e. rw e))) h

module _ (number : ℕ) (x y : Call) where
  -- what both cases of a clash have, and what one of them has
  abbrev shared : Bool
  shared = leb x.service standby && overlaps x y

  abbrev rest : List Bool
  rest = eqb y.state live ∷ eqb y.service x.service ∷ (shared || is_once x.service) ∷ []

  pub against_of : clashes number x y ≡ true → Against number x y
  unfolding clashes overlaps
  against_of h =
      let p = each (eqb y.participant number) rest h in
      let s : OfOneService number x y = record { own = eqb-true _ _ p.0; live = eqb-true _ _ p.1.0; service = eqb-true _ _ p.1.1.0 } in
      ⊎_elim (λ t. minute s t) (λ o. second s (once_of x.service o)) (or_split shared (is_once x.service) p.1.1.1.0)
    where
      minute : OfOneService number x y → shared ≡ true → Against number x y
      minute s t =
          let p = each (leb x.service standby) ((ltb x.start (y.start + y.length) && ltb y.start (x.start + x.length)) ∷ []) t in
          let q = each (ltb x.start (y.start + y.length)) (ltb y.start (x.start + x.length) ∷ []) p.1.0 in
          shares_minute s (leb-true _ _ p.0) (ltb-true _ _ q.0) (ltb-true _ _ q.1.0)

  clash_of : OfOneService number x y → (shared || is_once x.service) ≡ true → clashes number x y ≡ true
  unfolding clashes
  clash_of s h = all (eqb y.participant number) rest (eq-eqb _ _ s.own, (eq-eqb _ _ s.live, (eq-eqb _ _ s.service, (h, tt))))

  of_against : Against number x y → clashes number x y ≡ true
  unfolding overlaps
  of_against (shares_minute s l p q) =
      let o = all (ltb x.start (y.start + y.length)) (ltb y.start (x.start + x.length) ∷ []) (lt-ltb _ _ p, (lt-ltb _ _ q, tt)) in
      clash_of s (or_left shared (is_once x.service) (all (leb x.service standby) (overlaps x y ∷ []) (le-leb _ _ l, (o, tt))))
  of_against (second s o) = clash_of s (or_right shared (is_once x.service) (of_once x.service o))

clash_at_lem : (number : ℕ) (x : Call) (book : ℕ → Call) (j : ℕ) → clash_at number x book j ≡ clashes number x (book j)
unfolding clash_at
clash_at_lem number x book j = refl

any_some : (f : ℕ → Bool) (n : ℕ) → any_below f n ≡ true → (j : ℕ) × (j < n) × (f j ≡ true)
any_some f zero h = absurd (true≢false (sym h ∙ any_none f))
any_some f (suc n) h =
    ⊎_elim (λ p. let r = any_some f n p in (r.0, omega (arith, r.1), r.2)) (λ p. (n, omega arith, p)) (or_split (any_below f n) (f n) (sym (any_suc f n) ∙ h))

-- One record judged

data Judged (month : Month) (m : Member) (book : ℕ → Call) (i : ℕ) : Type 0 where
  passed : refusal_at month m book i ≡ 0 → Passes month m book i → Judged month m book i
  contests : refusal_at month m book i ≡ 14 → (book i).participant ≡ m.number → (book i).state ≡ contested → Judged month m book i
  shut : refusal_at month m book i ≡ 12 → (book i).participant ≡ m.number → (book i).state ≡ live → (open_to month m (book i) ≡ true → ⊥) → Judged month m book i
  stopped : (j : ℕ) → refusal_at month m book i ≡ 13 → (book i).participant ≡ m.number → (book i).state ≡ live → open_to month m (book i) ≡ true
      → j < i → Against m.number (book i) (book j) → Judged month m book i

module _ (month : Month) (m : Member) (book : ℕ → Call) (i : ℕ) (low : (book i).state ≤ withdrawn) where
  against : ℕ → Bool
  against = clash_at m.number (book i) book

  judged : Judged month m book i
  unfolding clash_at number_of against
  judged = own (ℕ_discrete (book i).participant m.number)
    where
      is_live : (book i).participant ≡ m.number → (book i).state ≡ live → (t : Bool) → open_to month m (book i) ≡ t → (u : Bool) → any_below against i ≡ u → Judged month m book i
      is_live p s false o u a = shut (refuse_live month m book i p s false u (sym o) (sym a)) p s (λ q. holds_or_fails q o)
      is_live p s true o false a =
          passed (refuse_live month m book i p s true false (sym o) (sym a))
          (good p s o (λ j l g. holds_or_fails (of_against m.number (book i) (book j) g) (any_not against i a j l)))
      is_live p s true o true a =
          let e = any_some against i a in
          stopped e.0 (refuse_live month m book i p s true true (sym o) (sym a)) p s o e.1 (against_of m.number (book i) (book e.0) e.2)

      is_contest : (book i).participant ≡ m.number → ((book i).state ≡ withdrawn → ⊥) → Dec ((book i).state ≡ contested) → Judged month m book i
      is_contest p two (yes q) = contests (refuse_contested month m book i p q) p q
      is_contest p two (no q) = is_live p (omega arith) (open_to month m (book i)) refl (any_below against i) refl

      is_gone : (book i).participant ≡ m.number → Dec ((book i).state ≡ withdrawn) → Judged month m book i
      is_gone p (yes q) = passed (refuse_withdrawn month m book i p q) (gone p q)
      is_gone p (no q) = is_contest p q (ℕ_discrete (book i).state contested)

      own : Dec ((book i).participant ≡ m.number) → Judged month m book i
      own (yes p) = is_gone p (ℕ_discrete (book i).state withdrawn)
      own (no p) = passed (refuse_other month m book i p) (other p)

-- a record that is not refused passes
passes_of : (month : Month) (m : Member) (book : ℕ → Call) (i : ℕ) → refusal_at month m book i ≡ 0 → Judged month m book i → Passes month m book i
passes_of month m book i h (passed e p) = p
passes_of month m book i h (contests e p q) = absurd (omega arith)
passes_of month m book i h (shut e p q o) = absurd (omega arith)
passes_of month m book i h (stopped j e p q o l a) = absurd (omega arith)

-- The whole table

much_of : (series : List ℕ) (i : ℕ) → too_much series i ≡ 0 → get_or series i 0 ≤ most_output
much_of series i h = go (dec_lt most_output (get_or series i 0))
  where
    go : Dec (most_output < get_or series i 0) → get_or series i 0 ≤ most_output
    go (yes l) = absurd (much_yes series i l h)
    go (no l) = omega arith

is_much : (series : List ℕ) (i : ℕ) → (too_much series i ≡ 0 → ⊥) → most_output < get_or series i 0
is_much series i h = go (dec_lt most_output (get_or series i 0))
  where
    go : Dec (most_output < get_or series i 0) → most_output < get_or series i 0
    go (yes l) = l
    go (no l) = absurd (h (much_not series i (omega arith)))

number_of_lem : {v w : Verdict} → v ≡ w → v.number ≡ w.number
number_of_lem e = ap (λ (x : Verdict). x.number) e

module _ (m : Member) (b series : List ℕ) where
  abbrev month : Month
  month = month_at b

  abbrev refusals : ℕ → ℕ
  refusals = refusal_at month m (record_at b)

  abbrev first : ℕ
  first = first_nonzero refusals (count_at b)

  abbrev records : Earned
  records = records_earned month m series (record_at b) (count_at b)

  each_judged : check b ≡ accepted → (i : ℕ) → i < count_at b → Judged month m (record_at b) i
  each_judged ok i l = judged month m (record_at b) i (state_low (header_minutes (header_at b)) (record_at b i) (all_sound b ok i l))

  clear_to : check b ≡ accepted → (i : ℕ) → i ≤ count_at b → ((k : ℕ) → k < i → refusals k ≡ 0) → Clear month m (record_at b) i
  clear_to ok i l h k t = passes_of month m (record_at b) k (h k t) (each_judged ok k (omega arith))

  -- a first record that is refused
  stop : Ready m b series → grains_earned m b series ≡ records → first < count_at b → ScoreOutcome m b series (scoring m b series)
  stop ready e l = row (each_judged ready.front.book first l)
    where
      bad : refusals first ≡ 0 → ⊥
      bad = first_bad_lem refusals (count_at b) l

      turn : (record_at b first).participant ≡ m.number → RecordsTurn m b series first
      turn p = record { ready = ready; is_record_lem = l; clear = clear_to ready.front.book first (omega arith) (first_before refusals (count_at b)); own = p }

      is : (v : ℕ) → refusals first ≡ v → scoring m b series ≡ score_refused v first
      is v d =
          score_refused_lem m b series v first
          (e ∙ records_refused month m series (record_at b) (count_at b) first l (first_again refusals (count_at b)) bad ∙ ap (λ (n : ℕ). Refused n first) d)

      row : Judged month m (record_at b) first → ScoreOutcome m b series (scoring m b series)
      row (passed d p) = absurd (bad d)
      row (contests d p q) = is_contested_lem first (is 14 d) (turn p) q
      row (shut d p q o) = not_open_lem first (is 12 d) (turn p) q o
      row (stopped j d p q o t a) = stands_against_lem first j (is 13 d) (turn p) q o t a

  -- none is
  done : Ready m b series → grains_earned m b series ≡ records → count_at b ≤ first → ScoreOutcome m b series (scoring m b series)
  unfolding in_fen
  done ready e l =
      let f : first ≡ count_at b = omega (arith, first_le refusals (count_at b)) in
      scored (month_grains m series (record_at b) (count_at b)) (score_is m b series _ (e ∙ records_sum month m series (record_at b) (count_at b) f)) ready
      (clear_to ready.front.book (count_at b) (omega arith) (first_all refusals (count_at b) f)) refl

  at_records : Ready m b series → grains_earned m b series ≡ records → Dec (first < count_at b) → ScoreOutcome m b series (scoring m b series)
  at_records ready e (yes l) = stop ready e l
  at_records ready e (no l) = done ready e (omega arith)

  abbrev quarters : ℕ
  quarters = quarters_of (header_at b).year (header_at b).month

  at_series : LineAndBook m b → grains_earned m b series ≡ sound_earned m b series → ScoreOutcome m b series (scoring m b series)
  unfolding first_too_much
  at_series front e = go (ℕ_discrete (length series) quarters)
    where
      at : ℕ
      at = first_too_much series

      faulty : (v : Verdict) → series_fault series quarters ≡ v → (v.number ≡ 0 → ⊥) → scoring m b series ≡ score_refused v.number v.place
      faulty v d n = score_refused_lem m b series v.number v.place (e ∙ sound_refused m b series v (sym d) n)

      value : Spans b series → Dec (at < length series) → ScoreOutcome m b series (scoring m b series)
      value s (yes l) =
          bad_value at (faulty (refused 11 at) (series_value series quarters s at refl l) (λ z. omega arith)) front s l
          (λ j t. much_of series j (first_before (too_much series) (length series) j t)) (is_much series at (first_bad_lem (too_much series) (length series) l))
      value s (no l) =
          let f : at ≡ length series = omega (arith, first_le (too_much series) (length series)) in
          at_records (record { front = front; spans = s; within = λ j t. much_of series j (first_all (too_much series) (length series) f j t) })
          (e ∙ sound_records m b series (number_of_lem (series_good series quarters s at refl (omega arith)))) (dec_lt first (count_at b))

      go : Dec (length series ≡ quarters) → ScoreOutcome m b series (scoring m b series)
      go (yes s) = value s (dec_lt at (length series))
      go (no s) = bad_length (faulty (refused 11 length_place) (series_length series quarters s) (λ z. omega arith)) front s

  -- Scoring answers by exactly one row of the table: its condition holds, and those of the rows before it do not.
  pub outcome : ScoreOutcome m b series (scoring m b series)
  outcome = line (member_is_sound m) refl
    where
      book : MemberWithin m → member_is_sound m ≡ true → Dec ((check b).number ≡ 0) → ScoreOutcome m b series (scoring m b series)
      book l s (yes z) = at_series (record { line = l; book = zero_accepted b z }) (earned_sound m b series s z)
      book l s (no z) = bad_book (score_refused_lem m b series _ _ (earned_book m b series s (check b) refl z)) l (λ e. z (number_of_lem e))

      line : (t : Bool) → member_is_sound m ≡ t → ScoreOutcome m b series (scoring m b series)
      line true s = book (line_of m s) s (ℕ_discrete (check b).number 0)
      line false s = bad_line_lem (score_refused_lem m b series 10 0 (earned_10 m b series s)) (λ l. holds_or_fails (of_line_lem m l) s)

-- Fen are those of the month's grains, converted once; a refusal has none of either.
pub fen_once : (m : Member) (b series : List ℕ) → (scoring m b series).fen.0 ≡ grains_to_fen (scoring m b series).grains.0
unfolding scoring in_fen grains_to_fen
fen_once m b series = go (grains_earned m b series)
  where
    go : (e : Earned) → (in_fen e).fen.0 ≡ grains_to_fen (in_fen e).grains.0
    go (Accepted g) = refl
    go (Refused v p) = refl

-- The other way round: whatever row's condition holds, its answer is the one

not_yes : (t : Bool) → (t ≡ true → ⊥) → t ≡ false
not_yes true h = absurd (h refl)
not_yes false h = refl

module _ (month : Month) (m : Member) (book : ℕ → Call) (i : ℕ) where
  pub of_passes : Passes month m book i → refusal_at month m book i ≡ 0
  unfolding number_of
  of_passes (other p) = refuse_other month m book i p
  of_passes (gone p q) = refuse_withdrawn month m book i p q
  of_passes (good p q o n) = refuse_live month m book i p q true false (sym o) (sym (any_zero against i (λ j l. not_yes (against j) (λ h. n j l (at j h)))))
    where
      against : ℕ → Bool
      against = clash_at m.number (book i) book

      at : (j : ℕ) → against j ≡ true → Against m.number (book i) (book j)
      at j h = against_of m.number (book i) (book j) (sym (clash_at_lem m.number (book i) book j) ∙ h)

module _ (m : Member) (b series : List ℕ) where
  sound_is : LineAndBook m b → grains_earned m b series ≡ sound_earned m b series
  sound_is front = earned_sound m b series (of_line_lem m front.line) (number_of_lem front.book)

  pub ready_records : Ready m b series → grains_earned m b series ≡ records m b series
  unfolding first_too_much
  ready_records ready =
      let f : first_too_much series ≡ length series = first_of_all (too_much series) (length series) (λ j l. much_not series j (ready.within j l)) in
      sound_is ready.front ∙ sound_records m b series (number_of_lem (series_good series (quarters m b series) ready.spans (first_too_much series) refl (omega arith)))

  clear_first : (i : ℕ) → Clear (month_at b) m (record_at b) i → first_nonzero (refusals m b series) i ≡ i
  clear_first i clear = first_of_all (refusals m b series) i (λ k l. of_passes (month_at b) m (record_at b) k (clear k l))

  turned : (i v : ℕ) → RecordsTurn m b series i → refusals m b series i ≡ v → (v ≡ 0 → ⊥) → scoring m b series ≡ score_refused v i
  turned i v t d n =
      score_refused_lem m b series v i
      (ready_records t.ready ∙ records_refused (month_at b) m series (record_at b) (count_at b) i t.is_record_lem (clear_first i t.clear) (λ z. n (sym d ∙ z)) ∙ ap (λ (k : ℕ). Refused k i) d)

  faulty : LineAndBook m b → (v : Verdict) → fault_in b series ≡ v → (v.number ≡ 0 → ⊥) → scoring m b series ≡ score_refused v.number v.place
  faulty front v e n = score_refused_lem m b series v.number v.place (sound_is front ∙ sound_refused m b series v (sym e) n)

  decides : (r : Score) → ScoreOutcome m b series r → r ≡ scoring m b series
  unfolding in_fen number_of first_too_much
  decides r (bad_line_lem e n) = e ∙ sym (score_refused_lem m b series 10 0 (earned_10 m b series (not_yes (member_is_sound m) (λ h. n (line_of m h)))))
  decides r (bad_book e l n) = e ∙ sym (score_refused_lem m b series _ _ (earned_book m b series (of_line_lem m l) (check b) refl (λ z. n (zero_accepted b z))))
  decides r (bad_length e f n) = e ∙ sym (faulty f (refused 11 length_place) (series_length series (quarters m b series) n) (λ z. omega arith))
  decides r (bad_value i e f s l w g) =
      let at : first_too_much series ≡ i = first_hit (too_much series) i (length series) l (first_of_all (too_much series) i (λ j t. much_not series j (w j t))) (much_yes series i g) in
      e ∙ sym (faulty f (refused 11 i) (series_value series (quarters m b series) s i (sym at) l) (λ z. omega arith))
  decides r (is_contested_lem i e t q) = e ∙ sym (turned i 14 t (refuse_contested (month_at b) m (record_at b) i t.own q) (λ z. omega arith))
  decides r (not_open_lem i e t q n) =
      e ∙ sym (turned i 12 t (refuse_live (month_at b) m (record_at b) i t.own q false _ (sym (not_yes (open_to (month_at b) m (record_at b i)) n)) refl) (λ z. omega arith))
  decides r (stands_against_lem i j e t q o l a) =
      let x = record_at b i in
      let h = clash_at_lem m.number x (record_at b) j ∙ of_against m.number x (record_at b j) a in
      e ∙ sym (turned i 13 t (refuse_live (month_at b) m (record_at b) i t.own q true true (sym o) (sym (any_hit (clash_at m.number x (record_at b)) j i l h))) (λ z. omega arith))
  decides r (scored g e ready clear d) =
      e ∙ ap (λ (k : ℕ). in_fen (Accepted (record { 0 = k }))) d
      ∙ sym (score_is m b series _ (ready_records ready ∙ records_sum (month_at b) m series (record_at b) (count_at b) (clear_first (count_at b) clear)))

  -- An answer is scoring's exactly where a row of the table allows it: each refusal comes exactly under its condition.
  pub outcome_exact : (r : Score) → (r ≡ scoring m b series) ↔ ScoreOutcome m b series r
  outcome_exact r = (λ e. rw e (outcome m b series), decides r)
