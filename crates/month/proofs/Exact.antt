-- Each answer of settling comes exactly under its condition. Assumes nothing.
use mathlib.Core.Path.{◌≡◌, refl, sym, ap, ◌∙◌}
use mathlib.Core.Bool.{Bool, true, false, cond, not, ◌&&◌, ◌||◌, true≢false}
use mathlib.Core.List.{List, [], ◌∷◌, map}
use mathlib.Core.Logic.{◌↔◌, inl, inr}
use Prim.Native.Nat.{ℕ, zero, suc, ◌+◌, ◌≤◌, ◌<◌}
use native.Mathlib.Decide.{ℕ_discrete, dec_lt}
use native.Mathlib.Omega.{arith}
use borrow.Author.Tests.{eq-eqb, ne_eqb, eqb-false, ltb-true, le-ltb, le-leb, leb-true, not-true}
use lib.Dec.{eqb, ltb, leb}
use lib.ListN.{length, get_or, take, length-take}
use Rattle.call.specs.declared.Call.{Call}
use Rattle.call.specs.Revising.{withdrawn}
use Rattle.book.specs.declared.Verdict.{Verdict}
use Rattle.units.specs.Month.{quarters_of}
use Rattle.book.specs.Book.{header_at, count_at, record_at, calls_from, calls_of}
use Rattle.book.specs.Check.{accepted, check}
use Rattle.book.proofs.Records.{length_calls}
use Rattle.book.proofs.Without.{no_call}
use Rattle.pay.specs.declared.Member.{Member}
use Rattle.pay.specs.Member.{member_is_sound}
use Rattle.score.specs.declared.answer.Earned.{Earned}
use Rattle.score.specs.declared.answer.Earned.TheVariants.{Accepted, Refused}
use Rattle.score.specs.declared.answer.Score.{Score}
use Rattle.score.specs.First.{first_nonzero}
use Rattle.score.specs.Refusing.{refusal_at}
use Rattle.score.specs.Scoring.{month_grains, first_refused, records_earned, after, month_at, sound_earned, grains_earned, in_fen}
use Rattle.score.specs.Series.{series_fault}
use Rattle.score.proofs.First.{first_bad_lem}
use Rattle.book.proofs.Judged.{zero_accepted}
use Rattle.score.proofs.Turns.{score_is}
use Rattle.pay.proofs.Within.{line_of, of_line_lem}
use Rattle.share.specs.Sharing.{line_is_sound, most_part}
use Rattle.share.proofs.Bounds.{sound_from, sound_to}
use Rattle.ceiling.specs.declared.Limit.{Limit}
use Rattle.ceiling.specs.Ceiling.{most_limit, limit_is_sound, limited_is_sound}
use Rattle.ceiling.specs.Verdict.{SoundLimit}
use Rattle.register.specs.declared.Entry.{Entry}
use Rattle.register.specs.Register.{blank_entry, entry_line, entry_limited, entry_is_sound, first_bad_entry}
use Rattle.register.proofs.Entries.{bad_le}
use Rattle.month.specs.declared.Fault.TheVariants.{InRegister, OfMember, OfRamping, InSharing}
use Rattle.month.specs.declared.Fault.{Fault}
use Rattle.month.specs.declared.Ramped.{Ramped}
use Rattle.month.specs.declared.Statement.{Statement}
use Rattle.month.specs.declared.members.MemberEarned.{MemberEarned}
use Rattle.month.specs.declared.members.MemberEarned.TheVariants.{ScoreAndHours, NotScored, NotRamped}
use Rattle.month.specs.Settling.{MonthGiven, is_listed, is_unlisted, first_unlisted, earned_with, earned_grains, first_refused_member, member_fault, month_refused}
use Rattle.month.specs.Settling.{shared_month, earned_month, settling}
use Rattle.month.specs.Outcomes.{own_series, score_of_line, ramped_of_line, earned_in, limited_in, shared_in, statement_of, EntryWithin, AllWithin, FirstBadAt, RegisterWithin}
use Rattle.month.specs.Outcomes.{RegisterAndBook, Without, Listed, AllListed, Scored, AllScored, MonthOutcome}
use Rattle.month.specs.Outcomes.{bad_part, bad_entry, one_more, bad_book, without_line, bad_member, bad_ramping, not_shared, settled}
use Rattle.month.proofs.Walking.{is_both, length_earnings}
use Rattle.month.proofs.Settled.{in_part, in_register, in_book, unlisted, listed, earned_refused}
use Rattle.month.proofs.Accepted.{earned_at, with_both}

-- The register

both : (t u : Bool) → (t && u) ≡ true → (t ≡ true) × (u ≡ true)
both true true h = (refl, refl)
both true false h = absurd (true≢false (sym h))
both false u h = absurd (true≢false (sym h))

limit_from : (l : Limit) → limit_is_sound l ≡ true → SoundLimit l
unfolding limit_is_sound
limit_from l = go l.none refl
  where
    go : (t : Bool) → l.none ≡ t → (t || leb l.fen.0 most_limit) ≡ true → SoundLimit l
    go true e h = inl e
    go false e h = inr (leb-true l.fen.0 most_limit h)

limit_to : (l : Limit) → SoundLimit l → limit_is_sound l ≡ true
unfolding limit_is_sound
limit_to l (inl e) = rw e refl
limit_to l (inr h) = rw (le-leb l.fen.0 most_limit h) (any l.none)
  where
    any : (t : Bool) → (t || true) ≡ true
    any true = refl
    any false = refl

entry_from : (before : ℕ) (e : Entry) → entry_is_sound before e ≡ true → EntryWithin before e
unfolding entry_is_sound entry_limited limited_is_sound
entry_from before e h =
    let p = both (member_is_sound e.member) _ h in
    let q = both (line_is_sound before (entry_line e (record { 0 = 0 }))) _ p.1 in
    record { member = line_of e.member p.0; line = sound_from before _ q.0; limit = limit_from e.limit q.1 }

entry_to : (before : ℕ) (e : Entry) → EntryWithin before e → entry_is_sound before e ≡ true
unfolding entry_is_sound entry_limited limited_is_sound
entry_to before e w = rw (of_line_lem e.member w.member, sound_to before _ w.line, limit_to e.limit w.limit) refl

all_from : (before : ℕ) (es : List Entry) → length es ≤ first_bad_entry before es → AllWithin before es
all_from before [] h = tt
all_from before (e ∷ es) h = go (entry_is_sound before e) refl (all_from e.member.number es) h
  where
    go : (t : Bool) → entry_is_sound before e ≡ t → (length es ≤ first_bad_entry e.member.number es → AllWithin e.member.number es)
        → suc (length es) ≤ cond t (suc (first_bad_entry e.member.number es)) 0 → AllWithin before (e ∷ es)
    go true s rec h = (entry_from before e s, rec (omega arith))
    go false s rec h = absurd (omega arith)

all_to : (before : ℕ) (es : List Entry) → AllWithin before es → first_bad_entry before es ≡ length es
all_to before [] w = refl
all_to before (e ∷ es) w = rw (entry_to before e w.0) (ap suc (all_to e.member.number es w.1))

bad_from_lem : (before : ℕ) (es : List Entry) → first_bad_entry before es < length es → FirstBadAt before es (first_bad_entry before es)
bad_from_lem before [] h = omega arith
bad_from_lem before (e ∷ es) h = go (entry_is_sound before e) refl (bad_from_lem e.member.number es) h
  where
    go : (t : Bool) → entry_is_sound before e ≡ t → (first_bad_entry e.member.number es < length es → FirstBadAt e.member.number es (first_bad_entry e.member.number es))
        → cond t (suc (first_bad_entry e.member.number es)) 0 < suc (length es)
        → FirstBadAt before (e ∷ es) (cond t (suc (first_bad_entry e.member.number es)) 0)
    go true s rec h = (entry_from before e s, rec (omega arith))
    go false s rec h = λ w. true≢false (sym (entry_to before e w) ∙ s)

not_yes : (t : Bool) → (t ≡ true → ⊥) → t ≡ false
not_yes true h = absurd (h refl)
not_yes false h = refl

bad_to : (before : ℕ) (es : List Entry) (p : ℕ) → FirstBadAt before es p → (first_bad_entry before es ≡ p) × (p < length es)
bad_to before [] p b = absurd b
bad_to before (e ∷ es) zero b = (rw (not_yes (entry_is_sound before e) (λ h. b (entry_from before e h))) refl, omega arith)
bad_to before (e ∷ es) (suc p) b =
    let r = bad_to e.member.number es p b.1 in
    (rw (entry_to before e b.0) (ap suc r.0), omega (arith, r.1))

-- Calls of members without a line

listed_not : (es : List Entry) (number k : ℕ) → is_listed es number ≡ false → k < length es → (get_or es k blank_entry).member.number ≡ number → ⊥
unfolding is_listed
listed_not [] number k h l e = omega arith
listed_not (x ∷ es) number zero h l e = true≢false (sym (rw (eq-eqb _ _ e) refl) ∙ h)
listed_not (x ∷ es) number (suc k) h l e = listed_not es number k (neither (eqb x.member.number number) h) (omega arith) e
  where
    neither : (t : Bool) → (t || is_listed es number) ≡ false → is_listed es number ≡ false
    neither true f = absurd (true≢false f)
    neither false f = f

listed_none : (es : List Entry) (number : ℕ) → ((k : ℕ) → k < length es → (get_or es k blank_entry).member.number ≡ number → ⊥) → is_listed es number ≡ false
unfolding is_listed
listed_none [] number h = refl
listed_none (x ∷ es) number h = rw (ne_eqb x.member.number number (h 0 (omega arith))) (listed_none es number (λ k l. h (suc k) (omega arith)))

module _ (es : List Entry) where
  pub unlisted_before : (cs : List Call) (k : ℕ) (d : Call) → k < first_unlisted es cs → is_unlisted es (get_or cs k d) ≡ false
  unfolding first_unlisted
  unlisted_before [] k d h = absurd (omega arith)
  unlisted_before (c ∷ cs) k d h = go (is_unlisted es c) refl (λ j. unlisted_before cs j d) k h
    where
      go : (t : Bool) → is_unlisted es c ≡ t → ((j : ℕ) → j < first_unlisted es cs → is_unlisted es (get_or cs j d) ≡ false)
          → (k : ℕ) → k < cond t 0 (suc (first_unlisted es cs)) → is_unlisted es (get_or (c ∷ cs) k d) ≡ false
      go true e rec k h = absurd (omega arith)
      go false e rec zero h = e
      go false e rec (suc k) h = rec k (omega arith)

  pub unlisted_at : (cs : List Call) (d : Call) → first_unlisted es cs < length cs → is_unlisted es (get_or cs (first_unlisted es cs) d) ≡ true
  unfolding first_unlisted
  unlisted_at [] d h = absurd (omega arith)
  unlisted_at (c ∷ cs) d h = go (is_unlisted es c) refl (unlisted_at cs d) h
    where
      go : (t : Bool) → is_unlisted es c ≡ t → (first_unlisted es cs < length cs → is_unlisted es (get_or cs (first_unlisted es cs) d) ≡ true) → cond t 0 (suc (first_unlisted es cs)) < suc (length cs)
          → is_unlisted es (get_or (c ∷ cs) (cond t 0 (suc (first_unlisted es cs))) d) ≡ true
      go true e rec h = e
      go false e rec h = rec (omega arith)

  pub unlisted_is : (cs : List Call) (p : ℕ) (d : Call) → p ≤ length cs → ((k : ℕ) → k < p → is_unlisted es (get_or cs k d) ≡ false)
      → (p < length cs → is_unlisted es (get_or cs p d) ≡ true) → first_unlisted es cs ≡ p
  unfolding first_unlisted
  unlisted_is [] p d h b a = omega arith
  unlisted_is (c ∷ cs) zero d h b a = rw (a (omega arith)) refl
  unlisted_is (c ∷ cs) (suc p) d h b a =
      rw (b 0 (omega arith)) (ap suc (unlisted_is cs p d (omega arith) (λ k l. b (suc k) (omega arith)) (λ l. a (omega arith))))

calls_at : (b : List ℕ) (n i k : ℕ) (d : Call) → k < n → get_or (calls_from b i n) k d ≡ record_at b (i + k)
unfolding calls_from
calls_at b zero i k d h = absurd (omega arith)
calls_at b (suc n) i zero d h = ap (record_at b) (omega arith)
calls_at b (suc n) i (suc k) d h = calls_at b n (suc i) k d (omega arith) ∙ ap (record_at b) (omega arith)

module _ (g : MonthGiven) where
  abbrev n : ℕ
  n = count_at g.book

  record_in : (k : ℕ) → k < n → get_or (calls_of g.book) k no_call ≡ record_at g.book k
  unfolding calls_of
  record_in k h = calls_at g.book n 0 k no_call h ∙ ap (record_at g.book) (omega arith)

  calls_long : length (calls_of g.book) ≡ n
  unfolding calls_of
  calls_long = length_calls g.book n 0

  without_from : (i : ℕ) → is_unlisted g.entries (record_at g.book i) ≡ true → Without g i
  unfolding is_unlisted
  without_from i h =
      let p = both (not (eqb (record_at g.book i).state withdrawn)) _ h in
      record {
        stands = eqb-false _ _ (not-true _ p.0);
        no_line = λ k l. listed_not g.entries (record_at g.book i).participant k (not-true _ p.1) l;
      }

  without_to : (i : ℕ) → Without g i → is_unlisted g.entries (record_at g.book i) ≡ true
  unfolding is_unlisted
  without_to i w = rw (ne_eqb _ _ w.stands, listed_none g.entries (record_at g.book i).participant w.no_line) refl

  none_without : (p : ℕ) → p ≤ first_unlisted g.entries (calls_of g.book) → p ≤ n → Listed g p
  none_without p h l k j w =
      true≢false (sym (without_to k w) ∙ ap (is_unlisted g.entries) (sym (record_in k (omega arith))) ∙ unlisted_before g.entries (calls_of g.book) k no_call (omega arith))

  first_without : (p : ℕ) → p ≤ n → Listed g p → (p < n → Without g p) → first_unlisted g.entries (calls_of g.book) ≡ p
  first_without p h b a =
      unlisted_is g.entries (calls_of g.book) p no_call (omega (arith, calls_long))
      (λ k l. ap (is_unlisted g.entries) (record_in k (omega arith)) ∙ not_yes _ (λ t. b k l (without_from k t)))
      (λ l. let m : p < n = omega (arith, calls_long) in ap (is_unlisted g.entries) (record_in p m) ∙ without_to p (a m))

-- The members

abbrev is_accepted : Earned → Bool
is_accepted (Accepted y) = true
is_accepted (Refused number place) = false

abbrev number_in : Earned → ℕ
number_in (Accepted y) = 0
number_in (Refused number place) = number

-- a refusal has a number
abbrev Numbered : Earned → Type 0
Numbered x = is_accepted x ≡ false → number_in x ≡ 0 → ⊥

after_some : (v : Verdict) (next : Earned) → Numbered next → Numbered (after v next)
unfolding after
after_some v next more = go (eqb v.number 0) refl
  where
    go : (t : Bool) → eqb v.number 0 ≡ t → Numbered (cond t next (Refused v.number v.place))
    go true e = more
    go false e = λ r. eqb-false v.number 0 e

module _ (m : Member) (b series : List ℕ) where
  records_some : Numbered (records_earned (month_at b) m series (record_at b) (count_at b))
  unfolding records_earned first_refused
  records_some = go (ltb first (count_at b)) refl
    where
      first : ℕ
      first = first_nonzero (refusal_at (month_at b) m (record_at b)) (count_at b)

      go : (t : Bool) → ltb first (count_at b) ≡ t
          → Numbered (cond t (Refused (refusal_at (month_at b) m (record_at b) first) first) (Accepted (record { 0 = month_grains m series (record_at b) (count_at b) })))
      go true e = λ r. first_bad_lem (refusal_at (month_at b) m (record_at b)) (count_at b) (ltb-true first (count_at b) e)
      go false e = λ r. absurd (true≢false r)

  earned_some : Numbered (grains_earned m b series)
  unfolding grains_earned sound_earned
  earned_some = go (member_is_sound m)
    where
      go : (t : Bool) → Numbered (cond (not t) (Refused 10 0) (after (check b) (sound_earned m b series)))
      go true = after_some (check b) _ (after_some (series_fault series (quarters_of (header_at b).year (header_at b).month)) _ records_some)
      go false = λ r z. omega arith

-- a member's turn, by the numbers told of its score and of its ramping file
module _ (x : Earned) (r : Ramped) (numbered : Numbered x) where
  both_of : (in_fen x).number ≡ 0 → r.number ≡ 0 → is_both (earned_with x r) ≡ true
  unfolding earned_with in_fen
  both_of = go x numbered
    where
      go : (x : Earned) → Numbered x → (in_fen x).number ≡ 0 → r.number ≡ 0 → is_both (earned_with x r) ≡ true
      go (Accepted y) n z w = rw (eq-eqb r.number 0 w) refl
      go (Refused number place) n z w = absurd (n refl z)

  score_fault : (line : ℕ) → ((in_fen x).number ≡ 0 → ⊥) → member_fault line (earned_with x r) ≡ OfMember line (in_fen x).number (in_fen x).place
  unfolding earned_with member_fault in_fen
  score_fault line = go x
    where
      go : (x : Earned) → ((in_fen x).number ≡ 0 → ⊥) → member_fault line (earned_with x r) ≡ OfMember line (in_fen x).number (in_fen x).place
      go (Accepted y) some = absurd (some refl)
      go (Refused number place) some = refl

  ramping_fault : (line : ℕ) → (in_fen x).number ≡ 0 → (r.number ≡ 0 → ⊥) → member_fault line (earned_with x r) ≡ OfRamping line r.number r.place
  unfolding earned_with member_fault in_fen
  ramping_fault line = go x numbered
    where
      go : (x : Earned) → Numbered x → (in_fen x).number ≡ 0 → (r.number ≡ 0 → ⊥) → member_fault line (earned_with x r) ≡ OfRamping line r.number r.place
      go (Accepted y) n z some = rw (ne_eqb r.number 0 some) refl
      go (Refused number place) n z some = absurd (n refl z)

of_both : (x : MemberEarned) → is_both x ≡ true → x ≡ ScoreAndHours (earned_grains x)
unfolding earned_grains
of_both (ScoreAndHours g) e = refl
of_both (NotScored number place) e = absurd (true≢false (sym e))
of_both (NotRamped number place) e = absurd (true≢false (sym e))

refused_before : (es : List MemberEarned) (k : ℕ) (d : MemberEarned) → k < first_refused_member es → is_both (get_or es k d) ≡ true
unfolding first_refused_member
refused_before [] k d h = absurd (omega arith)
refused_before (ScoreAndHours y ∷ es) zero d h = refl
refused_before (ScoreAndHours y ∷ es) (suc k) d h = refused_before es k d (omega arith)
refused_before (NotScored number place ∷ es) k d h = absurd (omega arith)
refused_before (NotRamped number place ∷ es) k d h = absurd (omega arith)

refused_here : (es : List MemberEarned) (d : MemberEarned) → first_refused_member es < length es → is_both (get_or es (first_refused_member es) d) ≡ false
unfolding first_refused_member
refused_here [] d h = absurd (omega arith)
refused_here (ScoreAndHours y ∷ es) d h = refused_here es d (omega arith)
refused_here (NotScored number place ∷ es) d h = refl
refused_here (NotRamped number place ∷ es) d h = refl

refused_is : (es : List MemberEarned) (p : ℕ) (d : MemberEarned) → p ≤ length es → ((k : ℕ) → k < p → is_both (get_or es k d) ≡ true)
    → (p < length es → is_both (get_or es p d) ≡ false) → first_refused_member es ≡ p
unfolding first_refused_member
refused_is [] p d h b a = omega arith
refused_is (ScoreAndHours y ∷ es) zero d h b a = absurd (true≢false (a (omega arith)))
refused_is (ScoreAndHours y ∷ es) (suc p) d h b a = ap suc (refused_is es p d (omega arith) (λ k l. b (suc k) (omega arith)) (λ l. a (omega arith)))
refused_is (NotScored number place ∷ es) zero d h b a = refl
refused_is (NotScored number place ∷ es) (suc p) d h b a = absurd (true≢false (sym (b 0 (omega arith))))
refused_is (NotRamped number place ∷ es) zero d h b a = refl
refused_is (NotRamped number place ∷ es) (suc p) d h b a = absurd (true≢false (sym (b 0 (omega arith))))

module _ (g : MonthGiven) where
  abbrev at : ℕ → MemberEarned
  at i = get_or (earned_in g) i (NotScored 0 0)

  abbrev own_of : ℕ → Earned
  own_of i = grains_earned (get_or g.entries i blank_entry).member g.book (own_series g.series g.lengths i)

  -- line i's score and ramping file are good
  abbrev Good : ℕ → Type 0
  Good i = ((score_of_line g i).number ≡ 0) × ((ramped_of_line g i).number ≡ 0)

  earned_long : length (earned_in g) ≡ length g.entries
  earned_long = length_earnings g.entries g.book g.series g.lengths g.ramped

  score_of_lem : (i : ℕ) → score_of_line g i ≡ in_fen (own_of i)
  score_of_lem i = score_is _ _ _ (own_of i) refl

  number_of_lem : (i : ℕ) → (score_of_line g i).number ≡ (in_fen (own_of i)).number
  number_of_lem i = ap (λ (s : Score). s.number) (score_of_lem i)

  turn_of : (i : ℕ) → i < length g.entries → at i ≡ earned_with (own_of i) (ramped_of_line g i)
  turn_of i h = earned_at g.entries g.book g.series g.lengths g.ramped i (NotScored 0 0) h

  good_from_lem : (i : ℕ) → i < length g.entries → is_both (at i) ≡ true → Good i
  good_from_lem i h e =
      let w = with_both (own_of i) (ramped_of_line g i) (earned_grains (at i)) (sym (turn_of i h) ∙ of_both (at i) e) in
      (number_of_lem i ∙ w.0, w.1)

  good_to : (i : ℕ) → i < length g.entries → Good i → is_both (at i) ≡ true
  good_to i h w = ap is_both (turn_of i h) ∙ both_of (own_of i) (ramped_of_line g i) (earned_some _ _ _) (sym (number_of_lem i) ∙ w.0) w.1

  scored_from : (p : ℕ) → p ≤ first_refused_member (earned_in g) → p ≤ length g.entries → Scored g p
  scored_from p h l k j = good_from_lem k (omega arith) (refused_before (earned_in g) k (NotScored 0 0) (omega arith))

  first_refused_lem : (p : ℕ) → p ≤ length g.entries → Scored g p → (p < length g.entries → Good p → ⊥) → first_refused_member (earned_in g) ≡ p
  first_refused_lem p h b a =
      let long = earned_long in
      refused_is (earned_in g) p (NotScored 0 0) (omega arith)
      (λ k l. good_to k (omega arith) (b k l))
      (λ l. let m : p < length g.entries = omega arith in not_yes (is_both (at p)) (λ e. a m (good_from_lem p m e)))

  -- the months that go on to sharing
  abbrev rest : Statement
  rest = earned_month g.part g.entries g.book g.ramped (earned_in g)

  at_fault : (i : ℕ) (fault : Fault) → i < length g.entries → first_refused_member (earned_in g) ≡ i → fault ≡ member_fault i (earned_with (own_of i) (ramped_of_line g i))
      → month_refused fault ≡ rest
  at_fault i fault h e is =
      earned_refused g.part g.entries g.book g.ramped (earned_in g) fault (omega (arith, earned_long))
      (is ∙ rw (e, turn_of i h) refl)

  at_score : (i : ℕ) → i < length g.entries → first_refused_member (earned_in g) ≡ i → ((score_of_line g i).number ≡ 0 → ⊥)
      → month_refused (OfMember i (score_of_line g i).number (score_of_line g i).place) ≡ rest
  at_score i h e some =
      at_fault i _ h e
      (rw (score_of_lem i) (sym (score_fault (own_of i) (ramped_of_line g i) (earned_some _ _ _) i (λ z. some (number_of_lem i ∙ z)))))

  at_ramping : (i : ℕ) → i < length g.entries → first_refused_member (earned_in g) ≡ i → (score_of_line g i).number ≡ 0 → ((ramped_of_line g i).number ≡ 0 → ⊥)
      → month_refused (OfRamping i (ramped_of_line g i).number (ramped_of_line g i).place) ≡ rest
  at_ramping i h e z some = at_fault i _ h e (sym (ramping_fault (own_of i) (ramped_of_line g i) (earned_some _ _ _) i (sym (number_of_lem i) ∙ z) some))

  shared_on : length g.entries ≤ first_refused_member (earned_in g) → rest ≡ shared_month g.part g.book (limited_in g) (map earned_grains (earned_in g)) g.ramped (shared_in g)
  unfolding earned_month
  shared_on h = rw (le-ltb (first_refused_member (earned_in g)) (length (earned_in g)) (omega (arith, earned_long))) refl

  shared_no : ((shared_in g).number ≡ 0 → ⊥)
      → shared_month g.part g.book (limited_in g) (map earned_grains (earned_in g)) g.ramped (shared_in g) ≡ month_refused (InSharing (shared_in g).number (shared_in g).place)
  unfolding shared_month
  shared_no some = rw (ne_eqb (shared_in g).number 0 some) refl

  shared_yes : (shared_in g).number ≡ 0 → shared_month g.part g.book (limited_in g) (map earned_grains (earned_in g)) g.ramped (shared_in g) ≡ statement_of g
  unfolding shared_month
  shared_yes z = rw (eq-eqb (shared_in g).number 0 z) refl

-- The month; a month's lines are no more than its count
module _ (g : MonthGiven) (fits : length g.entries ≤ g.count) where
  abbrev bad : ℕ
  bad = first_bad_entry 0 g.entries

  abbrev call : ℕ
  call = first_unlisted g.entries (calls_of g.book)

  call_is : call ≡ first_unlisted g.entries (calls_from g.book 0 (count_at g.book))
  unfolding calls_of
  call_is = refl

  abbrev first : ℕ
  first = first_refused_member (earned_in g)

  register_sound : RegisterWithin g → g.count ≤ bad
  register_sound w = omega (arith, w.count, all_to 0 g.entries w.entries)

  book_none : check g.book ≡ accepted → (check g.book).number ≡ 0
  book_none e = ap (λ (v : Verdict). v.number) e

  -- register, book and calls are good: the rest decides
  goes_on_lem : AllListed g → rest g ≡ settling g
  goes_on_lem w =
      let e = first_without g (count_at g.book) (omega arith) w.listed (λ l. absurd (omega arith)) in
      listed g w.front.register.part (register_sound w.front.register) (book_none w.front.book) (count_at g.book) call refl call_is (omega arith)

  at_sharing : AllScored g → settling g ≡ shared_month g.part g.book (limited_in g) (map earned_grains (earned_in g)) g.ramped (shared_in g)
  at_sharing w =
      let e = first_refused_lem g (length g.entries) (omega arith) w.scored (λ l. absurd (omega arith)) in
      sym (goes_on_lem w.front) ∙ shared_on g (omega arith)

  -- Settling answers by exactly one row of the table: its condition holds, and those of the rows before it do not.
  pub outcome : MonthOutcome g (settling g)
  outcome = part (dec_lt most_part g.part)
    where
      shared : AllScored g → Dec ((shared_in g).number ≡ 0) → MonthOutcome g (settling g)
      shared w (yes z) = settled (at_sharing w ∙ shared_yes g z) w z
      shared w (no some) = not_shared (at_sharing w ∙ shared_no g some) w some

      refused : AllListed g → first < length g.entries → Dec ((score_of_line g first).number ≡ 0) → MonthOutcome g (settling g)
      refused w h (no some) = bad_member first (sym (at_score g first h refl some ∙ goes_on_lem w)) w h (scored_from g first (omega arith) (omega arith)) some
      refused w h (yes z) =
          let r = refused_here (earned_in g) (NotScored 0 0) (omega (arith, earned_long g)) in
          let some : (ramped_of_line g first).number ≡ 0 → ⊥ = λ y. true≢false (sym (good_to g first h (z, y)) ∙ r) in
          bad_ramping first (sym (at_ramping g first h refl z some ∙ goes_on_lem w)) w h (scored_from g first (omega arith) (omega arith)) z some

      members : AllListed g → Dec (first < length g.entries) → MonthOutcome g (settling g)
      members w (yes h) = refused w h (ℕ_discrete (score_of_line g first).number 0)
      members w (no f) =
          let all : AllScored g = record { front = w; scored = scored_from g (length g.entries) (omega arith) (omega arith) } in
          shared all (ℕ_discrete (shared_in g).number 0)

      calls : RegisterAndBook g → Dec (call < count_at g.book) → MonthOutcome g (settling g)
      calls w (yes h) =
          let stands = unlisted_at g.entries (calls_of g.book) no_call (omega (arith, calls_long g)) in
          without_line call (sym (unlisted g w.register.part (register_sound w.register) (book_none w.book) (count_at g.book) call refl call_is h)) w h
          (none_without g call (omega arith) (omega arith)) (without_from g call (sym (ap (is_unlisted g.entries) (record_in g call h)) ∙ stands))
      calls w (no f) =
          let all : AllListed g = record { front = w; listed = none_without g (count_at g.book) (omega arith) (omega arith) } in
          members all (dec_lt first (length g.entries))

      book : RegisterWithin g → Dec ((check g.book).number ≡ 0) → MonthOutcome g (settling g)
      book w (yes z) = calls (record { register = w; book = zero_accepted g.book z }) (dec_lt call (count_at g.book))
      book w (no some) = bad_book (sym (in_book g w.part (register_sound w) (check g.book) refl some)) w (λ e. some (book_none e))

      entries : g.part ≤ most_part → bad < g.count → Dec (bad < length g.entries) → MonthOutcome g (settling g)
      entries p h (yes l) = bad_entry bad (sym (in_register g p h)) p (bad_from_lem 0 g.entries l)
      entries p h (no f) =
          let e : bad ≡ length g.entries = omega (arith, bad_le 0 g.entries) in
          one_more (sym (in_register g p h) ∙ ap (λ (k : ℕ). month_refused (InRegister k)) e) p (all_from 0 g.entries (omega arith)) (omega arith)

      register : g.part ≤ most_part → Dec (bad < g.count) → MonthOutcome g (settling g)
      register p (yes h) = entries p h (dec_lt bad (length g.entries))
      register p (no f) =
          let few = bad_le 0 g.entries in
          book (record { part = p; count = omega arith; entries = all_from 0 g.entries (omega arith) }) (ℕ_discrete (check g.book).number 0)

      part : Dec (most_part < g.part) → MonthOutcome g (settling g)
      part (yes h) = bad_part (sym (in_part g h)) h
      part (no f) = register (omega arith) (dec_lt bad g.count)

  decides : (s : Statement) → MonthOutcome g s → s ≡ settling g
  decides s (bad_part e h) = e ∙ in_part g h
  decides s (bad_entry p e f b) =
      let r = bad_to 0 g.entries p b in
      e ∙ ap (λ (k : ℕ). month_refused (InRegister k)) (sym r.0) ∙ in_register g f (omega (arith, r.0, r.1))
  decides s (one_more e f w h) =
      let r = all_to 0 g.entries w in
      e ∙ ap (λ (k : ℕ). month_refused (InRegister k)) (sym r) ∙ in_register g f (omega arith)
  decides s (bad_book e w n) = e ∙ in_book g w.part (register_sound w) (check g.book) refl (λ z. n (zero_accepted g.book z))
  decides s (without_line i e w h l n) =
      let is = first_without g i (omega arith) l (λ k. n) in
      e ∙ unlisted g w.register.part (register_sound w.register) (book_none w.book) (count_at g.book) i refl (sym is ∙ call_is) h
  decides s (bad_member i e w h l n) = e ∙ at_score g i h (first_refused_lem g i (omega arith) l (λ k q. n q.0)) n ∙ goes_on_lem w
  decides s (bad_ramping i e w h l z n) = e ∙ at_ramping g i h (first_refused_lem g i (omega arith) l (λ k q. n q.1)) z n ∙ goes_on_lem w
  decides s (not_shared e w n) = e ∙ sym (at_sharing w ∙ shared_no g n)
  decides s (settled e w z) = e ∙ sym (at_sharing w ∙ shared_yes g z)

  -- An answer is settling's exactly where a row of the table allows it: each fault comes exactly under its condition.
  pub outcome_exact : (s : Statement) → (s ≡ settling g) ↔ MonthOutcome g s
  outcome_exact s = (λ e. rw e outcome, decides s)

-- The same of what `settle` is given: the first lines of an array, no more than it counts.
pub settle_exact : (part : ℕ) (entries : List Entry) (count : ℕ) (book series lengths : List ℕ) (ramped : List Ramped) (s : Statement)
    → let g : MonthGiven = record { part = part; entries = take count entries; count = count; book = book; series = series; lengths = lengths; ramped = ramped } in
    (s ≡ settling g) ↔ MonthOutcome g s
settle_exact part entries count book series lengths ramped s = outcome_exact _ (omega (arith, length-take count entries)) s
