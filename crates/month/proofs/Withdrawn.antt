-- A withdrawn record of the joined book counts for nobody: the statement is that of the book without it. Assumes nothing.
use mathlib.Core.Path.{◌≡◌, refl, sym, ◌∙◌, ap, ap₂}
use mathlib.Core.Bool.{Bool, true, false, cond}
use mathlib.Core.List.{List, [], ◌∷◌, map}
use Prim.Native.Nat.{ℕ, zero, suc, ◌-◌, ◌≤◌, ◌<◌}
use native.Mathlib.Nat.{not-suc-le-zero}
use native.Mathlib.Decide.{dec_lt, ℕ_discrete}
use native.Mathlib.Omega.{arith}
use lib.Dec.{eqb, ltb}
use lib.ListN.{length, get_or, take, drop, length-map}
use borrow.Author.Tests.{eq-eqb, ne_eqb, lt-ltb, le-ltb}
use Rattle.units.specs.declared.Grains.{Grains}
use Rattle.units.specs.Money.{grains_plus}
use Rattle.call.specs.declared.Call.{Call}
use Rattle.call.specs.Key.{call_key}
use Rattle.call.specs.Revising.{withdrawn}
use Rattle.book.specs.declared.Verdict.{Verdict}
use Rattle.book.specs.Book.{header_at, count_at, record_at, calls_of}
use Rattle.book.specs.Check.{check}
use Rattle.book.specs.Sound.{Rises, Sound}
use Rattle.book.specs.Without.{without, book_without}
use Rattle.book.proofs.Exact.{sound_accepted, sound_reads}
use Rattle.book.proofs.Records.{length_calls}
use Rattle.book.proofs.Without.{without_hit, without_miss, without_none, call_in, in_calls, without_sound, without_reads, records_left}
use Rattle.score.specs.declared.answer.Earned.{Earned}
use Rattle.score.specs.declared.answer.Earned.TheVariants.{Accepted, Refused}
use Rattle.score.specs.Scoring.{grains_earned}
use Rattle.score.specs.Lowered.{lower_place, is_of_record, lowered_earned}
use Rattle.score.proofs.Withdrawn.{withdrawn_nobody}
use Rattle.share.specs.Sharing.{most_part}
use Rattle.ceiling.specs.declared.LimitedLine.{LimitedLine}
use Rattle.ceiling.specs.Ceiling.{CeilingOutcome, ceiling}
use Rattle.register.specs.declared.Entry.{Entry}
use Rattle.register.specs.Register.{first_bad_entry}
use Rattle.month.specs.declared.Ramped.{Ramped}
use Rattle.month.specs.declared.members.MemberEarned.{MemberEarned}
use Rattle.month.specs.declared.members.MemberEarned.TheVariants.{ScoreAndHours, NotScored, NotRamped}
use Rattle.month.specs.declared.Fault.{Fault}
use Rattle.month.specs.declared.Fault.TheVariants.{InPart, InRegister, Unlisted}
use Rattle.month.specs.Settling.{MonthGiven, is_unlisted, first_unlisted, no_ramping, earned_with, earnings, first_refused_member, member_fault, earned_grains}
use Rattle.month.specs.Settling.{month_refused, shared_month, month_lines, earned_month, settling}
use Rattle.month.specs.Lowered.{lowered_fault, lowered_statement}
use Rattle.month.proofs.Promises.{with_book}

-- Places

lower_behind : (j i : ℕ) → j < i → lower_place j i ≡ i - 1
unfolding lower_place
lower_behind j i l = rw (lt-ltb j i l) refl

lower_before : (j i : ℕ) → i ≤ j → lower_place j i ≡ i
unfolding lower_place
lower_before j i l = rw (le-ltb j i l) refl

lower_suc : (j i : ℕ) → lower_place (suc j) (suc i) ≡ suc (lower_place j i)
lower_suc j i = go (dec_lt j i)
  where
    go : Dec (j < i) → lower_place (suc j) (suc i) ≡ suc (lower_place j i)
    go (yes l) = omega (arith, lower_behind j i l, lower_behind (suc j) (suc i) (omega arith))
    go (no l) = omega (arith, lower_before j i (omega arith), lower_before (suc j) (suc i) (omega arith))

-- a place that is not j is lowered to one of n where it is one of n and one more, and else to n
lower_test : (j f n : ℕ) → j ≤ n → f ≤ suc n → (f ≡ j → ⊥) → ltb (lower_place j f) n ≡ ltb f (suc n)
lower_test j f n l h d = go (dec_lt j f) (dec_lt f (suc n))
  where
    go : Dec (j < f) → Dec (f < suc n) → ltb (lower_place j f) n ≡ ltb f (suc n)
    go (yes b) (yes t) = rw (lower_behind j f b, lt-ltb (f - 1) n (omega arith), lt-ltb f (suc n) t) refl
    go (yes b) (no t) = rw (lower_behind j f b, le-ltb (f - 1) n (omega arith), le-ltb f (suc n) (omega arith)) refl
    go (no b) (yes t) = rw (lower_before j f (omega arith), lt-ltb f n (omega arith), lt-ltb f (suc n) t) refl
    go (no b) (no t) = absurd (omega arith)

-- Calls of members without a line

module _ (es : List Entry) where
  gone_listed : (c : Call) → c.state ≡ withdrawn → is_unlisted es c ≡ false
  unfolding is_unlisted
  gone_listed c e = rw (eq-eqb c.state withdrawn e) refl

  unlisted_here : (c : Call) (cs : List Call) → is_unlisted es c ≡ true → first_unlisted es (c ∷ cs) ≡ 0
  unfolding first_unlisted
  unlisted_here c cs e = rw e refl

  unlisted_next : (c : Call) (cs : List Call) → is_unlisted es c ≡ false → first_unlisted es (c ∷ cs) ≡ suc (first_unlisted es cs)
  unfolding first_unlisted
  unlisted_next c cs e = rw e refl

  unlisted_le : (cs : List Call) → first_unlisted es cs ≤ length cs
  unfolding first_unlisted
  unlisted_le [] = omega arith
  unlisted_le (c ∷ cs) = go (unlisted_le cs) (is_unlisted es c) refl
    where
      go : first_unlisted es cs ≤ length cs → (t : Bool) → is_unlisted es c ≡ t → first_unlisted es (c ∷ cs) ≤ length (c ∷ cs)
      go ih true e = omega (arith, unlisted_here c cs e)
      go ih false e = omega (arith, unlisted_next c cs e)

  -- a withdrawn call is not the first of them,
  not_gone : (cs : List Call) (j : ℕ) → j < length cs → (call_in cs j).state ≡ withdrawn → first_unlisted es cs ≡ j → ⊥
  not_gone [] j l g e = not-suc-le-zero l
  not_gone (c ∷ cs) zero l g e = omega (arith, unlisted_next c cs (gone_listed c g))
  not_gone (c ∷ cs) (suc j) l g e = go (not_gone cs j (omega arith) g) (is_unlisted es c) refl
    where
      go : (first_unlisted es cs ≡ j → ⊥) → (t : Bool) → is_unlisted es c ≡ t → ⊥
      go ih true h = omega (arith, unlisted_here c cs h)
      go ih false h = let s = unlisted_next c cs h in ih (omega arith)

  -- and without it the first of them is the same, one lower behind it
  unlisted_lowered : (k n : ℕ) (cs : List Call) (j : ℕ) → Rises n cs → j < length cs → call_key (call_in cs j) ≡ k → (call_in cs j).state ≡ withdrawn
      → first_unlisted es (without k cs) ≡ lower_place j (first_unlisted es cs)
  unlisted_lowered k n [] j r l e g = absurd (not-suc-le-zero l)
  unlisted_lowered k n (c ∷ cs) zero r l e g =
      let same = ap (first_unlisted es) (without_hit k c cs e ∙ without_none k (suc (call_key c)) cs (omega arith) r.1) in
      let next = unlisted_next c cs (gone_listed c g) in
      omega (arith, lower_behind 0 (first_unlisted es (c ∷ cs)) (omega arith))
  unlisted_lowered k n (c ∷ cs) (suc j) r l e g =
      let above = call_above (suc (call_key c)) cs j r.1 (omega arith) in
      ap (first_unlisted es) (without_miss k c cs (λ f. omega arith)) ∙ go (unlisted_lowered k (suc (call_key c)) cs j r.1 (omega arith) e g) (is_unlisted es c) refl
    where
      call_above : (n : ℕ) (cs : List Call) (j : ℕ) → Rises n cs → j < length cs → n ≤ call_key (call_in cs j)
      call_above n [] j r l = absurd (not-suc-le-zero l)
      call_above n (c ∷ cs) zero r l = r.0
      call_above n (c ∷ cs) (suc j) r l = let h = call_above (suc (call_key c)) cs j r.1 (omega arith) in omega (arith, r.0)

      go : first_unlisted es (without k cs) ≡ lower_place j (first_unlisted es cs) → (t : Bool) → is_unlisted es c ≡ t
          → first_unlisted es (c ∷ without k cs) ≡ lower_place (suc j) (first_unlisted es (c ∷ cs))
      go ih true h = unlisted_here c (without k cs) h ∙ sym (ap (lower_place (suc j)) (unlisted_here c cs h) ∙ lower_before (suc j) 0 (omega arith))
      go ih false h =
          unlisted_next c (without k cs) h ∙ ap suc ih ∙ sym (lower_suc j (first_unlisted es cs)) ∙ sym (ap (lower_place (suc j)) (unlisted_next c cs h))

-- The members

-- the places of records in a member's turn are one lower behind record j; a ramping file's place is none of them
unfoldable lowered_turn : ℕ → MemberEarned → MemberEarned
lowered_turn j (ScoreAndHours g) = ScoreAndHours g
lowered_turn j (NotScored number place) = NotScored number (cond (is_of_record number) (lower_place j place) place)
lowered_turn j (NotRamped number place) = NotRamped number place

module _ (j : ℕ) where
  with_lowered : (e : Earned) (r : Ramped) → earned_with (lowered_earned j e) r ≡ lowered_turn j (earned_with e r)
  unfolding earned_with lowered_earned lowered_turn
  with_lowered (Accepted g) r = go (eqb r.number 0)
    where
      both : MemberEarned
      both = ScoreAndHours (record { 0 = grains_plus g.0 r.grains.0 })

      go : (t : Bool) → cond t both (NotRamped r.number r.place) ≡ lowered_turn j (cond t both (NotRamped r.number r.place))
      go true = refl
      go false = refl
  with_lowered (Refused number place) r = refl

  first_same : (es : List MemberEarned) → first_refused_member (map (lowered_turn j) es) ≡ first_refused_member es
  unfolding first_refused_member lowered_turn
  first_same [] = refl
  first_same (ScoreAndHours g ∷ es) = ap suc (first_same es)
  first_same (NotScored number place ∷ es) = refl
  first_same (NotRamped number place ∷ es) = refl

  grains_same : (es : List MemberEarned) → map earned_grains (map (lowered_turn j) es) ≡ map earned_grains es
  unfolding earned_grains lowered_turn
  grains_same [] = refl
  grains_same (ScoreAndHours g ∷ es) = ap (λ (gs : List Grains). g ∷ gs) (grains_same es)
  grains_same (NotScored number place ∷ es) = ap (λ (gs : List Grains). record { 0 = 0 } ∷ gs) (grains_same es)
  grains_same (NotRamped number place ∷ es) = ap (λ (gs : List Grains). record { 0 = 0 } ∷ gs) (grains_same es)

  none_lowered : lowered_turn j (NotScored 0 0) ≡ NotScored 0 0
  unfolding lowered_turn is_of_record
  none_lowered = refl

  one_lowered : (es : List MemberEarned) (i : ℕ) → get_or (map (lowered_turn j) es) i (NotScored 0 0) ≡ lowered_turn j (get_or es i (NotScored 0 0))
  one_lowered [] i = sym none_lowered
  one_lowered (e ∷ es) zero = refl
  one_lowered (e ∷ es) (suc i) = one_lowered es i

  fault_lowered : (line : ℕ) (e : MemberEarned) → member_fault line (lowered_turn j e) ≡ lowered_fault j (member_fault line e)
  unfolding member_fault lowered_turn lowered_fault
  fault_lowered line (ScoreAndHours g) = refl
  fault_lowered line (NotScored number place) = refl
  fault_lowered line (NotRamped number place) = refl

  part_lowered : InPart ≡ lowered_fault j InPart
  unfolding lowered_fault
  part_lowered = refl

  line_lowered : (line : ℕ) → InRegister line ≡ lowered_fault j (InRegister line)
  unfolding lowered_fault
  line_lowered line = refl

  call_lowered : (call : ℕ) → Unlisted (lower_place j call) ≡ lowered_fault j (Unlisted call)
  unfolding lowered_fault
  call_lowered call = refl

  refused_lowered : (f : Fault) → month_refused (lowered_fault j f) ≡ lowered_statement j (month_refused f)
  unfolding month_refused lowered_statement
  refused_lowered f = refl

  module _ (part : ℕ) (b b' : List ℕ) (header : header_at b' ≡ header_at b) (count : count_at b' ≡ count_at b - 1) where
    shared_lowered : (ls : List LimitedLine) (gs : List Grains) (rs : List Ramped) (o : CeilingOutcome) → shared_month part b' ls gs rs o ≡ lowered_statement j (shared_month part b ls gs rs o)
    unfolding shared_month lowered_statement lowered_fault month_refused
    shared_lowered ls gs rs o = go (ℕ_discrete o.number 0)
      where
        go : Dec (o.number ≡ 0) → shared_month part b' ls gs rs o ≡ lowered_statement j (shared_month part b ls gs rs o)
        go (yes e) = rw (eq-eqb o.number 0 e, header, count) refl
        go (no e) = rw (ne_eqb o.number 0 e) refl

    month_lowered : (es : List Entry) (rs : List Ramped) (earned : List MemberEarned) → earned_month part es b' rs (map (lowered_turn j) earned) ≡ lowered_statement j
        (earned_month part es b rs earned)
    unfolding earned_month month_lines
    month_lowered es rs earned = go (dec_lt (first_refused_member earned) (length earned))
      where
        f : ℕ
        f = first_refused_member earned

        go : Dec (f < length earned) → earned_month part es b' rs (map (lowered_turn j) earned) ≡ lowered_statement j (earned_month part es b rs earned)
        go (yes l) =
            rw (first_same earned, length-map earned (lowered_turn j), one_lowered earned f, lt-ltb f (length earned) l)
            (ap month_refused (fault_lowered f (get_or earned f (NotScored 0 0))) ∙ refused_lowered (member_fault f (get_or earned f (NotScored 0 0))))
        go (no l) =
            rw (first_same earned, length-map earned (lowered_turn j), grains_same earned, le-ltb f (length earned) (omega arith))
            (shared_lowered (month_lines es earned) (map earned_grains earned) rs (ceiling part (month_lines es earned)))

-- The month

module _ (b : List ℕ) (sound : Sound b) (j : ℕ) (l : j < count_at b) (gone : (record_at b j).state ≡ withdrawn) where
  abbrev key : ℕ
  key = call_key (record_at b j)

  abbrev less : List ℕ
  less = book_without key b

  one_fewer : count_at b ≡ suc (count_at less)
  one_fewer = (records_left b sound j l).fewer

  earnings_lowered : (es : List Entry) (series lengths : List ℕ) (ramped : List Ramped)
      → earnings es less series lengths ramped ≡ map (lowered_turn j) (earnings es b series lengths ramped)
  unfolding earnings
  earnings_lowered [] series lengths ramped = refl
  earnings_lowered (e ∷ es) series lengths ramped =
      ap₂ (λ (x : MemberEarned) (xs : List MemberEarned). x ∷ xs)
      (ap (λ (x : Earned). earned_with x (get_or ramped 0 no_ramping)) (withdrawn_nobody b sound j l gone e.member (take (get_or lengths 0 0) series))
      ∙ with_lowered j (grains_earned e.member b (take (get_or lengths 0 0) series)) (get_or ramped 0 no_ramping))
      (earnings_lowered es (drop (get_or lengths 0 0) series) (drop 1 lengths) (drop 1 ramped))

  rising : Rises 0 (calls_of b)
  rising = rw (sound_reads b sound).1 sound.rising

  long : length (calls_of b) ≡ count_at b
  unfolding calls_of
  long = length_calls b (count_at b) 0

  call_is : call_in (calls_of b) j ≡ record_at b j
  unfolding calls_of
  call_is = in_calls b 0 (count_at b) j l ∙ ap (record_at b) (omega arith)

  module _ (es : List Entry) where
    first_lowered : first_unlisted es (calls_of less) ≡ lower_place j (first_unlisted es (calls_of b))
    first_lowered =
        ap (first_unlisted es) (without_reads key b sound).1
        ∙ unlisted_lowered es key 0 (calls_of b) j rising (omega (arith, long)) (ap call_key call_is) (ap (λ (c : Call). c.state) call_is ∙ gone)

    test_same : ltb (first_unlisted es (calls_of less)) (count_at less) ≡ ltb (first_unlisted es (calls_of b)) (count_at b)
    test_same =
        ap (λ (f : ℕ). ltb f (count_at less)) first_lowered
        ∙ lower_test j (first_unlisted es (calls_of b)) (count_at less) (omega (arith, one_fewer)) (omega (arith, one_fewer, long, unlisted_le es (calls_of b)))
        (not_gone es (calls_of b) j (omega (arith, long)) (ap (λ (c : Call). c.state) call_is ∙ gone))
        ∙ ap (ltb (first_unlisted es (calls_of b))) (sym one_fewer)

  zero_check : (a : List ℕ) → Sound a → (check a).number ≡ 0
  zero_check a s = ap (λ (v : Verdict). v.number) (sound_accepted a s)

  -- The statement over a sound book without a withdrawn record is that over the book, one call fewer, places behind the record one lower.
  pub withdrawn_month : (g : MonthGiven) → settling (with_book g less) ≡ lowered_statement j (settling (with_book g b))
  unfolding settling
  withdrawn_month g = fair (dec_lt most_part g.part)
    where
      bad : ℕ
      bad = first_bad_entry 0 g.entries

      first : ℕ
      first = first_unlisted g.entries (calls_of b)

      in_turn : earned_month g.part g.entries less g.ramped (earnings g.entries less g.series g.lengths g.ramped)
          ≡ lowered_statement j (earned_month g.part g.entries b g.ramped (earnings g.entries b g.series g.lengths g.ramped))
      in_turn =
          ap (earned_month g.part g.entries less g.ramped) (earnings_lowered g.entries g.series g.lengths g.ramped)
          ∙ month_lowered j g.part b less (without_reads key b sound).0 (omega (arith, one_fewer)) g.entries g.ramped (earnings g.entries b g.series g.lengths g.ramped)

      go : g.part ≤ most_part → Dec (bad < g.count) → Dec (first < count_at b) → settling (with_book g less) ≡ lowered_statement j (settling (with_book g b))
      go p (yes h) t = rw (le-ltb most_part g.part p, lt-ltb bad g.count h) (ap month_refused (line_lowered j bad) ∙ refused_lowered j (InRegister bad))
      go p (no h) (yes t) =
          rw (
            le-ltb most_part g.part p,
            le-ltb bad g.count (omega arith),
            zero_check b sound,
            zero_check less (without_sound key b sound),
            test_same g.entries,
            lt-ltb first (count_at b) t,
            first_lowered g.entries,
          )
          (ap month_refused (call_lowered j first) ∙ refused_lowered j (Unlisted first))
      go p (no h) (no t) =
          rw (
            le-ltb most_part g.part p,
            le-ltb bad g.count (omega arith),
            zero_check b sound,
            zero_check less (without_sound key b sound),
            test_same g.entries,
            le-ltb first (count_at b) (omega arith),
          )
          in_turn

      fair : Dec (most_part < g.part) → settling (with_book g less) ≡ lowered_statement j (settling (with_book g b))
      fair (yes h) = rw (lt-ltb most_part g.part h) (ap month_refused (part_lowered j) ∙ refused_lowered j InPart)
      fair (no h) = go (omega arith) (dec_lt bad g.count) (dec_lt first (count_at b))
