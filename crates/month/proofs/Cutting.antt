-- A month that is settled is settled alike once a window of the joined book is cut. Assumes nothing.
use mathlib.Core.Path.{◌≡◌, refl, sym, ◌∙◌, ap, ap₂}
use mathlib.Core.Bool.{Bool, true, false, cond}
use mathlib.Core.Logic.{◌⊎◌, inl, inr}
use mathlib.Core.List.Memᴰ.{cases_cons as in-cons}
use mathlib.Core.List.Memᴰ.{head as here}
use mathlib.Core.List.Memᴰ.{not-nil as in-nil}
use mathlib.Core.List.Memᴰ.{tail as there}
use mathlib.Core.List.{List, [], ◌∷◌, Memᴰ as In}
use Prim.Native.Nat.{ℕ, suc, ◌≤◌}
use native.Mathlib.Omega.{arith}
use lib.Dec.{eqb}
use lib.ListN.{length, get_or, take, drop}
use borrow.Author.Tests.{eq-eqb, le-ltb}
use Rattle.units.specs.Money.{grains_plus}
use Rattle.call.specs.declared.Call.{Call}
use Rattle.book.specs.declared.Verdict.{Verdict}
use Rattle.book.specs.Book.{count_at, calls_of}
use Rattle.book.specs.Sound.{Sound}
use Rattle.book.proofs.Exact.{sound_accepted}
use Rattle.score.specs.declared.answer.Score.{Score}
use Rattle.score.specs.declared.answer.Earned.{Earned}
use Rattle.score.specs.declared.answer.Earned.TheVariants.{Accepted, Refused}
use Rattle.score.specs.Scoring.{grains_earned, in_fen, scoring}
use Rattle.score.proofs.Turns.{score_is}
use Rattle.share.specs.Sharing.{most_part}
use Rattle.ceiling.specs.Ceiling.{ceiling}
use Rattle.register.specs.declared.Entry.{Entry}
use Rattle.register.specs.Register.{first_bad_entry}
use Rattle.month.specs.declared.Fault.TheVariants.{NoFault}
use Rattle.month.specs.declared.Ramped.{Ramped}
use Rattle.month.specs.declared.Statement.{Statement}
use Rattle.month.specs.declared.members.MemberEarned.{MemberEarned}
use Rattle.month.specs.declared.members.MemberEarned.TheVariants.{ScoreAndHours, NotRamped}
use Rattle.month.specs.Settling.{MonthGiven, is_unlisted, first_unlisted, no_ramping, earned_with, earnings, first_refused_member, shared_month, month_lines, earned_month, settling}
use Rattle.month.specs.Outcomes.{earned_in}
use Rattle.month.proofs.Settled.{listed}
use Rattle.month.proofs.Accepted.{passed}
use Rattle.month.proofs.Promises.{with_book}
use Rattle.book.specs.Cut.{PartOf, Cut}
use Rattle.month.specs.Cutting.{one_call_more}
use Rattle.book.proofs.Cutting.{count_of_calls, cut_count}
use Rattle.score.proofs.Cutting.{cut_earned}

-- Calls of members without a line

module _ (es : List Entry) where
  unlisted_next : (c : Call) (cs : List Call) → is_unlisted es c ≡ false → first_unlisted es (c ∷ cs) ≡ suc (first_unlisted es cs)
  unfolding first_unlisted
  unlisted_next c cs e = rw e refl

  -- where none is found, each call has a line or is withdrawn,
  each_listed : (cs : List Call) → length cs ≤ first_unlisted es cs → (x : Call) → In x cs → is_unlisted es x ≡ false
  unfolding first_unlisted
  each_listed [] l x i = absurd (in-nil i)
  each_listed (c ∷ cs) l x i = go (λ k. each_listed cs k x) (is_unlisted es c) refl l (in-cons i)
    where
      go : (length cs ≤ first_unlisted es cs → In x cs → is_unlisted es x ≡ false) → (t : Bool) → is_unlisted es c ≡ t → suc (length cs) ≤ cond t 0 (suc (first_unlisted es cs))
          → (x ≡ c) ⊎ In x cs → is_unlisted es x ≡ false
      go ih true e l h = absurd (omega arith)
      go ih false e l (inl f) = ap (is_unlisted es) f ∙ e
      go ih false e l (inr j) = ih (omega arith) j

  -- and the other way round
  all_listed : (cs : List Call) → ((x : Call) → In x cs → is_unlisted es x ≡ false) → first_unlisted es cs ≡ length cs
  unfolding first_unlisted
  all_listed [] h = refl
  all_listed (c ∷ cs) h = unlisted_next c cs (h c (here refl)) ∙ ap suc (all_listed cs (λ x i. h x (there i)))

  -- a part has a line where the whole has
  part_listed : (whole part : Call) → PartOf whole part → whole.state ≡ 0 → is_unlisted es part ≡ is_unlisted es whole
  unfolding is_unlisted
  part_listed whole part p l = rw (p.participant, p.live, l) refl

-- The members

-- where none is refused, the first is not, and none behind it
first_turn : (x : Earned) (r : Ramped) (rest : List MemberEarned) → length (earned_with x r ∷ rest) ≤ first_refused_member (earned_with x r ∷ rest)
    → ((in_fen x).number ≡ 0) × (length rest ≤ first_refused_member rest)
unfolding earned_with first_refused_member in_fen
first_turn (Refused number place) r rest l = absurd (omega arith)
first_turn (Accepted g) r rest l = (refl, go (eqb r.number 0) l)
  where
    go : (t : Bool) → length (cond t (ScoreAndHours (record { 0 = grains_plus g.0 r.grains.0 })) (NotRamped r.number r.place) ∷ rest)
        ≤ first_refused_member (cond t (ScoreAndHours (record { 0 = grains_plus g.0 r.grains.0 })) (NotRamped r.number r.place) ∷ rest)
        → length rest ≤ first_refused_member rest
    go true l = omega arith
    go false l = absurd (omega arith)

module _ (b c : List ℕ) (s : Sound b) (t : Sound c) (whole first second : Call) (cut : Cut b c whole first second) where
  listed_cut : (es : List Entry) → count_at b ≤ first_unlisted es (calls_of b) → count_at c ≤ first_unlisted es (calls_of c)
  listed_cut es l =
      let e = all_listed es (calls_of c) (λ x i. go x ((cut.calls x).0 i)) in
      omega (arith, count_of_calls c)
    where
      had : (x : Call) → In x (calls_of b) → is_unlisted es x ≡ false
      had = each_listed es (calls_of b) (omega (arith, count_of_calls b))

      of_part : (x : Call) → PartOf whole x → is_unlisted es x ≡ false
      of_part x p = part_listed es whole x p cut.cuttable.live ∙ had whole cut.cuttable.has

      go : (x : Call) → (x ≡ first) ⊎ ((x ≡ second) ⊎ (In x (calls_of b) × (x ≡ whole → ⊥))) → is_unlisted es x ≡ false
      go x (inl e) = ap (is_unlisted es) e ∙ of_part first cut.cuttable.first_part
      go x (inr (inl e)) = ap (is_unlisted es) e ∙ of_part second cut.cuttable.second_part
      go x (inr (inr h)) = had x h.0

  -- where no member is refused, each earns the same
  earnings_cut : (es : List Entry) (series lengths : List ℕ) (ramped : List Ramped)
      → length (earnings es b series lengths ramped) ≤ first_refused_member (earnings es b series lengths ramped) → earnings es c series lengths ramped ≡ earnings es b series lengths ramped
  unfolding earnings
  earnings_cut [] series lengths ramped l = refl
  earnings_cut (e ∷ es) series lengths ramped l =
      let own = take (get_or lengths 0 0) series in
      let r = get_or ramped 0 no_ramping in
      let x = grains_earned e.member b own in
      let h = first_turn x r (earnings es b (drop (get_or lengths 0 0) series) (drop 1 lengths) (drop 1 ramped)) l in
      let z : (scoring e.member b own).number ≡ 0 = ap (λ (y : Score). y.number) (score_is e.member b own x refl) ∙ h.0 in
      ap₂ (λ (y : Earned) (ys : List MemberEarned). earned_with y r ∷ ys) (cut_earned b c s t whole first second cut e.member own z)
      (earnings_cut es (drop (get_or lengths 0 0) series) (drop 1 lengths) (drop 1 ramped) h.1)

  module _ (part : ℕ) where
    -- the members' grains shared
    shared_more : (es : List Entry) (rs : List Ramped) (earned : List MemberEarned) → length earned ≤ first_refused_member earned → (ceiling part (month_lines es earned)).number ≡ 0
        → earned_month part es c rs earned ≡ one_call_more (earned_month part es b rs earned)
    unfolding earned_month shared_month one_call_more
    shared_more es rs earned l z =
        rw (le-ltb (first_refused_member earned) (length earned) l, eq-eqb (ceiling part (month_lines es earned)).number 0 z, ← cut.header, cut_count b c s t whole first second cut) refl

  -- CUTTING A WINDOW CHANGES NOBODY'S STATEMENT: a month that is settled is settled over the cut of its book too, with the same header, part, R, user's amount and lines, and one call more.
  pub cut_month : (g : MonthGiven) → (settling (with_book g b)).fault ≡ NoFault → settling (with_book g c) ≡ one_call_more (settling (with_book g b))
  unfolding calls_of
  cut_month g none =
      let p = passed (with_book g b) none in
      sym (settled c t p.part p.register (listed_cut g.entries p.listed))
      ∙ ap (earned_month g.part g.entries c g.ramped) (earnings_cut g.entries g.series g.lengths g.ramped p.members)
      ∙ shared_more g.part g.entries g.ramped (earned_in (with_book g b)) p.members p.shared
      ∙ ap one_call_more (settled b s p.part p.register p.listed)
    where
      settled : (a : List ℕ) → Sound a → g.part ≤ most_part → g.count ≤ first_bad_entry 0 g.entries → count_at a ≤ first_unlisted g.entries (calls_of a)
          → earned_month g.part g.entries a g.ramped (earned_in (with_book g a)) ≡ settling (with_book g a)
      settled a u p r l = listed (with_book g a) p r (ap (λ (v : Verdict). v.number) (sound_accepted a u)) (count_at a) (first_unlisted g.entries (calls_of a)) refl refl l

  -- It is settled, with one call more,
  pub cut_settled : (g : MonthGiven) → (settling (with_book g b)).fault ≡ NoFault → ((settling (with_book g c)).fault ≡ NoFault)
      × ((settling (with_book g c)).calls ≡ suc (settling (with_book g b)).calls)
  unfolding one_call_more
  cut_settled g none = let e = cut_month g none in (ap (λ (r : Statement). r.fault) e ∙ none, ap (λ (r : Statement). r.calls) e)

  -- and every line of it is as before.
  pub cut_lines : (g : MonthGiven) → (settling (with_book g b)).fault ≡ NoFault → (settling (with_book g c)).rows ≡ (settling (with_book g b)).rows
  unfolding one_call_more
  cut_lines g none = ap (λ (r : Statement). r.rows) (cut_month g none)
