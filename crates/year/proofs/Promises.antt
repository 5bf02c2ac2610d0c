-- What a year promises: of each member the months present, the sums over them and the largest; the first refusal stands; one by one as in a list. Assumes nothing.
use mathlib.Core.Path.{◌≡◌, refl, sym, ◌∙◌, ap, subst}
use mathlib.Core.Bool.{true, false}
use mathlib.Core.List.Memᴰ.{head as here}
use mathlib.Core.List.{List, [], ◌∷◌, ◌++◌, map, Memᴰ as In}
use mathlib.Core.Logic.{◌↔◌, ◌≢◌}
use Prim.Native.Nat.{ℕ, ◌+◌, ◌-◌, ◌*◌, ◌≤◌, ◌<◌}
use native.Mathlib.Decide.{dec_lt}
use native.Mathlib.Omega.{arith}
use lib.IntN.{nat_abs}
use lib.Signed.{◌≤ℤ◌, ◌<ℤ◌}
use lib.ListN.{length, get_or, length-append}
use Rattle.units.specs.Month.{months_per_year}
use Rattle.share.specs.Sharing.{most_compensation, most_assessment}
use Rattle.year.specs.declared.YearLine.{YearLine}
use Rattle.year.specs.declared.MonthStatement.{MonthStatement}
use Rattle.year.specs.declared.Largest.{Largest}
use Rattle.year.specs.declared.MemberYear.{MemberYear}
use Rattle.year.specs.declared.Year.{Year}
use Rattle.year.specs.Year.{most_statements, most_members, most_either_way, lines_in, sumℤ, year_in, last_month, first_bad_statement, MonthLine, present_in, has_month, months_from, sumℕ}
use Rattle.year.specs.Year.{sums_of, amount_in, largest_of, member_year, no_months, year_refused, year_taken, year_of, HasTaken}
use Rattle.year.specs.Present.{LineOf, own_line}
use Rattle.year.specs.Verdict.{IsMonth}
use Rattle.year.specs.Every.{year_with}
use Rattle.year.proofs.Members.{members_at, compensation_of, assessment_of, share_of, amount_of, sum_most, signed_most}
use Rattle.year.proofs.Taking.{bad_le, bad_stays, refused_is, taken_is, InTurn, in_turn, turn_in, members_by_lem, present_behind, present_fit, most_in_turn, users_most}
use Rattle.year.proofs.Orders.{Rises, AllOf, Sounds, turn_rises, turn_sounds, turn_year, all_turn, accepted_all, all_accepted}
use Rattle.year.proofs.Highest.{largest_top, largest_one, largest_earliest}
use Rattle.year.proofs.Present.{present_exactly, present_rises, months_at, month_in, sum_over, signed_over, of_absent}

-- Refusals

-- A REFUSED YEAR says number and place alone: every month, sum and largest is 0.
pub refused_zeros : (ss : List MonthStatement) → ((year_of ss).number ≡ 0 → ⊥) → year_of ss ≡ year_refused 10 (year_of ss).place
unfolding year_refused
refused_zeros ss some = go (dec_lt (first_bad_statement [] ss) (length ss))
  where
    go : Dec (first_bad_statement [] ss < length ss) → year_of ss ≡ year_refused 10 (year_of ss).place
    go (yes h) = let e = refused_is ss h in e ∙ ap (λ (y : Year). year_refused 10 y.place) (sym e)
    go (no h) = absurd (some (all_accepted ss (omega (arith, h, bad_le [] ss))))

-- THE FIRST REFUSAL STANDS: what comes after it changes nothing.
pub first_stands : (ss more : List MonthStatement) → ((year_of ss).number ≡ 0 → ⊥) → year_of (ss ++ more) ≡ year_of ss
first_stands ss more some = go (dec_lt (first_bad_statement [] ss) (length ss))
  where
    go : Dec (first_bad_statement [] ss < length ss) → year_of (ss ++ more) ≡ year_of ss
    go (yes h) =
        let stays = bad_stays [] ss more h in
        refused_is (ss ++ more) (omega (arith, stays, h, length-append ss more)) ∙ ap (year_refused 10) stays ∙ sym (refused_is ss h)
    go (no h) = absurd (some (all_accepted ss (omega (arith, h, bad_le [] ss))))

-- A member of an accepted year

-- what the year tells of a member, by its number
abbrev pub told_of : Year → ℕ → MemberYear
told_of y number = get_or y.members (number - 1) no_months

module _ (ss : List MonthStatement) (accepted : (year_of ss).number ≡ 0) (number : ℕ) (from : 1 ≤ number) (to : number ≤ most_members) where
  abbrev m : MemberYear
  m = told_of (year_of ss) number

  abbrev lines : List MonthLine
  lines = present_in number ss

  turns : InTurn [] ss
  turns = in_turn [] ss (accepted_all ss accepted)

  -- its year is that of its lines in the statements
  pub member_is : m ≡ member_year lines
  unfolding year_taken
  member_is =
      let is : 1 + (number - 1) ≡ number = omega (arith, from) in
      ap (λ (y : Year). told_of y number) (taken_is ss (accepted_all ss accepted)) ∙ ap (λ (ms : List MemberYear). get_or ms (number - 1) no_months) (members_by_lem ss 1 most_members)
      ∙ members_at (λ k. present_in k ss) 1 most_members (number - 1) no_months (omega (arith, from, to)) ∙ ap (λ (k : ℕ). member_year (present_in k ss)) is

  -- WHICH MONTHS ARE PRESENT: those whose statement has a line of the member.
  pub months_present : (month : ℕ) → IsMonth month → (get_or m.months (month - 1) false ≡ true) ↔ ((e : MonthLine) × LineOf ss number e × (e.month ≡ month))
  unfolding member_year
  months_present month h =
      let is : 1 + (month - 1) ≡ month = omega (arith, h) in
      let told : get_or m.months (month - 1) false ≡ has_month month lines =
      ap (λ (x : MemberYear). get_or x.months (month - 1) false) member_is ∙ months_at lines 1 months_per_year (month - 1) (omega (arith, h)) ∙ ap (λ (k : ℕ). has_month k lines) is in (
        λ t. let p = (month_in lines month).0 (sym told ∙ t) in (p.0, (present_exactly number p.0 ss).0 p.1, p.2),
        λ p. told ∙ (month_in lines month).1 (p.0, (present_exactly number p.0 ss).1 p.1, p.2),
      )

  -- EACH SUM IS THE SUM OVER THE MONTHS PRESENT: over the statements, of what the member's line has there, and nothing where it has none.
  pub compensation_sum : m.sums.compensation.0 ≡ sumℕ (map (λ s. (own_line number (lines_in s)).compensation.0) ss)
  unfolding member_year sums_of
  compensation_sum = ap (λ (x : MemberYear). x.sums.compensation.0) member_is ∙ sum_over number (λ l. l.compensation.0) refl ss (turn_sounds [] ss turns)

  pub assessment_sum : m.sums.assessment.0 ≡ sumℕ (map (λ s. (own_line number (lines_in s)).assessment.0) ss)
  unfolding member_year sums_of
  assessment_sum = ap (λ (x : MemberYear). x.sums.assessment.0) member_is ∙ sum_over number (λ l. l.assessment.0) refl ss (turn_sounds [] ss turns)

  pub share_sum : m.sums.share.0 ≡ sumℤ (map (λ s. (own_line number (lines_in s)).share.0) ss)
  unfolding member_year sums_of
  share_sum = ap (λ (x : MemberYear). x.sums.share.0) member_is ∙ signed_over number (λ l. l.share.0) refl ss (turn_sounds [] ss turns)

  pub amount_sum : m.sums.amount.0 ≡ sumℤ (map (λ s. (own_line number (lines_in s)).amount.0) ss)
  unfolding member_year sums_of
  amount_sum = ap (λ (x : MemberYear). x.sums.amount.0) member_is ∙ signed_over number (λ l. l.amount.0) refl ss (turn_sounds [] ss turns)

  -- What the sums can come to: twelve times a month's limit.
  pub sums_within : (m.sums.compensation.0 ≤ most_statements * most_compensation) × (m.sums.assessment.0 ≤ most_statements * most_assessment)
      × (nat_abs m.sums.share.0 ≤ most_statements * most_either_way) × (nat_abs m.sums.amount.0 ≤ most_statements * most_either_way)
  unfolding member_year sums_of
  sums_within =
      let f = present_fit number [] ss turns in
      let few = most_in_turn [] ss turns (omega arith) in
      let c = sum_most compensation_of most_compensation (λ x g. g.1.compensation) lines f.0 in
      let a = sum_most assessment_of most_assessment (λ x g. g.1.assessment) lines f.0 in
      let s = signed_most share_of most_either_way (λ x g. g.1.share) lines f.0 in
      let t = signed_most amount_of most_either_way (λ x g. g.1.amount) lines f.0 in
      rw member_is (omega (arith, c, f.1, few), omega (arith, a, f.1, few), omega (arith, s, f.1, few), omega (arith, t, f.1, few))

  largest_is : m.largest ≡ largest_of lines
  unfolding member_year
  largest_is = ap (λ (x : MemberYear). x.largest) member_is

  -- THE LARGEST, where a month is present: it is at least every amount,
  pub at_least_every : (e : MonthLine) → LineOf ss number e → e.line.amount.0 ≤ℤ m.largest.amount.0
  at_least_every e l = subst (λ (g : Largest). e.line.amount.0 ≤ℤ g.amount.0) (sym largest_is) (largest_top lines e ((present_exactly number e ss).1 l))

  -- it is one of them, with its month,
  pub one_of_them : (e : MonthLine) → LineOf ss number e → (x : MonthLine) × LineOf ss number x × (m.largest ≡ amount_in x)
  one_of_them e l =
      let p = largest_one lines e ((present_exactly number e ss).1 l) in
      (p.0, (present_exactly number p.0 ss).0 p.1, largest_is ∙ p.2)

  -- and no earlier month has it: the amounts before it are below it.
  pub no_earlier : (e : MonthLine) → LineOf ss number e → e.month < m.largest.month → e.line.amount.0 <ℤ m.largest.amount.0
  unfolding last_month
  no_earlier e l h =
      let before = ap (λ (g : Largest). g.month) largest_is in
      let rises = present_rises number 0 ss (turn_rises [] ss turns) (turn_sounds [] ss turns) in
      subst (λ (g : Largest). e.line.amount.0 <ℤ g.amount.0) (sym largest_is)
      (largest_earliest 0 lines rises e ((present_exactly number e ss).1 l) (omega (arith, h, before)))

  -- ALL ZEROS where no month is present.
  pub none_zeros : ((e : MonthLine) → LineOf ss number e → ⊥) → m ≡ no_months
  unfolding member_year months_from has_month sums_of sumℕ sumℤ largest_of no_months
  none_zeros none = member_is ∙ ap member_year (empty lines (λ e k. none e ((present_exactly number e ss).0 k)))
    where
      empty : (es : List MonthLine) → ((e : MonthLine) → In e es → ⊥) → es ≡ []
      empty [] f = refl
      empty (e ∷ es) f = absurd (f e (here refl))

-- And the users' sum.
pub users_within : (ss : List MonthStatement) → nat_abs (year_of ss).users.0 ≤ most_statements * most_either_way
unfolding year_refused year_taken
users_within ss = go (dec_lt (first_bad_statement [] ss) (length ss))
  where
    size : Year → ℕ
    size y = nat_abs y.users.0

    go : Dec (first_bad_statement [] ss < length ss) → nat_abs (year_of ss).users.0 ≤ most_statements * most_either_way
    go (yes h) = omega (arith, ap size (refused_is ss h))
    go (no h) =
        let all : first_bad_statement [] ss ≡ length ss = omega (arith, h, bad_le [] ss) in
        let t = in_turn [] ss all in
        omega (arith, ap size (taken_is ss all), users_most [] ss t, most_in_turn [] ss t (omega arith))

-- A month left out

rises_without : (m : ℕ) (xs : List MonthStatement) (s : MonthStatement) (ys : List MonthStatement) → Rises m (xs ++ s ∷ ys) → Rises m (xs ++ ys)
rises_without m [] s [] r = tt
rises_without m [] s (y ∷ ys) r = (omega (arith, r.0, r.1.0), r.1.1)
rises_without m (x ∷ xs) s ys r = (r.0, rises_without x.month xs s ys r.1)

sounds_without : (xs : List MonthStatement) (s : MonthStatement) (ys : List MonthStatement) → Sounds (xs ++ s ∷ ys) → Sounds (xs ++ ys)
sounds_without [] s ys f = f.1
sounds_without (x ∷ xs) s ys f = (f.0, sounds_without xs s ys f.1)

year_without : (year : ℕ) (xs : List MonthStatement) (s : MonthStatement) (ys : List MonthStatement) → AllOf year (xs ++ s ∷ ys) → AllOf year (xs ++ ys)
year_without year [] s ys h = h.1
year_without year (x ∷ xs) s ys h = (h.0, year_without year xs s ys h.1)

-- statements of one year have the first's
own_year : (year : ℕ) (ss : List MonthStatement) → AllOf year ss → AllOf (year_in ss) ss
unfolding year_in
own_year year [] y = tt
own_year year (s ∷ ss) y = subst (λ (x : ℕ). AllOf x (s ∷ ss)) (sym y.0) y

module _ (xs : List MonthStatement) (s : MonthStatement) (ys : List MonthStatement) (accepted : (year_of (xs ++ s ∷ ys)).number ≡ 0) where
  -- A MONTH LEFT OUT leaves an accepted year,
  pub left_out_accepted : (year_of (xs ++ ys)).number ≡ 0
  unfolding last_month
  left_out_accepted =
      let all = xs ++ s ∷ ys in
      let t = in_turn [] all (accepted_all all accepted) in
      let year = own_year (year_in all) (xs ++ ys) (year_without (year_in all) xs s ys (turn_year [] all t)) in
      all_accepted (xs ++ ys)
      (turn_in [] (xs ++ ys) (all_turn (xs ++ ys) (rises_without 0 xs s ys (turn_rises [] all t)) year (sounds_without xs s ys (turn_sounds [] all t))))

  -- and changes nothing for a member that is not in it.
  pub left_out_same : (number : ℕ) → 1 ≤ number → number ≤ most_members → ((l : YearLine) → In l (lines_in s) → l.number ≢ number)
      → told_of (year_of (xs ++ s ∷ ys)) number ≡ told_of (year_of (xs ++ ys)) number
  unfolding present_in
  left_out_same number from to absent =
      member_is (xs ++ s ∷ ys) accepted number from to
      ∙ ap member_year
      (present_behind number xs (s ∷ ys) ∙ ap (λ (es : List MonthLine). present_in number xs ++ (es ++ present_in number ys)) (of_absent number s.month (lines_in s) absent)
      ∙ sym (present_behind number xs ys))
      ∙ sym (member_is (xs ++ ys) left_out_accepted number from to)

-- One by one

-- a year that was started, and took statement after statement, each as its contract has it
pub data OneByOne : List MonthStatement → Year → Type 0 where
  started : (y : Year) → HasTaken y [] → OneByOne [] y
  took : (ss : List MonthStatement) (s : MonthStatement) (y r : Year) → OneByOne ss y
      → ((xs : List MonthStatement) → HasTaken y xs → HasTaken r (xs ++ s ∷ [])) → OneByOne (ss ++ s ∷ []) r

-- ONE BY ONE AS IN A LIST: it is the year of the statements.
pub one_by_one : (ss : List MonthStatement) (y : Year) → OneByOne ss y → y ≡ year_of ss
one_by_one ss y (started _ h) = h
one_by_one ss y (took before s x _ k h) = h before (one_by_one before x k)

-- Two outcomes that a contract allows are one

pub taken_determined : (ss : List MonthStatement) (y z : Year) → HasTaken y ss → HasTaken z ss → y ≡ z
taken_determined ss y z e f = e ∙ sym f

pub with_determined : (y : Year) (s : MonthStatement) (r t : Year) → r ≡ year_with y s → t ≡ year_with y s → r ≡ t
with_determined y s r t e f = e ∙ sym f
