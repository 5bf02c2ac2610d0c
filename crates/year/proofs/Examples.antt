-- Three statements of 2026 and what they come to, worked out apart; and statements that are refused. They show that the definitions are about something. Assumes nothing.
use mathlib.Core.Path.{◌≡◌, refl, sym, ap, subst}
use mathlib.Core.Bool.{Bool, true, false}
use mathlib.Core.List.Memᴰ
use mathlib.Core.List.Memᴰ.{head as here}
use mathlib.Core.List.Memᴰ.{tail as there}
use mathlib.Core.List.{List, [], ◌∷◌, ◌++◌, Memᴰ as In}
use mathlib.Core.Logic.{◌⊎◌, inl, inr, ◌≢◌}
use Prim.Native.Nat.{ℕ, ◌-◌, ◌<◌}
use native.Mathlib.Omega.{arith}
use lib.IntN.{ℤ, pos, neg_ℤ}
use lib.Signed.{◌<ℤ◌}
use lib.ListN.{length, replicate, set}
use Rattle.units.specs.Month.{months_per_year}
use Rattle.year.specs.declared.YearLine.{YearLine}
use Rattle.year.specs.declared.MonthStatement.{MonthStatement}
use Rattle.year.specs.declared.MemberYear.{MemberYear}
use Rattle.year.specs.declared.Year.{Year}
use Rattle.year.specs.Year.{
  most_members,
  is_within,
  lines_in,
  date_is_sound,
  year_line_is_sound,
  lines_are_sound,
  sumℤ,
  adds_to_zero,
  statement_is_sound,
  year_in,
  last_month,
  goes_on,
  first_bad_statement,
}
use Rattle.year.specs.Year.{of_member, present_in, has_month, months_from, sumℕ, sums_of, largest_from, largest_of, member_year, no_months, members_from, year_refused, year_taken, year_of}
use Rattle.year.specs.Verdict.{blank_line}
use Rattle.year.specs.Present.{LineOf}
use Rattle.year.proofs.Promises.{told_of, no_earlier, left_out_same}

-- fen below zero
abbrev owed : ℕ → ℤ
owed n = neg_ℤ (pos n)

-- number, compensation in fen, assessment in thousandths of a point, share and amount in fen
abbrev line : ℕ → ℕ → ℕ → ℤ → ℤ → YearLine
line n c a s m = record { number = n; compensation = record { 0 = c }; assessment = record { 0 = a }; share = record { 0 = s }; amount = record { 0 = m } }

-- a statement of 2026
abbrev statement : ℕ → List YearLine → ℤ → MonthStatement
statement month ls user =
    record { year = 2026; month = month; count = length ls; lines = ls ++ replicate (most_members - length ls) blank_line; user = record { 0 = user } }

pub january : MonthStatement
january = statement 1 (line 1 300000 0 (owed 55556) (pos 244444) ∷ line 2 0 1000 (owed 111111) (owed 211111) ∷ line 3 0 0 (owed 33333) (owed 33333) ∷ []) (pos 0)

pub march : MonthStatement
march = statement 3 (line 1 0 0 (owed 5) (owed 5) ∷ line 2 10 0 (owed 5) (pos 5) ∷ []) (pos 0)

pub april : MonthStatement
april = statement 4 (line 2 0 0 (owed 7) (owed 7) ∷ []) (pos 7)

-- the months of a year that are present
abbrev marked : List ℕ → List Bool
marked [] = replicate months_per_year false
marked (m ∷ ms) = set (marked ms) (m - 1) true

-- a member's year: which months, compensation, assessment, shares, amounts, the largest and its month
abbrev member : List ℕ → ℕ → ℕ → ℤ → ℤ → ℤ → ℕ → MemberYear
member months c a s m top month =
    record {
      months = marked months;
      sums = record { compensation = record { 0 = c }; assessment = record { 0 = a }; share = record { 0 = s }; amount = record { 0 = m } };
      largest = record { amount = record { 0 = top }; month = month };
    }

pub first : MemberYear
first = member (1 ∷ 3 ∷ []) 300000 0 (owed 55561) (pos 244439) (pos 244444) 1

pub second : MemberYear
second = member (1 ∷ 3 ∷ 4 ∷ []) 10 1000 (owed 111123) (owed 211113) (pos 5) 3

pub third : MemberYear
third = member (1 ∷ []) 0 0 (owed 33333) (owed 33333) (owed 33333) 1

-- Member 1 has two months, member 2 three, member 3 is below zero all year; member 4 and all behind it have zeros; the users have 7.
pub three_statements : year_of (january ∷ march ∷ april ∷ [])
    ≡ record {
      number = 0;
      place = 0;
      year = 2026;
      month = 4;
      count = 3;
      members = first ∷ second ∷ third ∷ replicate (most_members - 3) no_months;
      users = record { 0 = pos 7 };
    }
unfolding january march april first second third is_within date_is_sound year_line_is_sound lines_are_sound sumℤ adds_to_zero statement_is_sound year_in last_month goes_on first_bad_statement
    of_member present_in has_month months_from sumℕ sums_of largest_from largest_of member_year no_months members_from year_taken year_of
three_statements = refl

-- At a tie the earliest month stands, below zero too.
pub earliest_at_a_tie : told_of (year_of (statement 2 (line 9 0 0 (pos 0) (owed 5) ∷ []) (pos 5) ∷ statement 7 (line 9 0 0 (pos 0) (owed 5) ∷ []) (pos 5) ∷ [])) 9
    ≡ member (2 ∷ 7 ∷ []) 0 0 (pos 0) (owed 10) (owed 5) 2
unfolding is_within date_is_sound year_line_is_sound lines_are_sound sumℤ adds_to_zero statement_is_sound year_in last_month goes_on first_bad_statement
    of_member present_in has_month months_from sumℕ sums_of largest_from largest_of member_year no_months members_from year_taken year_of
earliest_at_a_tie = refl

-- Refused: two statements of one month; amounts that do not add up to zero, whatever comes after them.
pub one_month_twice : year_of (january ∷ march ∷ march ∷ []) ≡ year_refused 10 2
unfolding january march is_within date_is_sound year_line_is_sound lines_are_sound sumℤ adds_to_zero statement_is_sound year_in last_month goes_on first_bad_statement year_of
one_month_twice = refl

pub one_fen_over : year_of (january ∷ statement 3 (line 1 0 0 (owed 5) (owed 5) ∷ []) (pos 6) ∷ april ∷ []) ≡ year_refused 10 1
unfolding january april is_within date_is_sound year_line_is_sound lines_are_sound sumℤ adds_to_zero statement_is_sound year_in last_month goes_on first_bad_statement year_of
one_fen_over = refl

-- Share, amount and user's amount are taken up to 2 × 10^11 fen either way, and refused at one fen more

-- one statement alone, by its lines and the user's amount
abbrev alone : List YearLine → ℤ → Year
alone ls user = year_of (statement 5 ls user ∷ [])

pub most_taken :
    ((alone (line 1 0 0 (pos 200000000000) (pos 200000000000) ∷ []) (owed 200000000000)).number ≡ 0)
    × ((alone (line 1 0 0 (owed 200000000000) (owed 200000000000) ∷ []) (pos 200000000000)).number ≡ 0)
unfolding is_within date_is_sound year_line_is_sound lines_are_sound sumℤ adds_to_zero statement_is_sound year_in last_month goes_on first_bad_statement year_refused year_taken year_of
most_taken = (refl, refl)

pub one_fen_beyond :
    (alone (line 1 0 0 (pos 200000000001) (pos 0) ∷ []) (pos 0) ≡ year_refused 10 0)
    × (alone (line 1 0 0 (owed 200000000001) (pos 0) ∷ []) (pos 0) ≡ year_refused 10 0)
    × (alone (line 1 0 0 (pos 0) (pos 200000000001) ∷ line 2 0 0 (pos 0) (owed 1) ∷ []) (owed 200000000000) ≡ year_refused 10 0)
    × (alone (line 1 0 0 (pos 0) (owed 200000000001) ∷ line 2 0 0 (pos 0) (pos 1) ∷ []) (pos 200000000000) ≡ year_refused 10 0)
    × (alone (line 1 0 0 (pos 0) (owed 200000000000) ∷ line 2 0 0 (pos 0) (owed 1) ∷ []) (pos 200000000001) ≡ year_refused 10 0)
    × (alone (line 1 0 0 (pos 0) (pos 200000000000) ∷ line 2 0 0 (pos 0) (pos 1) ∷ []) (owed 200000000001) ≡ year_refused 10 0)
unfolding is_within date_is_sound year_line_is_sound lines_are_sound sumℤ adds_to_zero statement_is_sound year_in last_month goes_on first_bad_statement year_of
one_fen_beyond = (refl, refl, refl, refl, refl, refl)

-- The promises, of these statements

accepted : (year_of (january ∷ march ∷ april ∷ [])).number ≡ 0
accepted = ap (λ (y : Year). y.number) three_statements

-- member 2's line of January
its : LineOf (january ∷ march ∷ april ∷ []) 2 (record { month = 1; line = line 2 0 1000 (owed 111111) (owed 211111) })
unfolding january
its = record { statement = january; given = here refl; month = refl; line = there (here refl); own = refl }

-- member 3 has no line of March
absent : (l : YearLine) → In l (lines_in march) → l.number ≢ 3
unfolding march
absent l m e = go (Memᴰ.cases_cons m)
  where
    other : (x : YearLine) → l ≡ x → l.number ≡ x.number
    other x is = ap (λ (y : YearLine). y.number) is

    last : (l ≡ line 2 10 0 (owed 5) (pos 5)) ⊎ In l [] → ⊥
    last (inl is) = omega (arith, e, other (line 2 10 0 (owed 5) (pos 5)) is)
    last (inr k) = Memᴰ.not-nil k

    go : (l ≡ line 1 0 0 (owed 5) (owed 5)) ⊎ In l (line 2 10 0 (owed 5) (pos 5) ∷ []) → ⊥
    go (inl is) = omega (arith, e, other (line 1 0 0 (owed 5) (owed 5)) is)
    go (inr k) = last (Memᴰ.cases_cons k)

-- member 2 has less in January than in March, which has its largest
pub january_is_below : owed 211111 <ℤ pos 5
unfolding second
january_is_below =
    let largest : told_of (year_of (january ∷ march ∷ april ∷ [])) 2 ≡ second = ap (λ (y : Year). told_of y 2) three_statements in
    subst (λ (m : MemberYear). owed 211111 <ℤ m.largest.amount.0) largest
    (no_earlier (january ∷ march ∷ april ∷ []) accepted 2 (omega arith) (omega arith) (record { month = 1; line = line 2 0 1000 (owed 111111) (owed 211111) }) its
    (subst (λ (m : MemberYear). 1 < m.largest.month) (sym largest) (omega arith)))

-- member 3 is not in March: without that statement it has the same year
pub without_march : told_of (year_of (january ∷ march ∷ april ∷ [])) 3 ≡ told_of (year_of (january ∷ april ∷ [])) 3
without_march = left_out_same (january ∷ []) march (april ∷ []) accepted 3 (omega arith) (omega arith) absent
