-- The year of statements, and of one statement more. Assumes nothing.
use mathlib.Core.Path.{◌≡◌, refl, sym, ◌∙◌, ap}
use mathlib.Core.Bool.{Bool, true, false, cond, ◌||◌}
use mathlib.Core.List.{List, [], ◌∷◌, ◌++◌, map, append_assoc, append-nil}
use Prim.Native.Nat.{ℕ, zero, suc, ◌+◌, ◌*◌, ◌≤◌, ◌<◌}
use native.Mathlib.Nat.{zero-add}
use native.Mathlib.Decide.{dec_lt}
use native.Mathlib.Omega.{arith}
use borrow.Author.Tests.{eq-eqb, ne_eqb, eqb-true, lt-ltb, le-ltb, ltb-true}
use lib.Dec.{ltb, eqb}
use lib.IntN.{ℤ, pos, nat_abs}
use lib.ListN.{length, replicate, length-append}
use lib.Seq.{append_snoc}
use Rattle.le.proofs.Tests.{each}
use Rattle.year.specs.declared.YearLine.{YearLine}
use Rattle.year.specs.declared.MonthStatement.{MonthStatement}
use Rattle.year.specs.declared.MemberYear.{MemberYear}
use Rattle.year.specs.declared.Year.{Year}
use Rattle.year.specs.Year.{most_statements, most_members, most_either_way, lines_in, lines_are_sound, year_line_is_sound, sumℤ, statement_is_sound, year_in, last_month, goes_on, first_bad_statement}
use Rattle.year.specs.Year.{MonthLine, of_member, present_in, months_from, has_month, sumℕ, sums_of, largest_of, member_year, no_months, members_from, year_refused, year_taken, year_of, HasTaken}
use Rattle.year.specs.Verdict.{LineFits, GoesOn, IsMonth}
use Rattle.year.specs.Every.{signed_plus, with_lines, year_takes, year_taking, year_with}
use Rattle.year.proofs.Signs.{abs_plus, sum_more}
use Rattle.year.proofs.Lines.{line_fits, two}
use Rattle.year.proofs.Statements.{statement_fits, lines_tested, turn_sound, goes_on_lem}
use Rattle.year.proofs.Members.{AllFit, fit_behind, signed_exact, members_by, members_same, with_lines_lem}

-- The first bad statement

pub bad_le : (before ss : List MonthStatement) → first_bad_statement before ss ≤ length ss
unfolding first_bad_statement
bad_le before [] = omega arith
bad_le before (s ∷ ss) = go (goes_on before s) (bad_le (before ++ s ∷ []) ss)
  where
    go : (t : Bool) → first_bad_statement (before ++ s ∷ []) ss ≤ length ss → cond t (suc (first_bad_statement (before ++ s ∷ []) ss)) 0 ≤ suc (length ss)
    go true h = omega (arith, h)
    go false h = omega arith

-- behind statements of which none is bad it is among the others,
pub bad_behind : (before xs ys : List MonthStatement) → first_bad_statement before xs ≡ length xs
    → first_bad_statement before (xs ++ ys) ≡ length xs + first_bad_statement (before ++ xs) ys
unfolding first_bad_statement
bad_behind before [] ys h =
    ap (λ (b : List MonthStatement). first_bad_statement b ys) (sym (append-nil before)) ∙ sym (zero-add (first_bad_statement (before ++ []) ys))
bad_behind before (x ∷ xs) ys h = go (goes_on before x) h (bad_behind (before ++ x ∷ []) xs ys)
  where
    go : (t : Bool) → cond t (suc (first_bad_statement (before ++ x ∷ []) xs)) 0 ≡ suc (length xs)
        → (first_bad_statement (before ++ x ∷ []) xs ≡ length xs → first_bad_statement (before ++ x ∷ []) (xs ++ ys) ≡ length xs + first_bad_statement ((before ++ x ∷ []) ++ xs) ys)
        → cond t (suc (first_bad_statement (before ++ x ∷ []) (xs ++ ys))) 0 ≡ suc (length xs) + first_bad_statement (before ++ x ∷ xs) ys
    go false k rec = absurd (omega (arith, k))
    go true k rec =
        let e = rec (omega (arith, k)) ∙ ap (λ (b : List MonthStatement). length xs + first_bad_statement b ys) (append_snoc before x xs) in
        omega (arith, e)

-- and what follows does not move it
pub bad_stays : (before xs ys : List MonthStatement) → first_bad_statement before xs < length xs → first_bad_statement before (xs ++ ys) ≡ first_bad_statement before xs
unfolding first_bad_statement
bad_stays before [] ys h = absurd (omega (arith, h))
bad_stays before (x ∷ xs) ys h = go (goes_on before x) h (bad_stays (before ++ x ∷ []) xs ys)
  where
    go : (t : Bool) → cond t (suc (first_bad_statement (before ++ x ∷ []) xs)) 0 < suc (length xs)
        → (first_bad_statement (before ++ x ∷ []) xs < length xs → first_bad_statement (before ++ x ∷ []) (xs ++ ys) ≡ first_bad_statement (before ++ x ∷ []) xs)
        → cond t (suc (first_bad_statement (before ++ x ∷ []) (xs ++ ys))) 0 ≡ cond t (suc (first_bad_statement (before ++ x ∷ []) xs)) 0
    go false k rec = refl
    go true k rec = ap suc (rec (omega (arith, k)))

-- The two answers

pub refused_is : (ss : List MonthStatement) → first_bad_statement [] ss < length ss → year_of ss ≡ year_refused 10 (first_bad_statement [] ss)
unfolding year_of
refused_is ss h = rw (lt-ltb (first_bad_statement [] ss) (length ss) h)

pub taken_is : (ss : List MonthStatement) → first_bad_statement [] ss ≡ length ss → year_of ss ≡ year_taken ss
unfolding year_of
taken_is ss h = rw (le-ltb (first_bad_statement [] ss) (length ss) (omega (arith, h)))

-- Statements that were all taken

-- each goes on behind those before it
abbrev pub InTurn : List MonthStatement → List MonthStatement → Type 0
InTurn before [] = Unit {0}
InTurn before (s ∷ ss) = (goes_on before s ≡ true) × InTurn (before ++ s ∷ []) ss

pub in_turn : (before ss : List MonthStatement) → first_bad_statement before ss ≡ length ss → InTurn before ss
unfolding first_bad_statement
in_turn before [] h = tt
in_turn before (s ∷ ss) h = go (goes_on before s) refl h (in_turn (before ++ s ∷ []) ss)
  where
    go : (t : Bool) → goes_on before s ≡ t → cond t (suc (first_bad_statement (before ++ s ∷ []) ss)) 0 ≡ suc (length ss)
        → (first_bad_statement (before ++ s ∷ []) ss ≡ length ss → InTurn (before ++ s ∷ []) ss) → InTurn before (s ∷ ss)
    go true e k rec = (e, rec (omega (arith, k)))
    go false e k rec = absurd (omega (arith, k))

pub turn_in : (before ss : List MonthStatement) → InTurn before ss → first_bad_statement before ss ≡ length ss
unfolding first_bad_statement
turn_in before [] t = refl
turn_in before (s ∷ ss) t = rw t.0 (ap suc (turn_in (before ++ s ∷ []) ss t.1))

-- there are at most twelve
pub most_in_turn : (before ss : List MonthStatement) → InTurn before ss → length before ≤ most_statements → length before + length ss ≤ most_statements
most_in_turn before [] t h = omega (arith, h)
most_in_turn before (s ∷ ss) t h =
    let more = length-append before (s ∷ []) in
    let few = (goes_on_lem before s t.0).few in
    omega (arith, more, few, most_in_turn (before ++ s ∷ []) ss t.1 (omega (arith, more, few)))

-- the lines of a member among a month's: they fit, and there is at most one
pub of_none : (number month before : ℕ) (ls : List YearLine) → lines_are_sound before ls ≡ true → number ≤ before → of_member number month ls ≡ []
unfolding of_member lines_are_sound
of_none number month before [] s h = refl
of_none number month before (l ∷ ls) s h =
    let t = two (year_line_is_sound before l) (lines_are_sound l.number ls) s in
    let rises = (line_fits before l t.0).1 in
    rw (ne_eqb l.number number (λ e. omega (arith, e, rises, h))) (of_none number month l.number ls t.1 (omega (arith, rises, h)))

pub of_one : (number month before : ℕ) (ls : List YearLine) → lines_are_sound before ls ≡ true → length (of_member number month ls) ≤ 1
unfolding of_member lines_are_sound
of_one number month before [] s = omega arith
of_one number month before (l ∷ ls) s =
    let t = two (year_line_is_sound before l) (lines_are_sound l.number ls) s in
    go (eqb l.number number) refl (of_none number month l.number ls t.1) (of_one number month l.number ls t.1)
  where
    go : (u : Bool) → eqb l.number number ≡ u → (number ≤ l.number → of_member number month ls ≡ []) → length (of_member number month ls) ≤ 1
        → length (cond u (record { month = month; line = l } ∷ of_member number month ls) (of_member number month ls)) ≤ 1
    go true e none rest = let is = eqb-true l.number number e in rw (none (omega (arith, is))) (omega arith)
    go false e none rest = rest

pub of_fit : (number month before : ℕ) (ls : List YearLine) → IsMonth month → lines_are_sound before ls ≡ true → AllFit (of_member number month ls)
unfolding of_member lines_are_sound
of_fit number month before [] m s = tt
of_fit number month before (l ∷ ls) m s =
    let t = two (year_line_is_sound before l) (lines_are_sound l.number ls) s in
    go (eqb l.number number) (line_fits before l t.0).0 (of_fit number month l.number ls m t.1)
  where
    go : (u : Bool) → LineFits l → AllFit (of_member number month ls) → AllFit (cond u (record { month = month; line = l } ∷ of_member number month ls) (of_member number month ls))
    go true f rest = ((m, f), rest)
    go false f rest = rest

-- so do the lines of a member in statements, and there is at most one of each
module _ (number : ℕ) where
  pub present_behind : (xs ys : List MonthStatement) → present_in number (xs ++ ys) ≡ present_in number xs ++ present_in number ys
  unfolding present_in
  present_behind [] ys = refl
  present_behind (x ∷ xs) ys =
      ap (λ (es : List MonthLine). of_member number x.month (lines_in x) ++ es) (present_behind xs ys)
      ∙ sym (append_assoc (of_member number x.month (lines_in x)) (present_in number xs) (present_in number ys))

  pub present_more : (ss : List MonthStatement) (s : MonthStatement) → present_in number (ss ++ s ∷ []) ≡ present_in number ss ++ of_member number s.month (lines_in s)
  unfolding present_in
  present_more ss s =
      present_behind ss (s ∷ []) ∙ ap (λ (es : List MonthLine). present_in number ss ++ es) (append-nil (of_member number s.month (lines_in s)))

  pub present_fit : (before ss : List MonthStatement) → InTurn before ss → AllFit (present_in number ss) × (length (present_in number ss) ≤ length ss)
  unfolding present_in
  present_fit before [] t = (tt, omega arith)
  present_fit before (s ∷ ss) t =
      let sound = turn_sound before s t.0 in
      let f = statement_fits s sound in
      let lines = lines_tested s sound in
      let own = of_member number s.month (lines_in s) in
      let rest = present_fit (before ++ s ∷ []) ss t.1 in (
        fit_behind own (present_in number ss) (of_fit number s.month 0 (lines_in s) f.month lines) rest.0,
        omega (arith, length-append own (present_in number ss), of_one number s.month 0 (lines_in s) lines, rest.1),
      )

pub members_by_lem : (ss : List MonthStatement) (number n : ℕ) → members_from ss number n ≡ members_by (λ k. present_in k ss) number n
unfolding members_from
members_by_lem ss number zero = refl
members_by_lem ss number (suc n) = ap (λ (ms : List MemberYear). member_year (present_in number ss) ∷ ms) (members_by_lem ss (suc number) n)

-- One statement more

pub last_more : (ss : List MonthStatement) (s : MonthStatement) → last_month (ss ++ s ∷ []) ≡ s.month
unfolding last_month
last_more [] s = refl
last_more (x ∷ []) s = refl
last_more (x ∷ y ∷ ss) s = last_more (y ∷ ss) s

year_more : (ss : List MonthStatement) (s : MonthStatement) → (0 < length ss → s.year ≡ year_in ss) → s.year ≡ year_in (ss ++ s ∷ [])
unfolding year_in
year_more [] s h = refl
year_more (x ∷ ss) s h = h (omega arith)

abbrev pub user_of : MonthStatement → ℤ
user_of s = s.user.0

pub users_most : (before ss : List MonthStatement) → InTurn before ss → nat_abs (sumℤ (map user_of ss)) ≤ length ss * most_either_way
unfolding sumℤ
users_most before [] t = omega arith
users_most before (s ∷ ss) t =
    let u = (statement_fits s (turn_sound before s t.0)).user in
    omega (arith, u, abs_plus (user_of s) (sumℤ (map user_of ss)), users_most (before ++ s ∷ []) ss t.1)

users_snoc : (ss : List MonthStatement) (s : MonthStatement) → map user_of (ss ++ s ∷ []) ≡ map user_of ss ++ user_of s ∷ []
users_snoc [] s = refl
users_snoc (x ∷ ss) s = ap (λ (zs : List ℤ). user_of x ∷ zs) (users_snoc ss s)

module _ (ss : List MonthStatement) (all : first_bad_statement [] ss ≡ length ss) (s : MonthStatement) where
  turns : InTurn [] ss
  turns = in_turn [] ss all

  -- a year takes just the statements that go on,
  takes_is : year_takes (year_taken ss) s ≡ goes_on ss s
  unfolding year_takes year_taken goes_on
  takes_is = refl

  module _ (on : goes_on ss s ≡ true) where
    abbrev g : GoesOn ss s
    g = goes_on_lem ss s on

    members_after : with_lines (members_from ss 1 most_members) s.month (lines_in s) ≡ members_from (ss ++ s ∷ []) 1 most_members
    members_after =
        let f = g.fits in
        ap (λ (ms : List MemberYear). with_lines ms s.month (lines_in s)) (members_by_lem ss 1 most_members)
        ∙ with_lines_lem (λ k. present_in k ss) s.month 0 (lines_in s) f.month (lines_tested s (turn_sound ss s on))
        (λ n h. let p = present_fit n [] ss turns in (p.0, omega (arith, p.1, g.few)))
        ∙ members_same (λ k. present_in k ss ++ of_member k s.month (lines_in s)) (λ k. present_in k (ss ++ s ∷ [])) (λ k. sym (present_more k ss s)) 1 most_members
        ∙ sym (members_by_lem (ss ++ s ∷ []) 1 most_members)

    users_after : signed_plus (sumℤ (map user_of ss)) (user_of s) ≡ sumℤ (map user_of (ss ++ s ∷ []))
    users_after =
        signed_exact (sumℤ (map user_of ss)) (user_of s) (omega (arith, users_most [] ss turns, g.few))
        ∙ sym (sum_more (map user_of ss) (user_of s)) ∙ ap sumℤ (sym (users_snoc ss s))

    -- and is then the year of one more,
    taking_is : year_taking (year_taken ss) s ≡ year_taken (ss ++ s ∷ [])
    unfolding year_taking year_taken
    taking_is =
        λ i. record {
          number = 0;
          place = 0;
          year = year_more ss s g.year i;
          month = sym (last_more ss s) i;
          count = sym (length-append ss (s ∷ [])) i;
          members = members_after i;
          users = record { 0 = users_after i };
        }

    more_taken : first_bad_statement [] (ss ++ s ∷ []) ≡ length (ss ++ s ∷ [])
    unfolding first_bad_statement
    more_taken = let one : first_bad_statement ss (s ∷ []) ≡ 1 = rw on in omega (arith, bad_behind [] ss (s ∷ []) all, one, length-append ss (s ∷ []))

  -- or it is refused there
  more_bad : goes_on ss s ≡ false → first_bad_statement [] (ss ++ s ∷ []) ≡ length ss
  unfolding first_bad_statement
  more_bad off = let none : first_bad_statement ss (s ∷ []) ≡ 0 = rw off in omega (arith, bad_behind [] ss (s ∷ []) all, none)

  taken_with : year_with (year_taken ss) s ≡ year_of (ss ++ s ∷ [])
  unfolding year_with year_taken
  taken_with = go (goes_on ss s) refl
    where
      go : (t : Bool) → goes_on ss s ≡ t → cond (year_takes (year_taken ss) s) (year_taking (year_taken ss) s) (year_refused 10 (length ss)) ≡ year_of (ss ++ s ∷ [])
      go true on = rw (takes_is ∙ on) (taking_is on ∙ sym (taken_is (ss ++ s ∷ []) (more_taken on)))
      go false off =
          let there = more_bad off in
          let far : first_bad_statement [] (ss ++ s ∷ []) < length (ss ++ s ∷ []) = omega (arith, there, length-append ss (s ∷ [])) in
          rw (takes_is ∙ off) (ap (year_refused 10) (sym there) ∙ sym (refused_is (ss ++ s ∷ []) far))

-- THE YEAR AFTER ONE STATEMENT MORE is the year of the statements with it
pub year_with_lem : (ss : List MonthStatement) (s : MonthStatement) → year_with (year_of ss) s ≡ year_of (ss ++ s ∷ [])
unfolding year_with year_refused
year_with_lem ss s = go (dec_lt (first_bad_statement [] ss) (length ss))
  where
    go : Dec (first_bad_statement [] ss < length ss) → year_with (year_of ss) s ≡ year_of (ss ++ s ∷ [])
    go (yes h) =
        let stays = bad_stays [] ss (s ∷ []) h in
        let far : first_bad_statement [] (ss ++ s ∷ []) < length (ss ++ s ∷ []) = omega (arith, stays, h, length-append ss (s ∷ [])) in
        ap (λ (y : Year). year_with y s) (refused_is ss h) ∙ ap (year_refused 10) (sym stays) ∙ sym (refused_is (ss ++ s ∷ []) far)
    go (no h) =
        let all : first_bad_statement [] ss ≡ length ss = omega (arith, h, bad_le [] ss) in
        ap (λ (y : Year). year_with y s) (taken_is ss all) ∙ taken_with ss all s

-- before any statement
pub year_start : year_refused 0 0 ≡ year_of []
unfolding year_refused year_of first_bad_statement year_taken year_in last_month sumℤ sumℕ present_in members_from member_year months_from has_month sums_of largest_of no_months
year_start = λ i. record { number = 0; place = 0; year = 0; month = 0; count = 0; members = sym (go 1 most_members) i; users = record { 0 = pos 0 } }
  where
    go : (number n : ℕ) → members_from [] number n ≡ replicate n no_months
    go number zero = refl
    go number (suc n) = ap (λ (ms : List MemberYear). no_months ∷ ms) (go (suc number) n)

-- The ways of `with`

module _ (y : Year) (s : MonthStatement) where
  pub with_both : (r : Year) → r ≡ year_with y s → ((ss : List MonthStatement) → HasTaken y ss → HasTaken r (ss ++ s ∷ [])) × (r ≡ year_with y s)
  with_both r e = (λ ss h. e ∙ ap (λ (z : Year). year_with z s) h ∙ year_with_lem ss s, e)

  pub with_stands : (y.number ≡ 0 → ⊥) → y ≡ year_with y s
  unfolding year_with
  with_stands h = rw (ne_eqb y.number 0 h)

  pub with_refuses : y.number ≡ 0 → year_takes y s ≡ false → year_refused 10 y.count ≡ year_with y s
  unfolding year_with
  with_refuses h t = rw (eq-eqb y.number 0 h, t)

  pub with_takes : y.number ≡ 0 → year_takes y s ≡ true → year_taking y s ≡ year_with y s
  unfolding year_with
  with_takes h t = rw (eq-eqb y.number 0 h, t)

  -- a statement that is taken is sound, and there is room for it
  pub takes_sound : year_takes y s ≡ true → (y.count < most_statements) × (statement_is_sound s ≡ true)
  unfolding year_takes
  takes_sound h =
      let e = each (ltb y.count most_statements) ((eqb y.count 0 || eqb s.year y.year) ∷ ltb y.month s.month ∷ statement_is_sound s ∷ []) h in
      (ltb-true y.count most_statements e.0, e.1.1.1.0)
