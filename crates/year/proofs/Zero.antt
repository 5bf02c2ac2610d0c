-- Over the year the amounts of all members and users add up to zero. Assumes nothing.
use mathlib.Core.Path.{◌≡◌, refl, sym, ◌∙◌, ap}
use mathlib.Core.Bool.{Bool, true, false, cond}
use mathlib.Core.List.{List, [], ◌∷◌, ◌++◌, map}
use Prim.Native.Nat.{ℕ, zero, suc, ◌+◌, ◌≤◌, ◌<◌}
use native.Mathlib.Decide.{dec_lt}
use native.Mathlib.Omega.{arith}
use borrow.Author.Tests.{eq-eqb, ne_eqb}
use lib.Dec.{eqb}
use lib.IntN.{ℤ, pos, ◌+ℤ◌, +ℤ_assoc, +ℤ_comm, +ℤ_idl, +ℤ_idr}
use lib.ListN.{length, replicate}
use Rattle.year.specs.declared.YearLine.{YearLine}
use Rattle.year.specs.declared.MonthStatement.{MonthStatement}
use Rattle.year.specs.declared.MemberYear.{MemberYear}
use Rattle.year.specs.declared.Year.{Year}
use Rattle.year.specs.Year.{most_members, lines_in, year_line_is_sound, lines_are_sound, sumℤ, amounts_of, first_bad_statement, MonthLine, of_member, present_in, sums_of, member_year}
use Rattle.year.specs.Year.{no_months, members_from, year_refused, year_taken, year_of}
use Rattle.year.proofs.Signs.{sum_behind}
use Rattle.year.proofs.Lines.{line_fits, two}
use Rattle.year.proofs.Statements.{statement_fits, lines_tested}
use Rattle.year.proofs.Members.{amount_of}
use Rattle.year.proofs.Taking.{bad_le, refused_is, taken_is, in_turn, user_of}
use Rattle.year.proofs.Orders.{Sounds, turn_sounds}

left_comm : (a b c : ℤ) → a +ℤ (b +ℤ c) ≡ b +ℤ (a +ℤ c)
left_comm a b c = sym (+ℤ_assoc a b c) ∙ ap (λ (x : ℤ). x +ℤ c) (+ℤ_comm a b) ∙ +ℤ_assoc b a c

by_twos : (a b c d : ℤ) → (a +ℤ b) +ℤ (c +ℤ d) ≡ (a +ℤ c) +ℤ (b +ℤ d)
by_twos a b c d = simp (+ℤ_assoc, left_comm)

-- Sums over the members

-- of so many members from a number on
abbrev sum_by : (ℕ → ℤ) → ℕ → ℕ → ℤ
sum_by f number zero = pos 0
sum_by f number (suc n) = f number +ℤ sum_by f (suc number) n

by_same : (f g : ℕ → ℤ) → ((k : ℕ) → f k ≡ g k) → (number n : ℕ) → sum_by f number n ≡ sum_by g number n
by_same f g e number zero = refl
by_same f g e number (suc n) = λ i. e number i +ℤ by_same f g e (suc number) n i

by_plus : (f g : ℕ → ℤ) (number n : ℕ) → sum_by (λ k. f k +ℤ g k) number n ≡ sum_by f number n +ℤ sum_by g number n
by_plus f g number zero = refl
by_plus f g number (suc n) =
    ap (λ (z : ℤ). (f number +ℤ g number) +ℤ z) (by_plus f g (suc number) n) ∙ by_twos (f number) (g number) (sum_by f (suc number) n) (sum_by g (suc number) n)

-- an amount of one member alone
abbrev only : ℕ → ℤ → ℕ → ℤ
only x a k = cond (eqb x k) a (pos 0)

by_none : (x : ℕ) (a : ℤ) (number n : ℕ) → x < number → sum_by (only x a) number n ≡ pos 0
by_none x a number zero h = refl
by_none x a number (suc n) h = rw (ne_eqb x number (λ e. omega (arith, e, h))) (+ℤ_idl (sum_by (only x a) (suc number) n) ∙ by_none x a (suc number) n (omega (arith, h)))

by_one : (x : ℕ) (a : ℤ) (number n : ℕ) → number ≤ x → x < number + n → sum_by (only x a) number n ≡ a
by_one x a number zero h k = absurd (omega (arith, h, k))
by_one x a number (suc n) h k = go (dec_lt number x) (by_one x a (suc number) n)
  where
    go : Dec (number < x) → (suc number ≤ x → x < suc number + n → sum_by (only x a) (suc number) n ≡ a) → only x a number +ℤ sum_by (only x a) (suc number) n ≡ a
    go (yes l) rec = rw (ne_eqb x number (λ e. omega (arith, e, l))) (+ℤ_idl (sum_by (only x a) (suc number) n) ∙ rec (omega (arith, l)) (omega (arith, k)))
    go (no l) rec =
        let is : x ≡ number = omega (arith, h, l) in
        rw (eq-eqb x number is) (ap (λ (z : ℤ). a +ℤ z) (by_none x a (suc number) n (omega (arith, is))) ∙ +ℤ_idr a)

-- Of a month's lines

abbrev month_amount : ℕ → List YearLine → ℕ → ℤ
month_amount month ls k = sumℤ (map amount_of (of_member k month ls))

of_sum : (month : ℕ) (l : YearLine) (ls : List YearLine) (k : ℕ) → month_amount month (l ∷ ls) k ≡ only l.number l.amount.0 k +ℤ month_amount month ls k
unfolding of_member sumℤ
of_sum month l ls k = go (eqb l.number k)
  where
    go : (t : Bool) → sumℤ (map amount_of (cond t (record { month = month; line = l } ∷ of_member k month ls) (of_member k month ls)))
        ≡ cond t l.amount.0 (pos 0) +ℤ sumℤ (map amount_of (of_member k month ls))
    go true = refl
    go false = sym (+ℤ_idl (sumℤ (map amount_of (of_member k month ls))))

none_sum : (number n : ℕ) → sum_by (λ k. pos 0) number n ≡ pos 0
none_sum number zero = refl
none_sum number (suc n) = +ℤ_idl (sum_by (λ k. pos 0) (suc number) n) ∙ none_sum (suc number) n

lines_sum : (month before : ℕ) (ls : List YearLine) → lines_are_sound before ls ≡ true → sum_by (month_amount month ls) 1 most_members ≡ sumℤ (amounts_of ls)
unfolding lines_are_sound sumℤ of_member
lines_sum month before [] s = none_sum 1 most_members
lines_sum month before (l ∷ ls) s =
    let t = two (year_line_is_sound before l) (lines_are_sound l.number ls) s in
    let f = (line_fits before l t.0).0.number in
    by_same (month_amount month (l ∷ ls)) (λ k. only l.number l.amount.0 k +ℤ month_amount month ls k) (of_sum month l ls) 1 most_members
    ∙ by_plus (only l.number l.amount.0) (month_amount month ls) 1 most_members
    ∙ (λ i. by_one l.number l.amount.0 1 most_members f.0 (omega (arith, f.1)) i +ℤ lines_sum month l.number ls t.1 i)

-- Of the year

abbrev year_amount : List MonthStatement → ℕ → ℤ
year_amount ss k = sumℤ (map amount_of (present_in k ss))

map_behind : (xs ys : List MonthLine) → map amount_of (xs ++ ys) ≡ map amount_of xs ++ map amount_of ys
map_behind [] ys = refl
map_behind (x ∷ xs) ys = ap (λ (zs : List ℤ). amount_of x ∷ zs) (map_behind xs ys)

present_sum : (s : MonthStatement) (ss : List MonthStatement) (k : ℕ) → year_amount (s ∷ ss) k ≡ month_amount s.month (lines_in s) k +ℤ year_amount ss k
unfolding present_in
present_sum s ss k =
    ap sumℤ (map_behind (of_member k s.month (lines_in s)) (present_in k ss)) ∙ sum_behind (map amount_of (of_member k s.month (lines_in s))) (map amount_of (present_in k ss))

year_zero : (ss : List MonthStatement) → Sounds ss → sum_by (year_amount ss) 1 most_members +ℤ sumℤ (map user_of ss) ≡ pos 0
unfolding present_in sumℤ
year_zero [] f = ap (λ (z : ℤ). z +ℤ pos 0) (none_sum 1 most_members)
year_zero (s ∷ ss) f =
    let own = by_same (year_amount (s ∷ ss)) (λ k. month_amount s.month (lines_in s) k +ℤ year_amount ss k) (present_sum s ss) 1 most_members
    ∙ by_plus (month_amount s.month (lines_in s)) (year_amount ss) 1 most_members
    ∙ ap (λ (z : ℤ). z +ℤ sum_by (year_amount ss) 1 most_members) (lines_sum s.month 0 (lines_in s) (lines_tested s f.0)) in
    ap (λ (z : ℤ). z +ℤ (user_of s +ℤ sumℤ (map user_of ss))) own
    ∙ by_twos (sumℤ (amounts_of (lines_in s))) (sum_by (year_amount ss) 1 most_members) (user_of s) (sumℤ (map user_of ss))
    ∙ (λ i. (statement_fits s f.0).zero i +ℤ year_zero ss f.1 i)

-- the members' amounts of a year
abbrev pub amounts_told : List MemberYear → List ℤ
amounts_told ms = map (λ m. m.sums.amount.0) ms

told_sum : (ss : List MonthStatement) (number n : ℕ) → sumℤ (amounts_told (members_from ss number n)) ≡ sum_by (year_amount ss) number n
unfolding members_from member_year sums_of sumℤ
told_sum ss number zero = refl
told_sum ss number (suc n) = ap (λ (z : ℤ). year_amount ss number +ℤ z) (told_sum ss (suc number) n)

zeros_sum : (n : ℕ) → sumℤ (amounts_told (replicate n no_months)) ≡ pos 0
unfolding sumℤ no_months
zeros_sum zero = refl
zeros_sum (suc n) = +ℤ_idl (sumℤ (amounts_told (replicate n no_months))) ∙ zeros_sum n

-- THE AMOUNTS OF ALL MEMBERS AND USER LINES OVER THE YEAR ADD UP TO ZERO, of a refused year too.
pub adds_to_zero_lem : (ss : List MonthStatement) → sumℤ (amounts_told (year_of ss).members) +ℤ (year_of ss).users.0 ≡ pos 0
unfolding year_refused year_taken
adds_to_zero_lem ss = go (dec_lt (first_bad_statement [] ss) (length ss))
  where
    total : Year → ℤ
    total y = sumℤ (amounts_told y.members) +ℤ y.users.0

    go : Dec (first_bad_statement [] ss < length ss) → total (year_of ss) ≡ pos 0
    go (yes h) = ap total (refused_is ss h) ∙ ap (λ (z : ℤ). z +ℤ pos 0) (zeros_sum most_members)
    go (no h) =
        let all : first_bad_statement [] ss ≡ length ss = omega (arith, h, bad_le [] ss) in
        ap total (taken_is ss all) ∙ ap (λ (z : ℤ). z +ℤ sumℤ (map user_of ss)) (told_sum ss 1 most_members) ∙ year_zero ss (turn_sounds [] ss (in_turn [] ss all))
