-- What the year's table promises: the sum of all amounts below it is nothing. Assumes nothing.
use mathlib.Core.Path.{◌≡◌, refl, sym, ap, ap₂, ◌∙◌}
use mathlib.Core.List.{List, [], ◌∷◌, ◌++◌}
use Prim.Native.Nat.{ℕ, zero, suc, ◌+◌, ◌-◌, ◌≤◌, ◌<◌, min}
use native.Mathlib.Nat.{add-zero}
use native.Mathlib.Decide.{dec_lt}
use native.Mathlib.Omega.{arith}
use lib.IntN.{ℤ, pos, ◌+ℤ◌, ◌-ℤ◌, +ℤ_comm}
use lib.ListN.{length, get_or, take, length-replicate}
use lib.Seq.{take-suc, take_all}
use Rattle.render.specs.Decimal.{word, decimal_in, decimal}
use Rattle.render.specs.Yuan.{two_places, yuan}
use Rattle.form.specs.Form.{bits, shown, is_number, is_sign, byte_text, next_on, next_marked, taken_by, filled_from, filled}
use Rattle.report.specs.declared.totals.Totals.{Totals}
use Rattle.report.specs.Totals.{fen_plus, due_of, owed_of, apart, with_user}
use Rattle.report.proofs.Promises.{top, held, one_more, level, none_short, none_apart}
use Rattle.year.specs.declared.MonthStatement.{MonthStatement}
use Rattle.year.specs.declared.MemberYear.{MemberYear}
use Rattle.year.specs.declared.Year.{Year}
use Rattle.year.specs.Year.{most_members, sumℤ, first_bad_statement, no_months, members_from, year_refused, year_taken, year_of}
use Rattle.year.proofs.Taking.{bad_le, refused_is, taken_is}
use Rattle.year.proofs.Zero.{amounts_told, adds_to_zero_lem}
use Rattle.annual.specs.Sums.{with_member, year_totals}
use Rattle.annual.specs.Forms.{head_form, foot_form, foot_values}
use Rattle.annual.specs.Texts.{members_text, foot_text, year_of_text}

-- The sums without an end

abbrev due_all : List MemberYear → ℕ
due_all [] = 0
due_all (m ∷ ms) = due_of m.sums.amount.0 + due_all ms

abbrev owed_all : List MemberYear → ℕ
owed_all [] = 0
owed_all (m ∷ ms) = owed_of m.sums.amount.0 + owed_all ms

due_append : (xs ys : List MemberYear) → due_all (xs ++ ys) ≡ due_all xs + due_all ys
due_append [] ys = omega arith
due_append (x ∷ xs) ys = omega (arith, due_append xs ys)

owed_append : (xs ys : List MemberYear) → owed_all (xs ++ ys) ≡ owed_all xs + owed_all ys
owed_append [] ys = omega arith
owed_append (x ∷ xs) ys = omega (arith, owed_append xs ys)

due_told : (ms : List MemberYear) (n : ℕ) → n ≤ length ms → (year_totals ms n).due ≡ min (due_all (take n ms)) top
unfolding year_totals with_member fen_plus
due_told ms zero h = omega arith
due_told ms (suc n) h =
    let x = due_of (get_or ms n no_months).sums.amount.0 in
    let e = ap (λ (us : List MemberYear). due_all us) (take-suc ms n no_months h) ∙ due_append (take n ms) (get_or ms n no_months ∷ []) in
    ap (λ (a : ℕ). min (a + x) top) (due_told ms n (omega arith)) ∙ held (due_all (take n ms)) x
    ∙ ap (λ (m : ℕ). min m top) (sym (e ∙ ap (λ (m : ℕ). due_all (take n ms) + m) (add-zero x)))

owed_told : (ms : List MemberYear) (n : ℕ) → n ≤ length ms → (year_totals ms n).owed ≡ min (owed_all (take n ms)) top
unfolding year_totals with_member fen_plus
owed_told ms zero h = omega arith
owed_told ms (suc n) h =
    let x = owed_of (get_or ms n no_months).sums.amount.0 in
    let e = ap (λ (us : List MemberYear). owed_all us) (take-suc ms n no_months h) ∙ owed_append (take n ms) (get_or ms n no_months ∷ []) in
    ap (λ (a : ℕ). min (a + x) top) (owed_told ms n (omega arith)) ∙ held (owed_all (take n ms)) x
    ∙ ap (λ (m : ℕ). min m top) (sym (e ∙ ap (λ (m : ℕ). owed_all (take n ms) + m) (add-zero x)))

-- amounts are what is due less what is owed
balance : (ms : List MemberYear) → sumℤ (amounts_told ms) ≡ pos (due_all ms) -ℤ pos (owed_all ms)
unfolding sumℤ
balance [] = refl
balance (m ∷ ms) = ap (λ (z : ℤ). m.sums.amount.0 +ℤ z) (balance ms) ∙ one_more m.sums.amount.0 (due_all ms) (owed_all ms)

from_long : (ss : List MonthStatement) (number n : ℕ) → length (members_from ss number n) ≡ n
unfolding members_from
from_long ss number zero = refl
from_long ss number (suc n) = ap suc (from_long ss (suc number) n)

members_long : (ss : List MonthStatement) → length (year_of ss).members ≡ most_members
unfolding year_refused year_taken
members_long ss = go (dec_lt (first_bad_statement [] ss) (length ss))
  where
    go : Dec (first_bad_statement [] ss < length ss) → length (year_of ss).members ≡ most_members
    go (yes h) = ap (λ (y : Year). length y.members) (refused_is ss h) ∙ length-replicate most_members no_months
    go (no h) = ap (λ (y : Year). length y.members) (taken_is ss (omega (arith, h, bad_le [] ss))) ∙ from_long ss 1 most_members

-- what is due and what is owed below a year's table, the users' sum included
abbrev told : Year → Totals
told y = with_user (year_totals y.members 64) y.users.0

-- the values of its foot
abbrev values_below : Year → List ℕ
values_below y = foot_values y.users.0 (told y)

-- as much is due as is owed
level_year : (ss : List MonthStatement) → (told (year_of ss)).due ≡ (told (year_of ss)).owed
unfolding with_user fen_plus
level_year ss =
    let all = (year_of ss).members in
    let user = (year_of ss).users.0 in
    let long = members_long ss in
    let front : take 64 all ≡ all = take_all 64 all (omega (arith, long)) in
    let same : due_of user + due_all all ≡ owed_of user + owed_all all =
    level (due_of user + due_all all) (owed_of user + owed_all all)
    (sym (one_more user (due_all all) (owed_all all)) ∙ ap (λ (z : ℤ). user +ℤ z) (sym (balance all)) ∙ +ℤ_comm user (sumℤ (amounts_told all)) ∙ adds_to_zero_lem ss) in
    let equal : owed_all all + owed_of user ≡ due_all all + due_of user = omega (arith, same) in
    let d = due_told all 64 (omega (arith, long)) ∙ ap (λ (ms : List MemberYear). min (due_all ms) top) front in
    let o = owed_told all 64 (omega (arith, long)) ∙ ap (λ (ms : List MemberYear). min (owed_all ms) top) front in
    ap (λ (n : ℕ). min (n + due_of user) top) d ∙ held (due_all all) (due_of user)
    ∙ sym (ap (λ (n : ℕ). min (n + owed_of user) top) o ∙ held (owed_all all) (owed_of user) ∙ ap (λ (n : ℕ). min n top) equal)

-- the foot of a year whose amounts are even
abbrev pub even_form : List ℕ
even_form = word "user amount %s\nall compensation %y assessment %y amounts 0.00\n"

even_foot : (u c a : ℕ) → filled foot_form (u ∷ c ∷ a ∷ 0 ∷ 0 ∷ []) ≡ filled even_form (u ∷ c ∷ a ∷ 0 ∷ 0 ∷ [])
unfolding shown is_number is_sign byte_text next_on next_marked taken_by filled_from yuan two_places decimal decimal_in
even_foot u c a = refl

-- where as much is due as is owed the amounts are 0.00
even : (users : ℤ) (t : Totals) → t.due ≡ t.owed → foot_text users t ≡ filled even_form (foot_values users t)
unfolding foot_text foot_values
even users t e =
    let p : t.owed - t.due ≡ 0 = ap (λ (m : ℕ). t.owed - m) e ∙ none_short t.owed in
    let q : apart t.due t.owed ≡ 0 = ap (λ (m : ℕ). apart m t.owed) e ∙ none_apart t.owed in
    let vs : ℕ → ℕ → List ℕ = λ m n. bits users ∷ t.compensation ∷ t.assessment ∷ m ∷ n ∷ [] in
    ap (filled foot_form) (ap₂ vs p q) ∙ even_foot (bits users) t.compensation t.assessment ∙ sym (ap (filled even_form) (ap₂ vs p q))

-- THE SUM OF ALL AMOUNTS below a year's table, the users' among them, is 0.00.
pub year_amounts_told : (area : ℕ) (ss : List MonthStatement)
    → year_of_text area (year_of ss)
    ≡ filled head_form (area ∷ (year_of ss).year ∷ (year_of ss).count ∷ []) ++ members_text (year_of ss).members 64 ++ filled even_form (values_below (year_of ss))
unfolding year_of_text
year_amounts_told area ss =
    let y = year_of ss in
    ap (λ (l : List ℕ). filled head_form (area ∷ y.year ∷ y.count ∷ []) ++ members_text y.members 64 ++ l) (even y.users.0 (told y) (level_year ss))
