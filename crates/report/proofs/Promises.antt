-- What the texts promise: the sum below a settled month's table is nothing, and no contract leaves a choice. Assumes nothing.
use mathlib.Core.Path.{◌≡◌, refl, sym, ap, ap₂, ◌∙◌}
use mathlib.Core.List.{List, [], ◌∷◌, ◌++◌, map}
use Prim.Native.Nat.{ℕ, zero, suc, ◌+◌, ◌-◌, ◌^◌, ◌≤◌, min}
use native.Mathlib.Nat.{add-zero, zero-add}
use native.Mathlib.Omega.{arith}
use lib.IntN.{ℤ, pos, negsuc, neg_ℤ, nat_abs, ◌+ℤ◌, ◌-ℤ◌, +ℤ_assoc, +ℤ_comm, +ℤ_idl, neg_ℤ-+ℤ, -ℤ-+ℤ_cancel, pos-+ℤ-pos}
use lib.ListN.{length, get_or, take, replicate, length-append}
use lib.Seq.{take-suc, take_at}
use Rattle.share.proofs.Promises.{sumℤ}
use Rattle.share.specs.Sharing.{below}
use Rattle.ceiling.proofs.Outcomes.{taken_list}
use Rattle.render.specs.Decimal.{word, decimal_in, decimal}
use Rattle.render.specs.Room.{Renders}
use Rattle.render.specs.Yuan.{two_places, yuan}
use Rattle.form.specs.Form.{bits, shown, is_number, is_sign, byte_text, next_on, next_marked, taken_by, filled_from, filled}
use Rattle.month.specs.declared.Fault.TheVariants.{NoFault}
use Rattle.month.specs.declared.Row.{Row}
use Rattle.month.specs.declared.Statement.{Statement}
use Rattle.month.specs.Settling.{MonthGiven, blank_row, filled_rows, settling}
use Rattle.month.specs.Outcomes.{limited_in, lines_in, grains_in, shared_in}
use Rattle.month.proofs.Accepted.{rows_settled, passed, length_rows, length_in, length_limited}
use Rattle.month.proofs.Promises.{amounts_zero}
use Rattle.report.specs.declared.totals.Totals.{Totals}
use Rattle.report.specs.Totals.{fen_plus, due_of, owed_of, apart, with_row, with_user, totals_of}
use Rattle.report.specs.Forms.{foot_form, foot_values}
use Rattle.report.specs.Texts.{rows_text, foot_text, month_of, month_text}

-- Two outcomes allowed by a contract coincide: the buffer byte by byte, and the answer.
pub text_determined : {most : ℕ} {text before after after' : List ℕ} {r r' : ℕ} → Renders most text before after r → Renders most text before after' r' → (after ≡ after') × (r ≡ r')
text_determined f g = (f.bytes.is ∙ sym g.bytes.is, f.long ∙ sym g.long)

-- The sums without an end

abbrev due_all : List Row → ℕ
due_all [] = 0
due_all (r ∷ rs) = due_of r.amount.0 + due_all rs

abbrev owed_all : List Row → ℕ
owed_all [] = 0
owed_all (r ∷ rs) = owed_of r.amount.0 + owed_all rs

abbrev pub top : ℕ
top = 2 ^ 64 - 1

pub held : (a x : ℕ) → min (min a top + x) top ≡ min (a + x) top
held a x = omega arith

due_append : (xs ys : List Row) → due_all (xs ++ ys) ≡ due_all xs + due_all ys
due_append [] ys = omega arith
due_append (x ∷ xs) ys = omega (arith, due_append xs ys)

owed_append : (xs ys : List Row) → owed_all (xs ++ ys) ≡ owed_all xs + owed_all ys
owed_append [] ys = omega arith
owed_append (x ∷ xs) ys = omega (arith, owed_append xs ys)

due_blank : (k : ℕ) → due_all (replicate k blank_row) ≡ 0
unfolding blank_row due_of
due_blank zero = refl
due_blank (suc k) = omega (arith, due_blank k)

owed_blank : (k : ℕ) → owed_all (replicate k blank_row) ≡ 0
unfolding blank_row owed_of
owed_blank zero = refl
owed_blank (suc k) = omega (arith, owed_blank k)

due_told : (rows : List Row) (n : ℕ) → n ≤ length rows → (totals_of rows n).due ≡ min (due_all (take n rows)) top
unfolding totals_of with_row fen_plus
due_told rows zero h = omega arith
due_told rows (suc n) h =
    let x = due_of (get_or rows n blank_row).amount.0 in
    let e = ap (λ (rs : List Row). due_all rs) (take-suc rows n blank_row h) ∙ due_append (take n rows) (get_or rows n blank_row ∷ []) in
    ap (λ (a : ℕ). min (a + x) top) (due_told rows n (omega arith)) ∙ held (due_all (take n rows)) x
    ∙ ap (λ (m : ℕ). min m top) (sym (e ∙ ap (λ (m : ℕ). due_all (take n rows) + m) (add-zero x)))

owed_told : (rows : List Row) (n : ℕ) → n ≤ length rows → (totals_of rows n).owed ≡ min (owed_all (take n rows)) top
unfolding totals_of with_row fen_plus
owed_told rows zero h = omega arith
owed_told rows (suc n) h =
    let x = owed_of (get_or rows n blank_row).amount.0 in
    let e = ap (λ (rs : List Row). owed_all rs) (take-suc rows n blank_row h) ∙ owed_append (take n rows) (get_or rows n blank_row ∷ []) in
    ap (λ (a : ℕ). min (a + x) top) (owed_told rows n (omega arith)) ∙ held (owed_all (take n rows)) x
    ∙ ap (λ (m : ℕ). min m top) (sym (e ∙ ap (λ (m : ℕ). owed_all (take n rows) + m) (add-zero x)))

-- Amounts are what is due less what is owed

pub one_more : (z : ℤ) (d o : ℕ) → z +ℤ (pos d -ℤ pos o) ≡ pos (due_of z + d) -ℤ pos (owed_of z + o)
unfolding due_of owed_of
one_more (pos n) d o =
    sym (+ℤ_assoc (pos n) (pos d) (neg_ℤ (pos o))) ∙ ap (λ (x : ℤ). x -ℤ pos o) (pos-+ℤ-pos n d) ∙ ap (λ (m : ℕ). pos (n + d) -ℤ pos m) (sym (zero-add o))
one_more (negsuc n) d o =
    let back : o + suc n ≡ suc n + o = omega arith in
    +ℤ_comm (negsuc n) (pos d -ℤ pos o) ∙ +ℤ_assoc (pos d) (neg_ℤ (pos o)) (negsuc n)
    ∙ ap (λ (x : ℤ). pos d +ℤ x) (sym (neg_ℤ-+ℤ (pos o) (pos (suc n))) ∙ ap neg_ℤ (pos-+ℤ-pos o (suc n) ∙ ap pos back))
    ∙ ap (λ (m : ℕ). pos m -ℤ pos (suc n + o)) (sym (zero-add d))

balance : (rows : List Row) → sumℤ (map (λ r. r.amount.0) rows) ≡ pos (due_all rows) -ℤ pos (owed_all rows)
balance [] = refl
balance (r ∷ rs) = ap (λ (z : ℤ). r.amount.0 +ℤ z) (balance rs) ∙ one_more r.amount.0 (due_all rs) (owed_all rs)

pub level : (d o : ℕ) → pos d -ℤ pos o ≡ pos 0 → d ≡ o
level d o e = ap nat_abs (sym (-ℤ-+ℤ_cancel (pos d) (pos o)) ∙ ap (λ (z : ℤ). z +ℤ pos o) e ∙ +ℤ_idl (pos o))

-- the foot of a month whose amounts are even
abbrev pub even_form : List ℕ
even_form = word "user amount %s\nall compensation %y assessment %y R %s part %n amounts 0.00\n"

even_foot : (u c a r p : ℕ) → filled foot_form (u ∷ c ∷ a ∷ r ∷ p ∷ 0 ∷ 0 ∷ []) ≡ filled even_form (u ∷ c ∷ a ∷ r ∷ p ∷ 0 ∷ 0 ∷ [])
unfolding shown is_number is_sign byte_text next_on next_marked taken_by filled_from yuan two_places decimal decimal_in
even_foot u c a r p = refl

-- a sum is not short of itself, nor apart from it
pub none_short : (m : ℕ) → m - m ≡ 0
none_short m = omega arith

pub none_apart : (m : ℕ) → apart m m ≡ 0
unfolding apart
none_apart m = omega arith

-- where as much is due as is owed the amounts are 0.00
even : (user gap : ℤ) (part : ℕ) (t : Totals) → t.due ≡ t.owed → foot_text user gap part t ≡ filled even_form (foot_values user gap part t)
unfolding foot_text foot_values
even user gap part t e =
    let p : t.owed - t.due ≡ 0 = ap (λ (m : ℕ). t.owed - m) e ∙ none_short t.owed in
    let q : apart t.due t.owed ≡ 0 = ap (λ (m : ℕ). apart m t.owed) e ∙ none_apart t.owed in
    let vs : ℕ → ℕ → List ℕ = λ m n. bits user ∷ t.compensation ∷ t.assessment ∷ bits gap ∷ part ∷ m ∷ n ∷ [] in
    ap (filled foot_form) (ap₂ vs p q) ∙ even_foot (bits user) t.compensation t.assessment (bits gap) part ∙ sym (ap (filled even_form) (ap₂ vs p q))

-- what is due and what is owed below a month's table, the user's amount included
abbrev told : Statement → Totals
told s = with_user (totals_of s.rows (min s.count 64)) s.user.0

-- the values of its foot
abbrev values_below : Statement → List ℕ
values_below s = foot_values s.user.0 s.gap.0 s.part (told s)

-- as much is due as is owed
level_month : (g : MonthGiven) → (settling g).fault ≡ NoFault → (told (settling g)).due ≡ (told (settling g)).owed
unfolding filled_rows with_user fen_plus
level_month g none =
    let p = passed g none in
    let ls = lines_in g in
    let xs = rows_settled g in
    let zs = replicate (64 - length xs) blank_row in
    let all = (settling g).rows in
    let user = (settling g).user.0 in
    let long : length xs ≡ length ls = length_rows (below ls) ls (grains_in g) g.ramped (shared_in g).parts in
    let many : length ls ≡ length (limited_in g) = length_in g ∙ sym (length_limited g) in
    let few : length (limited_in g) ≤ 64 = (taken_list g.part (limited_in g) p.shared).few in
    let rows : all ≡ xs ++ zs = ap (λ (s : Statement). s.rows) p.is in
    let said : (settling g).count ≡ length (limited_in g) = ap (λ (s : Statement). s.count) p.is in
    let count : min (settling g).count 64 ≡ length xs = omega arith in
    let room : length xs ≤ length (xs ++ zs) = omega (arith, length-append xs zs) in
    let front : take (length xs) (xs ++ zs) ≡ xs = take_at xs zs (length xs) refl in
    let same : due_of user + due_all all ≡ owed_of user + owed_all all =
    level (due_of user + due_all all) (owed_of user + owed_all all)
    (sym (one_more user (due_all all) (owed_all all)) ∙ ap (λ (z : ℤ). user +ℤ z) (sym (balance all)) ∙ +ℤ_comm user (sumℤ (map (λ r. r.amount.0) all)) ∙ amounts_zero g none) in
    let due : due_all all ≡ due_all xs + due_all zs = ap (λ (rs : List Row). due_all rs) rows ∙ due_append xs zs in
    let owed : owed_all all ≡ owed_all xs + owed_all zs = ap (λ (rs : List Row). owed_all rs) rows ∙ owed_append xs zs in
    let equal : owed_all xs + owed_of user ≡ due_all xs + due_of user = omega (arith, due_blank (64 - length xs), owed_blank (64 - length xs)) in
    let d = ap₂ (λ (rs : List Row) (n : ℕ). (totals_of rs n).due) rows count ∙ due_told (xs ++ zs) (length xs) room ∙ ap (λ (rs : List Row). min (due_all rs) top) front in
    let o = ap₂ (λ (rs : List Row) (n : ℕ). (totals_of rs n).owed) rows count ∙ owed_told (xs ++ zs) (length xs) room ∙ ap (λ (rs : List Row). min (owed_all rs) top) front in
    ap (λ (n : ℕ). min (n + due_of user) top) d ∙ held (due_all xs) (due_of user)
    ∙ sym (ap (λ (n : ℕ). min (n + owed_of user) top) o ∙ held (owed_all xs) (owed_of user) ∙ ap (λ (n : ℕ). min n top) equal)

-- THE SUM OF ALL AMOUNTS below a settled month's table, the user's among them, is 0.00.
pub amounts_told_lem : (g : MonthGiven) → (settling g).fault ≡ NoFault
    → month_text (settling g) ≡ rows_text (settling g).rows (min (settling g).count 64) ++ filled even_form (values_below (settling g))
unfolding month_text month_of
amounts_told_lem g none =
    let s = settling g in
    ap (λ (l : List ℕ). rows_text s.rows (min s.count 64) ++ l) (even s.user.0 s.gap.0 s.part (told s) (level_month g none))
