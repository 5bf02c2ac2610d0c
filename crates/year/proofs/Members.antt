-- A member's year after a line more, and the members after a month's lines. Assumes nothing.
use mathlib.Core.Path.{◌≡◌, refl, sym, ◌∙◌, ap}
use mathlib.Core.Bool.{Bool, true, false, cond, ◌||◌}
use mathlib.Core.List.{List, [], ◌∷◌, ◌++◌, map, append_assoc, append-nil}
use Prim.Native.Nat.{ℕ, zero, suc, ◌+◌, ◌-◌, ◌*◌, ◌≤◌, ◌<◌}
use native.Mathlib.Nat.{add-zero, suc-add, add-suc}
use native.Mathlib.Omega.{arith}
use borrow.Author.Tests.{eq-eqb, ne_eqb, le-leb}
use lib.Dec.{eqb}
use lib.IntN.{ℤ, nat_abs, ◌+ℤ◌}
use lib.Signed.{lt_z}
use lib.ListN.{length, get_or, set}
use Rattle.units.specs.Month.{months_per_year}
use Rattle.share.specs.Sharing.{most_compensation, most_assessment}
use Rattle.year.specs.declared.YearLine.{YearLine}
use Rattle.year.specs.declared.Largest.{Largest}
use Rattle.year.specs.declared.MemberYear.{MemberYear}
use Rattle.year.specs.Year.{most_statements, most_members, most_either_way, year_line_is_sound, lines_are_sound, sumℤ, MonthLine, of_member, has_month, months_from, sumℕ, sums_of, amount_in}
use Rattle.year.specs.Year.{largest_from, largest_of, member_year, no_months}
use Rattle.year.specs.Verdict.{LineFits, IsMonth}
use Rattle.year.specs.Every.{fen_plus, thousandths_plus, signed_plus, sums_with, largest_with, member_with, put_line, with_lines}
use Rattle.year.proofs.Signs.{abs_plus, sum_more}
use Rattle.year.proofs.Lines.{line_fits, two}

-- Lines that fit, each with a month of the year

abbrev pub Fit : MonthLine → Type 0
Fit e = IsMonth e.month × LineFits e.line

abbrev pub AllFit : List MonthLine → Type 0
AllFit [] = Unit {0}
AllFit (e ∷ es) = Fit e × AllFit es

pub fit_behind : (xs ys : List MonthLine) → AllFit xs → AllFit ys → AllFit (xs ++ ys)
fit_behind [] ys f g = g
fit_behind (x ∷ xs) ys f g = (f.0, fit_behind xs ys f.1 g)

-- The months

has_more : (month : ℕ) (es : List MonthLine) (e : MonthLine) → has_month month (es ++ e ∷ []) ≡ (has_month month es || eqb e.month month)
unfolding has_month
has_more month [] e = go (eqb e.month month)
  where
    go : (t : Bool) → (t || false) ≡ t
    go true = refl
    go false = refl
has_more month (f ∷ es) e = rw (has_more month es e) (go (eqb f.month month))
  where
    go : (t : Bool) → (t || (has_month month es || eqb e.month month)) ≡ ((t || has_month month es) || eqb e.month month)
    go true = refl
    go false = refl

module _ (es : List MonthLine) (e : MonthLine) where
  other_month : (month : ℕ) → (e.month ≡ month → ⊥) → has_month month (es ++ e ∷ []) ≡ has_month month es
  other_month month ne = has_more month es e ∙ rw (ne_eqb e.month month ne) (go (has_month month es))
    where
      go : (t : Bool) → (t || false) ≡ t
      go true = refl
      go false = refl

  its_month : has_month e.month (es ++ e ∷ []) ≡ true
  its_month = has_more e.month es e ∙ rw (eq-eqb e.month e.month refl) (go (has_month e.month es))
    where
      go : (t : Bool) → (t || true) ≡ true
      go true = refl
      go false = refl

  months_past : (month n : ℕ) → e.month < month → months_from (es ++ e ∷ []) month n ≡ months_from es month n
  unfolding months_from
  months_past month zero h = refl
  months_past month (suc n) h = λ i. other_month month (λ x. omega (arith, x, h)) i ∷ months_past (suc month) n (omega (arith, h)) i

  -- one line more is of its own month alone
  months_more : (month n k : ℕ) → month + k ≡ e.month → months_from (es ++ e ∷ []) month n ≡ set (months_from es month n) k true
  unfolding months_from
  months_more month zero k h = refl
  months_more month (suc n) zero h =
      let is : month ≡ e.month = omega (arith, h) in
      λ i. (ap (λ (m : ℕ). has_month m (es ++ e ∷ [])) is ∙ its_month) i ∷ months_past (suc month) n (omega (arith, is)) i
  months_more month (suc n) (suc k) h = λ i. other_month month (λ x. omega (arith, x, h)) i ∷ months_more (suc month) n k (omega (arith, h)) i

-- The sums

module _ (f : MonthLine → ℕ) where
  sum_snoc : (es : List MonthLine) (e : MonthLine) → sumℕ (map f (es ++ e ∷ [])) ≡ sumℕ (map f es) + f e
  unfolding sumℕ
  sum_snoc [] e = omega arith
  sum_snoc (x ∷ es) e = omega (arith, sum_snoc es e)

  pub sum_most : (limit : ℕ) → ((e : MonthLine) → Fit e → f e ≤ limit) → (es : List MonthLine) → AllFit es → sumℕ (map f es) ≤ length es * limit
  unfolding sumℕ
  sum_most limit each [] g = omega arith
  sum_most limit each (e ∷ es) g = omega (arith, each e g.0, sum_most limit each es g.1)

module _ (f : MonthLine → ℤ) where
  signed_snoc : (es : List MonthLine) (e : MonthLine) → sumℤ (map f (es ++ e ∷ [])) ≡ sumℤ (map f es) +ℤ f e
  signed_snoc es e = ap sumℤ (go es) ∙ sum_more (map f es) (f e)
    where
      go : (es : List MonthLine) → map f (es ++ e ∷ []) ≡ map f es ++ f e ∷ []
      go [] = refl
      go (x ∷ es) = ap (λ (zs : List ℤ). f x ∷ zs) (go es)

  pub signed_most : (limit : ℕ) → ((e : MonthLine) → Fit e → nat_abs (f e) ≤ limit) → (es : List MonthLine) → AllFit es → nat_abs (sumℤ (map f es)) ≤ length es * limit
  unfolding sumℤ
  signed_most limit each [] g = omega arith
  signed_most limit each (e ∷ es) g = omega (arith, abs_plus (f e) (sumℤ (map f es)), each e g.0, signed_most limit each es g.1)

-- up to twelve statements' numbers are added as they are
pub fen_exact : (a b : ℕ) → a ≤ most_statements * most_compensation → fen_plus a b ≡ a + b
unfolding fen_plus
fen_exact a b h = rw (le-leb a (most_statements * most_compensation) h)

pub thousandths_exact : (a b : ℕ) → a ≤ most_statements * most_assessment → thousandths_plus a b ≡ a + b
unfolding thousandths_plus
thousandths_exact a b h = rw (le-leb a (most_statements * most_assessment) h)

pub signed_exact : (a b : ℤ) → nat_abs a ≤ most_statements * most_either_way → signed_plus a b ≡ a +ℤ b
unfolding signed_plus
signed_exact a b h = rw (le-leb (nat_abs a) (most_statements * most_either_way) h)

abbrev pub compensation_of : MonthLine → ℕ
compensation_of e = e.line.compensation.0

abbrev pub assessment_of : MonthLine → ℕ
assessment_of e = e.line.assessment.0

abbrev pub share_of : MonthLine → ℤ
share_of e = e.line.share.0

abbrev pub amount_of : MonthLine → ℤ
amount_of e = e.line.amount.0

module _ (es : List MonthLine) (e : MonthLine) (f : AllFit es) (few : length es ≤ most_statements) where
  compensation_more : sumℕ (map compensation_of (es ++ e ∷ [])) ≡ fen_plus (sumℕ (map compensation_of es)) (compensation_of e)
  compensation_more =
      let most = sum_most compensation_of most_compensation (λ x g. g.1.compensation) es f in
      sum_snoc compensation_of es e ∙ sym (fen_exact (sumℕ (map compensation_of es)) (compensation_of e) (omega (arith, most)))

  assessment_more : sumℕ (map assessment_of (es ++ e ∷ [])) ≡ thousandths_plus (sumℕ (map assessment_of es)) (assessment_of e)
  assessment_more =
      let most = sum_most assessment_of most_assessment (λ x g. g.1.assessment) es f in
      sum_snoc assessment_of es e ∙ sym (thousandths_exact (sumℕ (map assessment_of es)) (assessment_of e) (omega (arith, most)))

  share_more : sumℤ (map share_of (es ++ e ∷ [])) ≡ signed_plus (sumℤ (map share_of es)) (share_of e)
  share_more =
      let most = signed_most share_of most_either_way (λ x g. g.1.share) es f in
      signed_snoc share_of es e ∙ sym (signed_exact (sumℤ (map share_of es)) (share_of e) (omega (arith, most)))

  amount_more : sumℤ (map amount_of (es ++ e ∷ [])) ≡ signed_plus (sumℤ (map amount_of es)) (amount_of e)
  amount_more =
      let most = signed_most amount_of most_either_way (λ x g. g.1.amount) es f in
      signed_snoc amount_of es e ∙ sym (signed_exact (sumℤ (map amount_of es)) (amount_of e) (omega (arith, most)))

  sums_more : sums_of (es ++ e ∷ []) ≡ sums_with (sums_of es) e.line
  unfolding sums_of sums_with
  sums_more =
      λ i. record {
        compensation = record { 0 = compensation_more i };
        assessment = record { 0 = assessment_more i };
        share = record { 0 = share_more i };
        amount = record { 0 = amount_more i };
      }

-- The largest

largest_month : (g : Largest) (es : List MonthLine) → 1 ≤ g.month → AllFit es → 1 ≤ (largest_from g es).month
unfolding largest_from
largest_month g [] h f = h
largest_month g (e ∷ es) h f = largest_month (cond (lt_z g.amount.0 e.line.amount.0) (amount_in e) g) es (go (lt_z g.amount.0 e.line.amount.0)) f.1
  where
    go : (t : Bool) → 1 ≤ (cond t (amount_in e) g).month
    go true = f.0.0.0
    go false = h

largest_from_lem : (g : Largest) (es : List MonthLine) (e : MonthLine) → 1 ≤ g.month → AllFit es
    → largest_from g (es ++ e ∷ []) ≡ largest_with (largest_from g es) e.month e.line.amount.0
unfolding largest_from largest_with
largest_from_lem g [] e h f = rw (ne_eqb g.month 0 (λ x. omega (arith, x, h)))
largest_from_lem g (x ∷ es) e h f =
    largest_from_lem (cond (lt_z g.amount.0 x.line.amount.0) (amount_in x) g) es e (go (lt_z g.amount.0 x.line.amount.0)) f.1
  where
    go : (t : Bool) → 1 ≤ (cond t (amount_in x) g).month
    go true = f.0.0.0
    go false = h

largest_more : (es : List MonthLine) (e : MonthLine) → AllFit es → largest_of (es ++ e ∷ []) ≡ largest_with (largest_of es) e.month e.line.amount.0
unfolding largest_of largest_from largest_with
largest_more [] e f = refl
largest_more (x ∷ es) e f = largest_from_lem (amount_in x) es e f.0.0.0 f.1

-- A MEMBER AFTER A LINE MORE
pub member_more : (es : List MonthLine) (e : MonthLine) → AllFit es → Fit e → length es ≤ most_statements → member_year (es ++ e ∷ []) ≡ member_with (member_year es) e.month e.line
unfolding member_year member_with
member_more es e f g few =
    λ i. record {
      months = months_more es e 1 months_per_year (e.month - 1) (omega (arith, g.0)) i;
      sums = sums_more es e f few i;
      largest = largest_more es e f i;
    }

-- The members

-- the years of so many members from a number on, by what each is present in
abbrev pub members_by : (ℕ → List MonthLine) → ℕ → ℕ → List MemberYear
members_by E number zero = []
members_by E number (suc n) = member_year (E number) ∷ members_by E (suc number) n

pub members_same : (E F : ℕ → List MonthLine) → ((n : ℕ) → E n ≡ F n) → (number n : ℕ) → members_by E number n ≡ members_by F number n
members_same E F e number zero = refl
members_same E F e number (suc n) = λ i. member_year (e number i) ∷ members_same E F e (suc number) n i

pub members_at : (E : ℕ → List MonthLine) (number n k : ℕ) (d : MemberYear) → k < n → get_or (members_by E number n) k d ≡ member_year (E (number + k))
members_at E number zero k d h = absurd (omega (arith, h))
members_at E number (suc n) zero d h = ap (λ (x : ℕ). member_year (E x)) (sym (add-zero number))
members_at E number (suc n) (suc k) d h = members_at E (suc number) n k d (omega (arith, h)) ∙ ap (λ (x : ℕ). member_year (E x)) (suc-add number k ∙ sym (add-suc number k))

-- a line is its own member's alone
pub of_its_member : (month : ℕ) (l : YearLine) → of_member l.number month (l ∷ []) ≡ record { month = month; line = l } ∷ []
unfolding of_member
of_its_member month l = rw (eq-eqb l.number l.number refl)

pub of_another : (number month : ℕ) (l : YearLine) → (l.number ≡ number → ⊥) → of_member number month (l ∷ []) ≡ []
unfolding of_member
of_another number month l ne = rw (ne_eqb l.number number ne)

pub of_split : (number month : ℕ) (l : YearLine) (ls : List YearLine) → of_member number month (l ∷ []) ++ of_member number month ls ≡ of_member number month (l ∷ ls)
unfolding of_member
of_split number month l ls = go (eqb l.number number)
  where
    go : (t : Bool) → cond t (record { month = month; line = l } ∷ []) [] ++ of_member number month ls
        ≡ cond t (record { month = month; line = l } ∷ of_member number month ls) (of_member number month ls)
    go true = refl
    go false = refl

module _ (E : ℕ → List MonthLine) (month : ℕ) (l : YearLine) where
  -- what each is present in after a line more
  abbrev after : ℕ → List MonthLine
  after n = E n ++ of_member n month (l ∷ [])

  after_other : (n : ℕ) → (l.number ≡ n → ⊥) → after n ≡ E n
  after_other n ne = ap (λ (xs : List MonthLine). E n ++ xs) (of_another n month l ne) ∙ append-nil (E n)

  after_its : after l.number ≡ E l.number ++ record { month = month; line = l } ∷ []
  after_its = ap (λ (xs : List MonthLine). E l.number ++ xs) (of_its_member month l)

  members_past : (number n : ℕ) → l.number < number → members_by after number n ≡ members_by E number n
  members_past number zero h = refl
  members_past number (suc n) h = λ i. member_year (after_other number (λ x. omega (arith, x, h)) i) ∷ members_past (suc number) n (omega (arith, h)) i

  members_more : (number n k : ℕ) → number + k ≡ l.number → members_by after number n ≡ set (members_by E number n) k (member_year (after l.number))
  members_more number zero k h = refl
  members_more number (suc n) zero h =
      let is : number ≡ l.number = omega (arith, h) in
      λ i. member_year (after (is i)) ∷ members_past (suc number) n (omega (arith, is)) i
  members_more number (suc n) (suc k) h =
      λ i. member_year (after_other number (λ x. omega (arith, x, h)) i) ∷ members_more (suc number) n k (omega (arith, h)) i

  -- THE MEMBERS AFTER A LINE
  put_line_lem : IsMonth month → LineFits l → AllFit (E l.number) → length (E l.number) ≤ most_statements → put_line (members_by E 1 most_members) month l ≡ members_by after 1 most_members
  unfolding put_line
  put_line_lem m f g few =
      let k = l.number - 1 in
      let is : 1 + k ≡ l.number = omega (arith, f.number) in
      let old = members_at E 1 most_members k no_months (omega (arith, f.number)) ∙ ap (λ (n : ℕ). member_year (E n)) is in
      ap (λ (x : MemberYear). set (members_by E 1 most_members) k (member_with x month l)) old
      ∙ ap (λ (x : MemberYear). set (members_by E 1 most_members) k x) (sym (member_more (E l.number) (record { month = month; line = l }) g (m, f) few) ∙ ap member_year (sym after_its))
      ∙ sym (members_more 1 most_members k is)

-- members above a number are ready for a line more
abbrev pub Ready : (ℕ → List MonthLine) → ℕ → Type 0
Ready E before = (n : ℕ) → before < n → AllFit (E n) × (length (E n) ≤ most_statements)

-- THE MEMBERS AFTER A MONTH'S LINES
pub with_lines_lem : (E : ℕ → List MonthLine) (month before : ℕ) (ls : List YearLine) → IsMonth month → lines_are_sound before ls ≡ true → Ready E before
    → with_lines (members_by E 1 most_members) month ls ≡ members_by (λ n. E n ++ of_member n month ls) 1 most_members
unfolding with_lines lines_are_sound of_member
with_lines_lem E month before [] m s r = members_same E (λ n. E n ++ of_member n month []) (λ n. sym (append-nil (E n))) 1 most_members
with_lines_lem E month before (l ∷ ls) m s r =
    let h = two (year_line_is_sound before l) (lines_are_sound l.number ls) s in
    let f = line_fits before l h.0 in
    let g = r l.number f.1 in
    ap (λ (ms : List MemberYear). with_lines ms month ls) (put_line_lem E month l m f.0 g.0 g.1)
    ∙ with_lines_lem (after E month l) month l.number ls m h.1
    (λ n k. rw (after_other E month l n (λ x. omega (arith, x, k))) (r n (omega (arith, k, f.1))))
    ∙ members_same (λ n. after E month l n ++ of_member n month ls) (λ n. E n ++ of_member n month (l ∷ ls))
    (λ n. append_assoc (E n) (of_member n month (l ∷ [])) (of_member n month ls) ∙ ap (λ (xs : List MonthLine). E n ++ xs) (of_split n month l ls)) 1 most_members
