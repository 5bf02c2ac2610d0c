-- The months that a member is present in: which lines they are, that they rise, and what the sums over them are. Assumes nothing.
use mathlib.Core.Path.{◌≡◌, refl, sym, ◌∙◌, ap, subst}
use mathlib.Core.Bool.{Bool, true, false, cond, ◌||◌, true≢false}
use mathlib.Core.List.Memᴰ.{head as here}
use mathlib.Core.List.Memᴰ.{tail as there}
use mathlib.Core.List.{List, [], ◌∷◌, ◌++◌, map, Memᴰ as In}
use mathlib.Core.List.Memᴰ
use mathlib.Core.Logic.{◌⊎◌, inl, inr, ◌↔◌, ◌≢◌}
use Prim.Native.Nat.{ℕ, zero, suc, ◌+◌, ◌≤◌, ◌<◌}
use native.Mathlib.Nat.{add-zero, suc-add, add-suc}
use native.Mathlib.Omega.{arith}
use borrow.Author.Tests.{eq-eqb, ne_eqb, eqb-true}
use lib.Dec.{eqb}
use lib.IntN.{ℤ, pos, ◌+ℤ◌, +ℤ_idr}
use lib.ListN.{length, get_or}
use Rattle.year.specs.declared.YearLine.{YearLine}
use Rattle.year.specs.declared.MonthStatement.{MonthStatement}
use Rattle.year.specs.Year.{lines_in, sumℤ, MonthLine, of_member, present_in, has_month, months_from, sumℕ}
use Rattle.year.specs.Verdict.{blank_line}
use Rattle.year.specs.Present.{LineOf, own_line}
use Rattle.year.proofs.Signs.{sum_behind}
use Rattle.year.proofs.Statements.{lines_tested}
use Rattle.year.proofs.Taking.{of_one}
use Rattle.year.proofs.Orders.{Rises, Sounds}
use Rattle.year.proofs.Highest.{LinesRise, lines_lower}

-- Which lines they are

of_in : (number month : ℕ) (ls : List YearLine) (e : MonthLine) → In e (of_member number month ls) → (e.month ≡ month) × In e.line ls × (e.line.number ≡ number)
unfolding of_member
of_in number month [] e m = absurd (Memᴰ.not-nil m)
of_in number month (l ∷ ls) e m = go (eqb l.number number) refl m (of_in number month ls e)
  where
    more : (e.month ≡ month) × In e.line ls × (e.line.number ≡ number) → (e.month ≡ month) × In e.line (l ∷ ls) × (e.line.number ≡ number)
    more p = (p.0, there p.1, p.2)

    first : eqb l.number number ≡ true → (e ≡ record { month = month; line = l }) → (e.month ≡ month) × In e.line (l ∷ ls) × (e.line.number ≡ number)
    first t is =
        (ap (λ (x : MonthLine). x.month) is, here (ap (λ (x : MonthLine). x.line) is), ap (λ (x : MonthLine). x.line.number) is ∙ eqb-true l.number number t)

    go : (t : Bool) → eqb l.number number ≡ t → In e (cond t (record { month = month; line = l } ∷ of_member number month ls) (of_member number month ls))
        → (In e (of_member number month ls) → (e.month ≡ month) × In e.line ls × (e.line.number ≡ number)) → (e.month ≡ month) × In e.line (l ∷ ls) × (e.line.number ≡ number)
    go true t k rec = either (Memᴰ.cases_cons k)
      where
        either : (e ≡ record { month = month; line = l }) ⊎ In e (of_member number month ls) → (e.month ≡ month) × In e.line (l ∷ ls) × (e.line.number ≡ number)
        either (inl is) = first t is
        either (inr i) = more (rec i)
    go false t k rec = more (rec k)

in_of : (number month : ℕ) (ls : List YearLine) (e : MonthLine) → e.month ≡ month → In e.line ls → e.line.number ≡ number → In e (of_member number month ls)
unfolding of_member
in_of number month [] e a m b = absurd (Memᴰ.not-nil m)
in_of number month (l ∷ ls) e a m b = go (Memᴰ.cases_cons m) (λ k. in_of number month ls e a k b)
  where
    last : (t : Bool) → In e (of_member number month ls) → In e (cond t (record { month = month; line = l } ∷ of_member number month ls) (of_member number month ls))
    last true k = there k
    last false k = k

    go : (e.line ≡ l) ⊎ In e.line ls → (In e.line ls → In e (of_member number month ls))
        → In e (cond (eqb l.number number) (record { month = month; line = l } ∷ of_member number month ls) (of_member number month ls))
    go (inl is) rec =
        rw (eq-eqb l.number number (sym (ap (λ (x : YearLine). x.number) is) ∙ b)) (here (λ i. record { month = a i; line = is i }))
    go (inr k) rec = last (eqb l.number number) (rec k)

module _ (number : ℕ) (e : MonthLine) where
  present_in_lem : (ss : List MonthStatement) → In e (present_in number ss) → LineOf ss number e
  unfolding present_in
  present_in_lem [] m = absurd (Memᴰ.not-nil m)
  present_in_lem (s ∷ ss) m = go (Memᴰ.append_cases (of_member number s.month (lines_in s)) m) (present_in_lem ss)
    where
      go : In e (of_member number s.month (lines_in s)) ⊎ In e (present_in number ss) → (In e (present_in number ss) → LineOf ss number e) → LineOf (s ∷ ss) number e
      go (inl k) rec =
          let p = of_in number s.month (lines_in s) e k in
          record { statement = s; given = here refl; month = p.0; line = p.1; own = p.2 }
      go (inr k) rec = let r = rec k in record { statement = r.statement; given = there r.given; month = r.month; line = r.line; own = r.own }

  in_present : (ss : List MonthStatement) → LineOf ss number e → In e (present_in number ss)
  unfolding present_in
  in_present [] r = absurd (Memᴰ.not-nil r.given)
  in_present (s ∷ ss) r = go (Memᴰ.cases_cons r.given) (λ k. in_present ss (record { statement = r.statement; given = k; month = r.month; line = r.line; own = r.own }))
    where
      go : (r.statement ≡ s) ⊎ In r.statement ss → (In r.statement ss → In e (present_in number ss)) → In e (of_member number s.month (lines_in s) ++ present_in number ss)
      go (inl is) rec =
          Memᴰ.append_left (present_in number ss)
          (subst (λ (x : MonthStatement). In e (of_member number x.month (lines_in x))) is (in_of number r.statement.month (lines_in r.statement) e r.month r.line r.own))
      go (inr k) rec = Memᴰ.append_right (of_member number s.month (lines_in s)) (rec k)

  -- A MEMBER'S LINES ARE ITS LINES IN THE STATEMENTS, and no others
  pub present_exactly : (ss : List MonthStatement) → In e (present_in number ss) ↔ LineOf ss number e
  present_exactly ss = (present_in_lem ss, in_present ss)

-- They rise

pub present_rises : (number m : ℕ) (ss : List MonthStatement) → Rises m ss → Sounds ss → LinesRise m (present_in number ss)
unfolding present_in
present_rises number m [] r f = tt
present_rises number m (s ∷ ss) r f =
    go (of_member number s.month (lines_in s)) (of_one number s.month 0 (lines_in s) (lines_tested s f.0)) (λ e k. (of_in number s.month (lines_in s) e k).0)
    (present_rises number s.month ss r.1 f.1)
  where
    go : (es : List MonthLine) → length es ≤ 1 → ((e : MonthLine) → In e es → e.month ≡ s.month) → LinesRise s.month (present_in number ss) → LinesRise m (es ++ present_in number ss)
    go [] h its rest = lines_lower s.month m (present_in number ss) (omega (arith, r.0)) rest
    go (e ∷ []) h its rest =
        let same = its e (here refl) in
        (omega (arith, same, r.0), subst (λ (x : ℕ). LinesRise x (present_in number ss)) (sym same) rest)
    go (e ∷ f ∷ es) h its rest = absurd (omega (arith, h))

-- Which months

has_in : (month : ℕ) (es : List MonthLine) → has_month month es ≡ true → (e : MonthLine) × In e es × (e.month ≡ month)
unfolding has_month
has_in month [] h = absurd (true≢false (sym h))
has_in month (f ∷ es) h = go (eqb f.month month) refl h (has_in month es)
  where
    go : (t : Bool) → eqb f.month month ≡ t → (t || has_month month es) ≡ true → (has_month month es ≡ true → (e : MonthLine) × In e es × (e.month ≡ month))
        → (e : MonthLine) × In e (f ∷ es) × (e.month ≡ month)
    go true t k rec = (f, here refl, eqb-true f.month month t)
    go false t k rec = let r = rec k in (r.0, there r.1, r.2)

in_has : (month : ℕ) (es : List MonthLine) (e : MonthLine) → In e es → e.month ≡ month → has_month month es ≡ true
unfolding has_month
in_has month [] e m is = absurd (Memᴰ.not-nil m)
in_has month (f ∷ es) e m is = go (Memᴰ.cases_cons m) (λ k. in_has month es e k is)
  where
    either : (t : Bool) → (t || true) ≡ true
    either true = refl
    either false = refl

    go : (e ≡ f) ⊎ In e es → (In e es → has_month month es ≡ true) → (eqb f.month month || has_month month es) ≡ true
    go (inl same) rec = rw (eq-eqb f.month month (sym (ap (λ (x : MonthLine). x.month) same) ∙ is))
    go (inr k) rec = rw (rec k) (either (eqb f.month month))

pub months_at : (es : List MonthLine) (month n k : ℕ) → k < n → get_or (months_from es month n) k false ≡ has_month (month + k) es
unfolding months_from
months_at es month zero k h = absurd (omega (arith, h))
months_at es month (suc n) zero h = ap (λ (m : ℕ). has_month m es) (sym (add-zero month))
months_at es month (suc n) (suc k) h = months_at es (suc month) n k (omega (arith, h)) ∙ ap (λ (m : ℕ). has_month m es) (suc-add month k ∙ sym (add-suc month k))

pub month_in : (es : List MonthLine) (month : ℕ) → (has_month month es ≡ true) ↔ ((e : MonthLine) × In e es × (e.month ≡ month))
month_in es month = (has_in month es, λ p. in_has month es p.0 p.1 p.2)

-- The sums, statement by statement

own_of : (number month : ℕ) (ls : List YearLine) → length (of_member number month ls) ≤ 1
    → ((of_member number month ls ≡ []) × (own_line number ls ≡ blank_line)) ⊎ (of_member number month ls ≡ record { month = month; line = own_line number ls } ∷ [])
unfolding of_member own_line
own_of number month [] h = inl (refl, refl)
own_of number month (l ∷ ls) h = go (eqb l.number number) h (own_of number month ls)
  where
    alone : (es : List MonthLine) → length es ≤ 0 → es ≡ []
    alone [] h = refl
    alone (e ∷ es) h = absurd (omega (arith, h))

    go : (t : Bool) → length (cond t (record { month = month; line = l } ∷ of_member number month ls) (of_member number month ls)) ≤ 1
        → (length (of_member number month ls) ≤ 1
        → ((of_member number month ls ≡ []) × (own_line number ls ≡ blank_line)) ⊎ (of_member number month ls ≡ record { month = month; line = own_line number ls } ∷ []))
        → ((cond t (record { month = month; line = l } ∷ of_member number month ls) (of_member number month ls) ≡ []) × (cond t l (own_line number ls) ≡ blank_line))
        ⊎ (cond t (record { month = month; line = l } ∷ of_member number month ls) (of_member number month ls) ≡ record { month = month; line = cond t l (own_line number ls) } ∷ [])
    go true k rec = inr (ap (λ (es : List MonthLine). record { month = month; line = l } ∷ es) (alone (of_member number month ls) (omega (arith, k))))
    go false k rec = rec k

module _ (number : ℕ) where
  module _ (f : YearLine → ℕ) (zero : f blank_line ≡ 0) where
    abbrev of_line : MonthLine → ℕ
    of_line e = f e.line

    sum_split : (xs ys : List MonthLine) → sumℕ (map of_line (xs ++ ys)) ≡ sumℕ (map of_line xs) + sumℕ (map of_line ys)
    unfolding sumℕ
    sum_split [] ys = omega arith
    sum_split (x ∷ xs) ys = omega (arith, sum_split xs ys)

    -- each sum is the sum over the statements of what the member's line has there, and nothing where it has none
    pub sum_over : (ss : List MonthStatement) → Sounds ss → sumℕ (map of_line (present_in number ss)) ≡ sumℕ (map (λ s. f (own_line number (lines_in s))) ss)
    unfolding present_in sumℕ
    sum_over [] g = refl
    sum_over (s ∷ ss) g =
        let own = of_member number s.month (lines_in s) in
        let one = go (own_of number s.month (lines_in s) (of_one number s.month 0 (lines_in s) (lines_tested s g.0))) in
        omega (arith, sum_split own (present_in number ss), one, sum_over ss g.1)
      where
        go : ((of_member number s.month (lines_in s) ≡ []) × (own_line number (lines_in s) ≡ blank_line))
            ⊎ (of_member number s.month (lines_in s) ≡ record { month = s.month; line = own_line number (lines_in s) } ∷ [])
            → sumℕ (map of_line (of_member number s.month (lines_in s))) ≡ f (own_line number (lines_in s))
        go (inl n) = ap (λ (es : List MonthLine). sumℕ (map of_line es)) n.0 ∙ sym (ap f n.1 ∙ zero)
        go (inr o) = ap (λ (es : List MonthLine). sumℕ (map of_line es)) o ∙ add-zero (f (own_line number (lines_in s)))

  module _ (f : YearLine → ℤ) (zero : f blank_line ≡ pos 0) where
    abbrev signed_of : MonthLine → ℤ
    signed_of e = f e.line

    map_split : (xs ys : List MonthLine) → map signed_of (xs ++ ys) ≡ map signed_of xs ++ map signed_of ys
    map_split [] ys = refl
    map_split (x ∷ xs) ys = ap (λ (zs : List ℤ). signed_of x ∷ zs) (map_split xs ys)

    pub signed_over : (ss : List MonthStatement) → Sounds ss → sumℤ (map signed_of (present_in number ss)) ≡ sumℤ (map (λ s. f (own_line number (lines_in s))) ss)
    unfolding present_in sumℤ
    signed_over [] g = refl
    signed_over (s ∷ ss) g =
        let own = of_member number s.month (lines_in s) in
        let one = go (own_of number s.month (lines_in s) (of_one number s.month 0 (lines_in s) (lines_tested s g.0))) in
        ap sumℤ (map_split own (present_in number ss)) ∙ sum_behind (map signed_of own) (map signed_of (present_in number ss)) ∙ (λ i. one i +ℤ signed_over ss g.1 i)
      where
        go : ((of_member number s.month (lines_in s) ≡ []) × (own_line number (lines_in s) ≡ blank_line))
            ⊎ (of_member number s.month (lines_in s) ≡ record { month = s.month; line = own_line number (lines_in s) } ∷ [])
            → sumℤ (map signed_of (of_member number s.month (lines_in s))) ≡ f (own_line number (lines_in s))
        go (inl n) = ap (λ (es : List MonthLine). sumℤ (map signed_of es)) n.0 ∙ sym (ap f n.1 ∙ zero)
        go (inr o) = ap (λ (es : List MonthLine). sumℤ (map signed_of es)) o ∙ +ℤ_idr (f (own_line number (lines_in s)))

-- A member that is not among the lines has none of them
pub of_absent : (number month : ℕ) (ls : List YearLine) → ((l : YearLine) → In l ls → l.number ≢ number) → of_member number month ls ≡ []
unfolding of_member
of_absent number month [] f = refl
of_absent number month (l ∷ ls) f = rw (ne_eqb l.number number (f l (here refl))) (of_absent number month ls (λ x k. f x (there k)))
