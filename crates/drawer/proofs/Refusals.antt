-- A record's turn in the list of what scoring would refuse. Assumes nothing.
use mathlib.Core.Path.{◌≡◌, refl, sym, ◌∙◌}
use mathlib.Core.Bool.{Bool, true, false, cond, not, true≢false}
use mathlib.Core.List.{List}
use Prim.Native.Nat.{ℕ, ◌<◌}
use native.Mathlib.Decide.{dec_lt, ℕ_discrete}
use native.Mathlib.Omega.{arith}
use lib.Dec.{eqb}
use borrow.Author.Tests.{eq-eqb, ne_eqb, eqb-false}
use Rattle.call.specs.declared.Call.{Call}
use Rattle.call.specs.Revising.{contested, withdrawn}
use Rattle.book.specs.declared.Verdict.{Verdict}
use Rattle.book.specs.Book.{record_at}
use Rattle.book.specs.Check.{check}
use Rattle.pay.specs.declared.Member.{Member}
use Rattle.pay.specs.declared.open.Month.{Month}
use Rattle.pay.specs.Open.{open_to}
use Rattle.score.specs.First.{first_nonzero, any_below}
use Rattle.score.specs.Refusing.{clashes, clash_at, number_of, refusal_at}
use Rattle.score.specs.Scoring.{month_at}
use Rattle.score.proofs.First.{first_le, first_all, any_zero}
use Rattle.drawer.specs.declared.refused.NextRefused.TheVariants.{BadBook}
use Rattle.drawer.specs.Refused.{against_at, first_against, is_refused_at, refused_of, first_refusal, next_refused}

-- a record that stands against x, and one that does not
pub against_yes : (number : ℕ) (x : Call) (book : ℕ → Call) (j : ℕ) → clashes number x (book j) ≡ true → against_at number x book j ≡ 0 → ⊥
unfolding against_at
against_yes number x book j h e = eqb-false 1 0 refl (simp h at e)

pub against_not : (number : ℕ) (x : Call) (book : ℕ → Call) (j : ℕ) → clashes number x (book j) ≡ false → against_at number x book j ≡ 0
unfolding against_at
against_not number x book j h = simp h

pub clash_yes : (number : ℕ) (x : Call) (book : ℕ → Call) (j : ℕ) → (against_at number x book j ≡ 0 → ⊥) → clashes number x (book j) ≡ true
clash_yes number x book j h = go (clashes number x (book j)) refl
  where
    go : (t : Bool) → clashes number x (book j) ≡ t → t ≡ true
    go true e = refl
    go false e = absurd (h (against_not number x book j e))

pub clash_not : (number : ℕ) (x : Call) (book : ℕ → Call) (j : ℕ) → against_at number x book j ≡ 0 → clashes number x (book j) ≡ false
clash_not number x book j h = go (clashes number x (book j)) refl
  where
    go : (t : Bool) → clashes number x (book j) ≡ t → t ≡ false
    go true e = absurd (against_yes number x book j e h)
    go false e = refl

-- where a record is refused with 13, an earlier one stands against it
pub thirteen : (month : Month) (m : Member) (book : ℕ → Call) (i : ℕ) → refusal_at month m book i ≡ 13 → any_below (clash_at m.number (book i) book) i ≡ true
unfolding refusal_at number_of
thirteen month m book i =
    go (eqb (book i).participant m.number) (eqb (book i).state withdrawn) (eqb (book i).state contested) (open_to month m (book i))
    (any_below (clash_at m.number (book i) book) i)
  where
    go : (t u v o a : Bool) → ◌≡◌ {A = ℕ} (cond (not t) 0 (cond u 0 (cond v 14 (cond (not o) 12 (cond a 13 0))))) 13 → a ≡ true
    go false u v o a e = absurd (omega arith)
    go true true v o a e = absurd (omega arith)
    go true false true o a e = absurd (omega arith)
    go true false false false a e = absurd (omega arith)
    go true false false true true e = refl
    go true false false true false e = absurd (omega arith)

-- the first that stands against it is then an earlier one
pub first_against_low : (number : ℕ) (x : Call) (book : ℕ → Call) (i : ℕ) → any_below (clash_at number x book) i ≡ true → first_against number x book i < i
unfolding first_against clash_at
first_against_low number x book i a = go (dec_lt (first_nonzero (against_at number x book) i) i)
  where
    go : Dec (first_nonzero (against_at number x book) i < i) → first_nonzero (against_at number x book) i < i
    go (yes l) = l
    go (no n) =
        let all = first_all (against_at number x book) i (omega (arith, first_le (against_at number x book) i)) in
        absurd (true≢false (sym a ∙ any_zero (clash_at number x book) i (λ j l. clash_not number x book j (all j l))))

-- a record that is refused, and one that is not
module _ (m : Member) (b : List ℕ) (i : ℕ) (number : ℕ) (is : number ≡ refusal_at (month_at b) m (record_at b) i) where
  pub is_refused : (number ≡ 0 → ⊥) → is_refused_at m b i ≡ true
  unfolding is_refused_at
  is_refused n = rw (← is, ne_eqb number 0 n) refl

  pub not_refused : number ≡ 0 → is_refused_at m b i ≡ false
  unfolding is_refused_at
  not_refused e = rw (← is, eq-eqb number 0 e) refl

-- a record is listed exactly where it is refused
pub refused_number : (m : Member) (b : List ℕ) (i : ℕ) → is_refused_at m b i ≡ true → refusal_at (month_at b) m (record_at b) i ≡ 0 → ⊥
refused_number m b i e z = true≢false (sym e ∙ not_refused m b i _ refl z)

pub passed_number : (m : Member) (b : List ℕ) (i : ℕ) → is_refused_at m b i ≡ false → refusal_at (month_at b) m (record_at b) i ≡ 0
passed_number m b i e = go (ℕ_discrete (refusal_at (month_at b) m (record_at b) i) 0)
  where
    go : Dec (refusal_at (month_at b) m (record_at b) i ≡ 0) → refusal_at (month_at b) m (record_at b) i ≡ 0
    go (yes z) = z
    go (no z) = absurd (true≢false (sym (is_refused m b i _ refl z) ∙ e))

module _ (m : Member) (b : List ℕ) (i : ℕ) where
  -- the refusal of the book
  pub book_refused : (v : Verdict) → v ≡ check b → (v.number ≡ 0 → ⊥) → BadBook v.number v.place ≡ next_refused m b i
  unfolding next_refused
  book_refused v e z = rw (← e, ne_eqb v.number 0 z) refl

  pub next_of : (check b).number ≡ 0 → first_refusal (refused_of m b i) ≡ next_refused m b i
  unfolding next_refused
  next_of z = rw (eq-eqb (check b).number 0 z) refl
