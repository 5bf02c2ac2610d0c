-- What stands against a book's calls, record by record. Assumes nothing.
use mathlib.Core.Path.{◌≡◌, refl, sym, ◌∙◌, ap}
use mathlib.Core.Bool.{Bool, true, false, not, cond, ◌&&◌, ◌||◌}
use mathlib.Core.List.{List}
use Prim.Native.Nat.{ℕ, suc, ◌+◌, ◌-◌, ◌<◌, ◌≤◌}
use native.Mathlib.Omega.{arith}
use native.Mathlib.Nat.{le_refl, sub-zero}
use lib.Dec.{ltb}
use borrow.Author.Tests.{ne_eqb, eq-eqb, le-ltb, eqb-false}
use Rattle.call.specs.declared.Call.{Call}
use Rattle.call.specs.Key.{call_key}
use Rattle.call.specs.Revising.{call_contested}
use Rattle.book.specs.declared.Verdict.{Verdict}
use Rattle.book.specs.Book.{count_at, record_at, calls_from, calls_of}
use Rattle.rule.specs.declared.Decision.{Decision}
use Rattle.rule.specs.declared.Decision.TheVariants.{First, Second, Struck}
use Rattle.rule.specs.Standing.{same_call, is_contested, is_withdrawn, decide, given, standing}
use Rattle.rule.specs.Whole.{all}
use Rattle.rule.proofs.Equality.{same_eq, eq_same}
use Rattle.pair.specs.Screening.{screen}
use Rattle.std.specs.Prelude.{Option, Some, None}
use Rattle.lookup.specs.Lookup.{index_of}
use Rattle.drawer.specs.Nothing.{stands_against, is_covered, adds_nothing}
use Rattle.drawer.specs.Inner.{is_first}
use Rattle.drawer.proofs.Listing.{none_of, some_of}

-- a record against itself stands first
own_first : (x : Call) → decide x x ≡ First
unfolding decide
own_first x = go (is_withdrawn x) (le-ltb x.revision x.revision (le_refl _)) (eq_same x x refl)
  where
    go : (w : Bool) → ltb x.revision x.revision ≡ false → same_call x x ≡ true
        → cond (w && not w) First (cond (not w && w) Second (cond (ltb x.revision x.revision) First (cond (ltb x.revision x.revision) Second
        (cond (same_call x x || is_contested x) First (cond (is_contested x) Second Struck))))) ≡ First
    go true l s = rw (l, s) refl
    go false l s = rw (l, s) refl

-- of two records the first is not contested where they are struck
struck_first : (x y : Call) → decide x y ≡ Struck → is_contested x ≡ false
unfolding decide
struck_first x y e =
    tests (is_withdrawn x && not (is_withdrawn y)) (not (is_withdrawn x) && is_withdrawn y) (ltb y.revision x.revision) (ltb x.revision y.revision) (same_call x y)
    (is_contested x) (is_contested y) e
  where
    tests : (t u v w s c d : Bool)
        → cond t First (cond u Second (cond v First (cond w Second (cond (s || c) First (cond d Second Struck))))) ≡ Struck → c ≡ false
    tests t u v w s false d e = refl
    tests true u v w s true d e = absurd (let z : ◌≡◌ {A = ℕ} 0 1 = cc in omega arith)
    tests false true v w s true d e = absurd (let z : ◌≡◌ {A = ℕ} 0 1 = cc in omega arith)
    tests false false true w s true d e = absurd (let z : ◌≡◌ {A = ℕ} 0 1 = cc in omega arith)
    tests false false false true s true d e = absurd (let z : ◌≡◌ {A = ℕ} 0 1 = cc in omega arith)
    tests false false false false true true d e = absurd (let z : ◌≡◌ {A = ℕ} 0 1 = cc in omega arith)
    tests false false false false false true d e = absurd (let z : ◌≡◌ {A = ℕ} 0 1 = cc in omega arith)

not_same : (x y : Call) → (x ≡ y → ⊥) → same_call x y ≡ false
not_same x y n = go (same_call x y) refl
  where
    go : (t : Bool) → same_call x y ≡ t → t ≡ false
    go true e = absurd (n (same_eq x y e))
    go false e = refl

-- the first of two stands exactly where it is decided so
pub first_stands : (r c : Call) (d : Decision) → d ≡ decide r c → is_first d ≡ same_call (standing r c) r
unfolding standing is_first given
first_stands r c d e = go d e ∙ ap (λ (z : Decision). same_call (given z r c) r) e
  where
    go : (z : Decision) → z ≡ decide r c → is_first z ≡ same_call (given z r c) r
    go First e = sym (eq_same r r refl)
    go Second e = sym (not_same c r (λ (h : c ≡ r). let f : decide r c ≡ First = ap (decide r) h ∙ own_first r in let z : ◌≡◌ {A = ℕ} 0 1 = cc in omega arith))
    go Struck e = sym (not_same (call_contested r) r (λ h. eqb-false _ _ (struck_first r c (sym e)) (sym (ap (λ (z : Call). z.state) h))))

-- Record i's turn, by the index that the others have
module _ (others : List ℕ) (x c : Call) (is : x ≡ c) (k : ℕ) (key : k ≡ call_key x) (r : Option ℕ) (at : r ≡ index_of k others) where
  its : r ≡ index_of (call_key c) others
  its = at ∙ ap (λ (n : ℕ). index_of n others) (key ∙ ap call_key is)

  pub covered_missing : r ≡ None → false ≡ is_covered (calls_of others) c
  unfolding is_covered stands_against
  covered_missing e = rw (none_of others (call_key c) (sym its ∙ e)) refl

  pub covered_found : (j : ℕ) → r ≡ Some j → (d : Decision) → d ≡ decide (record_at others j) c → is_first d ≡ is_covered (calls_of others) c
  unfolding is_covered stands_against
  covered_found j e d f = rw (some_of others (call_key c) j (sym its ∙ e)) (first_stands (record_at others j) c d f)

-- All records from record i on
module _ (p : Call → Bool) (b : List ℕ) (i n : ℕ) where
  pub all_left : Bool
  all_left = all p (calls_from b i (n - i))

  pub all_none : i < n → p (record_at b i) ≡ false → false ≡ all_left
  unfolding all_left all calls_from
  all_none l e = let h : n - i ≡ suc (n - (i + 1)) = omega arith in rw (h, e) refl

  pub all_end : n ≤ i → true ≡ all_left
  unfolding all_left all calls_from
  all_end l = let h : n - i ≡ 0 = omega arith in rw h refl

pub all_more : (p : Call → Bool) (b : List ℕ) (i n : ℕ) → i < n → p (record_at b i) ≡ true → all_left p b (i + 1) n ≡ all_left p b i n
unfolding all_left all calls_from
all_more p b i n l e =
    let h : n - i ≡ suc (n - (i + 1)) = omega arith in
    let s : i + 1 ≡ suc i = omega arith in
    rw (h, e, s) refl

pub all_start : (p : Call → Bool) (b : List ℕ) (n : ℕ) → n ≡ count_at b → all_left p b 0 n ≡ all p (calls_of b)
unfolding all_left calls_of
all_start p b n e = rw (sub-zero n, e) refl

-- The refusal of two books
module _ (others book : List ℕ) where
  pub screened_out : (v : Verdict) → v ≡ screen others book → (v.number ≡ 0 → ⊥) → false ≡ adds_nothing others book
  unfolding adds_nothing
  screened_out v e z = rw (← e, ne_eqb v.number 0 z) refl

  pub screened_in : (screen others book).number ≡ 0 → all (is_covered (calls_of others)) (calls_of book) ≡ adds_nothing others book
  unfolding adds_nothing
  screened_in z = rw (eq-eqb (screen others book).number 0 z) refl
