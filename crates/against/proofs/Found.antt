-- The call that a refusal 13 stands against is found. Assumes nothing.
use mathlib.Core.Path.{◌≡◌, refl, sym, ◌∙◌, ap}
use mathlib.Core.Bool.{Bool, true, false, cond, not, true≢false}
use mathlib.Core.List.{List}
use Prim.Native.Nat.{ℕ, zero, suc, ◌+◌, ◌≤◌, ◌<◌}
use native.Mathlib.Decide.{dec_lt}
use native.Mathlib.Omega.{arith}
use lib.Dec.{eqb}
use lib.ListN.{length}
use borrow.Author.Tests.{lt-ltb, le-ltb, le-leb, lt-leb, eqb-true}
use Rattle.call.specs.declared.Call.{Call}
use Rattle.call.specs.Layout.{record_size}
use Rattle.call.specs.Revising.{contested, withdrawn}
use Rattle.book.specs.Book.{most_keys, place_of, record_at}
use Rattle.field.specs.Record.{has_record}
use Rattle.pay.specs.declared.Member.{Member}
use Rattle.pay.specs.declared.open.Month.{Month}
use Rattle.pay.specs.Open.{open_to}
use Rattle.score.specs.First.{first_nonzero, any_below}
use Rattle.score.specs.Refusing.{clashes, clash_at, clash_before, number_of, refusal_at}
use Rattle.score.proofs.First.{first_none, first_more, first_hit, first_le, first_bad_lem, first_before}
use Rattle.against.specs.Against.{clash_mark, clash_with, clash_place}

-- The search's turns

module _ (book : ℕ → Call) (i : ℕ) where
  abbrev mark : ℕ → ℕ
  mark j = clash_mark (book i) book j

  stands : (j : ℕ) (t : Bool) → t ≡ clashes (book i).participant (book i) (book j) → t ≡ true → mark j ≡ 1
  unfolding clash_mark
  stands j t e f = rw (sym e ∙ f)

  stands_not : (j : ℕ) (t : Bool) → t ≡ clashes (book i).participant (book i) (book j) → t ≡ false → mark j ≡ 0
  unfolding clash_mark
  stands_not j t e f = rw (sym e ∙ f)

  pub none_yet : first_nonzero mark 0 ≡ 0
  none_yet = first_none mark

  pub not_this : (j : ℕ) (t : Bool) → first_nonzero mark j ≡ j → t ≡ clashes (book i).participant (book i) (book j) → t ≡ false → first_nonzero mark (j + 1) ≡ j + 1
  not_this j t h e f = first_more mark j h (stands_not j t e f)

  pub this_one : (j : ℕ) (t : Bool) → j < i → first_nonzero mark j ≡ j → t ≡ clashes (book i).participant (book i) (book j) → t ≡ true → j ≡ clash_with book i
  unfolding clash_with
  this_one j t l h e f = sym (first_hit mark j i l h (λ z. omega (arith, stands j t e f)))

  pub none_at_all : (j : ℕ) → j ≡ i → first_nonzero mark j ≡ j → j ≡ clash_with book i
  unfolding clash_with
  none_at_all j e h = sym h ∙ ap (λ (k : ℕ). first_nonzero mark k) e

-- two records that the code has read
pub as_clash : (t : Bool) (x y u v : Call) → t ≡ clashes x.participant x y → x ≡ u → y ≡ v → t ≡ clashes u.participant u v
as_clash t x y u v e p q = e ∙ λ k. clashes (p k).participant (p k) (q k)

-- Any bytes

module _ (b : List ℕ) (i : ℕ) where
  pub too_late : most_keys ≤ i → i ≡ clash_place b i
  unfolding clash_place has_record
  too_late h = rw (le-ltb i most_keys h)

  pub too_short : i < most_keys → length b < place_of i + record_size → i ≡ clash_place b i
  unfolding clash_place has_record
  too_short h k = rw (lt-ltb i most_keys h, lt-leb (place_of i + record_size) (length b) k)

  pub there : (r : ℕ) → i < most_keys → place_of i + record_size ≤ length b → r ≡ clash_with (record_at b) i → r ≡ clash_place b i
  unfolding clash_place has_record
  there r h k e = rw (lt-ltb i most_keys h, le-leb (place_of i + record_size) (length b) k) e

-- A refusal 13

-- an earlier call that stands against it is found where there is one
module _ (book : ℕ → Call) (i : ℕ) where
  clash_none : (n : ℕ) → ((j : ℕ) → j < n → clash_at (book i).participant (book i) book j ≡ false) → clash_before (book i).participant (book i) book n ≡ false
  unfolding any_below
  clash_none zero h = refl
  clash_none (suc n) h = rw (clash_none n (λ j l. h j (omega arith)), h n (omega arith))

  not_marked : (j : ℕ) → mark book i j ≡ 0 → clash_at (book i).participant (book i) book j ≡ false
  unfolding clash_mark clash_at
  not_marked j e = go (clashes (book i).participant (book i) (book j)) refl
    where
      go : (t : Bool) → clashes (book i).participant (book i) (book j) ≡ t → t ≡ false
      go true f = absurd (omega (arith, e, stands book i j true (sym f) refl))
      go false f = refl

  marked : (j : ℕ) → (mark book i j ≡ 0 → ⊥) → clashes (book i).participant (book i) (book j) ≡ true
  marked j n = go (clashes (book i).participant (book i) (book j)) refl
    where
      go : (t : Bool) → clashes (book i).participant (book i) (book j) ≡ t → t ≡ true
      go true f = refl
      go false f = absurd (n (stands_not book i j false (sym f) refl))

  found : clash_before (book i).participant (book i) book i ≡ true → (clash_with book i < i) × (clashes (book i).participant (book i) (book (clash_with book i)) ≡ true)
  unfolding clash_with
  found h = go (dec_lt (first_nonzero (mark book i) i) i)
    where
      go : Dec (first_nonzero (mark book i) i < i) → (first_nonzero (mark book i) i < i) × (clashes (book i).participant (book i) (book (first_nonzero (mark book i) i)) ≡ true)
      go (yes l) = (l, marked (first_nonzero (mark book i) i) (first_bad_lem (mark book i) i l))
      go (no l) =
          let all : first_nonzero (mark book i) i ≡ i = omega (arith, first_le (mark book i) i) in
          absurd (true≢false (sym h ∙ clash_none i (λ j k. not_marked j (first_before (mark book i) i j (omega arith)))))

  -- WHERE SCORING REFUSES A RECORD WITH 13, THE CALL THAT IS TOLD STANDS BEFORE IT AND AGAINST IT.
  pub found_13 : (month : Month) (m : Member) → refusal_at month m book i ≡ 13 → (clash_with book i < i) × (clashes (book i).participant (book i) (book (clash_with book i)) ≡ true)
  unfolding refusal_at number_of
  found_13 month m e =
      go (eqb (book i).participant m.number) refl (eqb (book i).state withdrawn) (eqb (book i).state contested) (open_to month m (book i)) (clash_before m.number (book i) book i) refl e
    where
      go : (t : Bool) → eqb (book i).participant m.number ≡ t → (u v fit clash : Bool) → clash_before m.number (book i) book i ≡ clash
          → ◌≡◌ {A = ℕ} (cond (not t) 0 (cond u 0 (cond v 14 (cond (not fit) 12 (cond clash 13 0))))) 13
          → (clash_with book i < i) × (clashes (book i).participant (book i) (book (clash_with book i)) ≡ true)
      go false p u v fit clash q e = absurd (omega arith)
      go true p true v fit clash q e = absurd (omega arith)
      go true p false true fit clash q e = absurd (omega arith)
      go true p false false false clash q e = absurd (omega arith)
      go true p false false true false q e = absurd (omega arith)
      go true p false false true true q e = found (ap (λ (n : ℕ). clash_before n (book i) book i) (eqb-true (book i).participant m.number p) ∙ q)
