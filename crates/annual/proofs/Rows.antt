-- The table and its sums, member by member, and the room of its lines. Assumes nothing.
use mathlib.Core.Path.{◌≡◌, refl, sym, ap, ◌∙◌}
use mathlib.Core.Bool.{Bool, true, false, ◌||◌}
use mathlib.Core.List.{List, [], ◌∷◌}
use Prim.Native.Nat.{ℕ, zero, suc, ◌+◌, ◌*◌, ◌<◌, ◌≤◌}
use native.Mathlib.Nat.{not-suc-le-zero}
use native.Mathlib.Numerals.{add-one}
use native.Mathlib.Omega.{arith}
use borrow.Author.Tests.{eq-eqb, ne_eqb}
use lib.ListN.{length, get_or, take}
use lib.Seq.{take-suc, take_all}
use Rattle.std.specs.List.{list_any}
use Rattle.std.proofs.lemmas.List.Folds.{list_any-append}
use Rattle.render.specs.Inner.{Puts}
use Rattle.render.proofs.Placed.{and_then, looser, same_put, none_put}
use Rattle.form.specs.Form.{is_sign, next_marked, most_word_shown, most_shown, most_byte, most_from, filled, most_of}
use Rattle.report.specs.declared.totals.Totals.{Totals}
use Rattle.year.specs.declared.MemberYear.{MemberYear}
use Rattle.year.specs.declared.Year.{Year}
use Rattle.year.specs.Year.{no_months}
use Rattle.annual.specs.Sums.{with_member, year_totals}
use Rattle.annual.specs.Forms.{head_form, member_form, member_values, foot_form}
use Rattle.annual.specs.Texts.{is_present, line_text, members_text, year_of_text, year_text, most_head, most_line, most_foot}

-- The room of the forms

pub most_head_lem : most_of head_form ≡ most_head
unfolding is_sign next_marked most_word_shown most_shown most_byte most_from
most_head_lem = refl

pub most_line_lem : most_of member_form ≡ most_line
unfolding is_sign next_marked most_word_shown most_shown most_byte most_from
most_line_lem = refl

pub most_foot_lem : most_of foot_form ≡ most_foot
unfolding is_sign next_marked most_word_shown most_shown most_byte most_from
most_foot_lem = refl

-- Members

pub no_line : {k : List ℕ} {at : ℕ} (number : ℕ) (m : MemberYear) → is_present m.months 12 ≡ false → Puts most_line k at (line_text number m) k at
unfolding line_text
no_line {k = k} {at = at} number m e = rw e (looser most_line (omega arith) (none_put k at))

pub one_line : {k l : List ℕ} {at r : ℕ} (number : ℕ) (m : MemberYear) → is_present m.months 12 ≡ true → Puts most_line k at (filled member_form (member_values number m)) l r
    → Puts most_line k at (line_text number m) l r
unfolding line_text
one_line number m e p = rw e p

-- a member is in a month, said from the first month on and from the last one back
or_false : (b : Bool) → (b || false) ≡ b
or_false true = refl
or_false false = refl

present_in : (ms : List Bool) (n : ℕ) → n ≤ length ms → list_any (λ is. is) (take n ms) ≡ is_present ms n
unfolding is_present
present_in ms zero h = refl
present_in ms (suc n) h =
    ap (list_any (λ is. is)) (take-suc ms n false (omega arith))
    ∙ list_any-append (λ is. is) (take n ms) (get_or ms n false ∷ [])
    ∙ (λ i. present_in ms n (omega arith) i || or_false (get_or ms n false) i)

pub present : (ms : List Bool) → length ms ≡ 12 → list_any (λ is. is) ms ≡ is_present ms 12
present ms e = ap (list_any (λ is. is)) (sym (take_all 12 ms (omega arith))) ∙ present_in ms 12 (omega arith)

either_default : {A : Type 0} (xs : List A) (k : ℕ) (d e : A) → k < length xs → get_or xs k d ≡ get_or xs k e
either_default [] k d e h = absurd (not-suc-le-zero h)
either_default (x ∷ xs) zero d e h = refl
either_default (x ∷ xs) (suc k) d e h = either_default xs k d e (omega (arith, h))

module _ (ms : List MemberYear) where
  pub members_none : (k : List ℕ) (at : ℕ) → Puts (most_line * 0) k at (members_text ms 0) k at
  unfolding members_text
  members_none k at = none_put k at

  pub members_more : {k l o : List ℕ} {at a r : ℕ} (i : ℕ) (d : MemberYear) → i < length ms → Puts (most_line * i) k at (members_text ms i) l a
      → Puts most_line l a (line_text (i + 1) (get_or ms i d)) o r → Puts (most_line * (i + 1)) k at (members_text ms (i + 1)) o r
  unfolding members_text
  members_more i d h f g =
      let own : line_text (i + 1) (get_or ms i d) ≡ line_text (suc i) (get_or ms i no_months) = λ j. line_text (add-one i j) (either_default ms i d no_months h j) in
      same_put (ap (members_text ms) (sym (add-one i))) (looser (most_line * (i + 1)) (omega arith) (and_then f (same_put own g)))

  pub totals_none : record { compensation = 0; assessment = 0; due = 0; owed = 0 } ≡ year_totals ms 0
  unfolding year_totals
  totals_none = refl

  pub totals_more : (i : ℕ) (d : MemberYear) → i < length ms → (t r : Totals) → t ≡ year_totals ms i → r ≡ with_member t (get_or ms i d)
      → r ≡ year_totals ms (i + 1)
  unfolding year_totals
  totals_more i d h t r e f = f ∙ (λ j. with_member (e j) (either_default ms i d no_months h j)) ∙ ap (year_totals ms) (sym (add-one i))

-- The whole

pub refused_text : (area : ℕ) (y : Year) → (y.number ≡ 0 → ⊥) → [] ≡ year_text area y
unfolding year_text
refused_text area y h = rw (ne_eqb y.number 0 h)

pub taken_text : (area : ℕ) (y : Year) → y.number ≡ 0 → year_of_text area y ≡ year_text area y
unfolding year_text
taken_text area y e = rw (eq-eqb y.number 0 e)
