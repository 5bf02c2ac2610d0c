-- The table and its sums, member by member. Assumes nothing.
use mathlib.Core.Path.{◌≡◌, refl, sym, ap, ◌∙◌}
use mathlib.Core.List.{List, ◌++◌}
use Prim.Native.Nat.{ℕ, zero, suc, ◌+◌, ◌*◌, ◌≤◌}
use native.Mathlib.Numerals.{add-one}
use native.Mathlib.Omega.{arith}
use lib.ListN.{length, get_or, take}
use Rattle.std.proofs.lemmas.List.{get_or-take, length-take-le}
use Rattle.render.specs.Inner.{Puts}
use Rattle.render.proofs.Placed.{and_then, looser, same_put, none_put}
use Rattle.form.specs.Form.{is_sign, next_marked, most_shown, most_byte, most_from, most_of}
use Rattle.month.specs.declared.Row.{Row}
use Rattle.month.specs.Settling.{blank_row}
use Rattle.report.specs.declared.totals.Totals.{Totals}
use Rattle.report.specs.Totals.{with_row, totals_of}
use Rattle.report.specs.Forms.{row_form, foot_form}
use Rattle.report.specs.Texts.{most_row, most_foot, row_text, rows_text}

pub most_row_lem : most_of row_form ≡ most_row
unfolding is_sign next_marked most_shown most_byte most_from
most_row_lem = refl

pub most_foot_lem : most_of foot_form ≡ most_foot
unfolding is_sign next_marked most_shown most_byte most_from
most_foot_lem = refl

module _ (rows : List Row) where
  pub rows_none : (k : List ℕ) (at : ℕ) → Puts (most_row * 0) k at (rows_text rows 0) k at
  unfolding rows_text
  rows_none k at = none_put k at

  pub rows_more : {k l o : List ℕ} {at a r : ℕ} (i : ℕ) → Puts (most_row * i) k at (rows_text rows i) l a
      → Puts most_row l a (row_text (get_or rows i blank_row)) o r → Puts (most_row * (i + 1)) k at (rows_text rows (i + 1)) o r
  unfolding rows_text
  rows_more i f g = same_put (ap (rows_text rows) (sym (add-one i))) (looser (most_row * (i + 1)) (omega arith) (and_then f g))

  pub totals_none : record { compensation = 0; assessment = 0; due = 0; owed = 0 } ≡ totals_of rows 0
  unfolding totals_of
  totals_none = refl

  pub totals_more : (i : ℕ) (t r : Totals) → t ≡ totals_of rows i → r ≡ with_row t (get_or rows i blank_row) → r ≡ totals_of rows (i + 1)
  unfolding totals_of
  totals_more i t r e f = f ∙ ap (λ (x : Totals). with_row x (get_or rows i blank_row)) e ∙ ap (totals_of rows) (sym (add-one i))

  -- the first lines of the first lines
  pub rows_front : (n k : ℕ) → k ≤ n → rows_text (take n rows) k ≡ rows_text rows k
  unfolding rows_text
  rows_front n zero h = refl
  rows_front n (suc k) h = λ i. rows_front n k (omega arith) i ++ row_text (get_or-take n rows k blank_row (omega arith) i)

  pub totals_front : (n k : ℕ) → k ≤ n → totals_of (take n rows) k ≡ totals_of rows k
  unfolding totals_of
  totals_front n zero h = refl
  totals_front n (suc k) h = λ i. with_row (totals_front n k (omega arith) i) (get_or-take n rows k blank_row (omega arith) i)

  -- what is said of the first lines as a list, said of them by their number
  pub rows_counted : (n : ℕ) → n ≤ length rows → rows_text (take n rows) (length (take n rows)) ≡ rows_text rows n
  rows_counted n h = ap (rows_text (take n rows)) (length-take-le n rows h) ∙ rows_front n n (omega arith)

  pub totals_counted : (n : ℕ) → n ≤ length rows → totals_of (take n rows) (length (take n rows)) ≡ totals_of rows n
  totals_counted n h = ap (totals_of (take n rows)) (length-take-le n rows h) ∙ totals_front n n (omega arith)
