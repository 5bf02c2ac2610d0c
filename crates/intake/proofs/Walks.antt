-- The walks over a statement's rows: judged in turn, and made lines of the year. Assumes nothing.
use mathlib.Core.Path.{◌≡◌, ap, ◌∙◌}
use mathlib.Core.Bool.{true, false}
use mathlib.Core.List.{List, ◌∷◌}
use Prim.Native.Nat.{ℕ, suc, ◌+◌, ◌≤◌, ◌<◌}
use native.Mathlib.Omega.{arith}
use borrow.Author.Tests.{lt-ltb, le-ltb}
use native.Mathlib.Numerals.{add-one}
use lib.ListN.{length, get_or, take, drop, drop_of_length-le}
use lib.Seq.{drop-cons}
use Rattle.month.specs.declared.Row.{Row}
use Rattle.month.specs.declared.Statement.{Statement}
use Rattle.year.specs.Year.{is_within}
use Rattle.intake.specs.Limits.{head_is_within, row_is_within, gap_is_within, first_beyond, line_beyond}

pub row_step : (before : ℕ) (r : Row) (rs : List Row) → row_is_within before r ≡ true → first_beyond before (r ∷ rs) ≡ suc (first_beyond r.number rs)
unfolding first_beyond
row_step before r rs e = rw e

pub row_stop : (before : ℕ) (r : Row) (rs : List Row) → row_is_within before r ≡ false → first_beyond before (r ∷ rs) ≡ 0
unfolding first_beyond
row_stop before r rs e = rw e

module _ (rows : List Row) where
  abbrev all : ℕ
  all = first_beyond 0 rows

  module _ (i : ℕ) (more : i < length rows) (d : Row) where
    next : drop i rows ≡ get_or rows i d ∷ drop (i + 1) rows
    next = rw add-one (drop-cons rows i d more)

    pub beyond_on : (before : ℕ) → row_is_within before (get_or rows i d) ≡ true → i + first_beyond before (drop i rows) ≡ all
        → i + 1 + first_beyond (get_or rows i d).number (drop (i + 1) rows) ≡ all
    beyond_on before s k =
        let e = ap (first_beyond before) next ∙ row_step before (get_or rows i d) (drop (i + 1) rows) s in
        omega (arith, e, k)

    pub beyond_off : (before : ℕ) → row_is_within before (get_or rows i d) ≡ false → i + first_beyond before (drop i rows) ≡ all → i ≡ all
    beyond_off before s k =
        let e = ap (first_beyond before) next ∙ row_stop before (get_or rows i d) (drop (i + 1) rows) s in
        omega (arith, e, k)

  pub beyond_end : (i before : ℕ) → length rows ≤ i → i + first_beyond before (drop i rows) ≡ all → i ≡ all
  unfolding first_beyond
  beyond_end i before h k =
      let e = ap (first_beyond before) (drop_of_length-le rows {i = i} h) in
      omega (arith, e, k)

-- The lines of the text, one kind after another

module _ (s : Statement) where
  abbrev bad : ℕ
  bad = first_beyond 0 (take s.count s.rows)

  pub at_head : head_is_within s.header s.calls s.part ≡ false → 0 ≡ line_beyond s
  unfolding line_beyond
  at_head e = rw e

  module _ (head : head_is_within s.header s.calls s.part ≡ true) where
    pub at_row : bad < s.count → 1 + bad ≡ line_beyond s
    unfolding line_beyond
    at_row h = rw (head, lt-ltb bad s.count h)

    module _ (rows : s.count ≤ bad) where
      pub at_gap : gap_is_within s.gap.0 ≡ false → 1 + s.count ≡ line_beyond s
      unfolding line_beyond
      at_gap g = rw (head, le-ltb bad s.count rows, g)

      pub at_user : gap_is_within s.gap.0 ≡ true → is_within s.user.0 ≡ false → 2 + s.count ≡ line_beyond s
      unfolding line_beyond
      at_user g u = rw (head, le-ltb bad s.count rows, g, u)

      pub at_none : gap_is_within s.gap.0 ≡ true → is_within s.user.0 ≡ true → 3 + s.count ≡ line_beyond s
      unfolding line_beyond
      at_none g u = rw (head, le-ltb bad s.count rows, g, u)
