-- The rows of a statement, one by one. Assumes nothing.
use mathlib.Core.Path.{◌≡◌, refl, ap, ◌∙◌}
use mathlib.Core.Bool.{Bool}
use mathlib.Core.List.{List, [], ◌∷◌}
use Prim.Native.Nat.{ℕ, zero, suc, ◌-◌, ◌≤◌, ◌<◌}
use native.Mathlib.Omega.{arith}
use lib.IntN.{pos}
use lib.ListN.{length, get_or, take, drop, replicate}
use lib.Seq.{get_or-take, length-take-le, take_all}
use Rattle.units.specs.declared.Grains.{Grains}
use Rattle.ceiling.specs.declared.LimitedLine.{LimitedLine}
use Rattle.ceiling.specs.Ceiling.{CeiledPart, plain_lines}
use Rattle.ceiling.specs.Forms.{ceiled_lines, cleared_lines}
use Rattle.ceiling.specs.Inner.{blank_limited}
use Rattle.apportion.proofs.Loops.{over}
use Rattle.month.specs.declared.Ramped.{Ramped}
use Rattle.month.specs.declared.Row.{Row}
use Rattle.month.specs.declared.Fault.{Fault}
use Rattle.month.specs.declared.Statement.{Statement}
use Rattle.month.specs.Settling.{no_ramping, row_of, rows_of, blank_row, filled_rows, month_refused}
use Rattle.month.specs.Inner.{row_in, rows_in}
use Rattle.month.proofs.Walking.{no_grains}

pub length_rows : (is_below : Bool) (ls : List LimitedLine) (gs : List Grains) (rs : List Ramped) → length (rows_in is_below ls gs rs) ≡ length ls
unfolding rows_in
length_rows is_below [] gs rs = refl
length_rows is_below (l ∷ ls) gs rs = ap suc (length_rows is_below ls (drop 1 gs) (drop 1 rs))

-- an element behind the first
pub next_of : {A : Type 0} (xs : List A) (i : ℕ) (z : A) → get_or (drop 1 xs) i z ≡ get_or xs (suc i) z
next_of [] i z = refl
next_of (x ∷ xs) i z = refl

pub row_at : (is_below : Bool) (ls : List LimitedLine) (gs : List Grains) (rs : List Ramped) (i : ℕ) (d : Row) → i < length ls
    → get_or (rows_in is_below ls gs rs) i d ≡ row_in is_below (get_or ls i blank_limited) (get_or gs i no_grains) (get_or rs i no_ramping).hours
unfolding rows_in
row_at is_below [] gs rs i d h = absurd (omega arith)
row_at is_below (l ∷ ls) gs rs zero d h = refl
row_at is_below (l ∷ ls) gs rs (suc i) d h = row_at is_below ls (drop 1 gs) (drop 1 rs) i d (omega arith) ∙ rw (next_of gs i no_grains, next_of rs i no_ramping) refl

drop_blank : (i n : ℕ) (r : Row) → drop i (replicate n r) ≡ replicate (n - i) r
drop_blank zero n r =
    let e : n - 0 ≡ n = omega arith in
    rw e refl
drop_blank (suc i) zero r =
    let e : 0 - suc i ≡ 0 = omega arith in
    rw e refl
drop_blank (suc i) (suc n) r =
    let e : suc n - suc i ≡ n - i = omega arith in
    rw e (drop_blank i n r)

module _ (is_below : Bool) (lines : List LimitedLine) (grains : List Grains) (ramped : List Ramped) (count : ℕ) (h : count ≤ length lines) where
  abbrev rows : List Row
  rows = rows_in is_below (take count lines) (take count grains) ramped

  pub length_counted : length rows ≡ count
  length_counted = length_rows is_below (take count lines) (take count grains) ramped ∙ length-take-le count lines h

  pub row_counted : (i : ℕ) (d : Row) → i < count → get_or rows i d ≡ row_in is_below (get_or lines i blank_limited) (get_or grains i no_grains) (get_or ramped i no_ramping).hours
  row_counted i d l =
      let long = length-take-le count lines h in
      row_at is_below (take count lines) (take count grains) ramped i d (omega arith) ∙ rw (get_or-take count lines i blank_limited l, get_or-take count grains i no_grains l) refl

  -- all are written over blank ones
  pub rows_done : (out : List Row) (i : ℕ) → i ≡ count → out ≡ over (replicate 64 blank_row) rows i → out ≡ filled_rows rows
  unfolding filled_rows
  rows_done out i e is =
      let long = length_counted in
      is ∙ rw (take_all i rows (omega arith), drop_blank i 64 blank_row, e, long) refl

-- a refusal, from its rows
pub refused_is : (fault : Fault) (rows : List Row) → rows ≡ replicate 64 blank_row
    → ◌≡◌ {A = Statement}
    (record {
      fault = fault;
      header = record { area = 0; year = 0; month = 0 };
      calls = 0;
      part = 0;
      gap = record { 0 = pos 0 };
      user = record { 0 = pos 0 };
      count = 0;
      rows = rows;
    })
    (month_refused fault)
unfolding month_refused filled_rows
refused_is fault rows e = rw e refl

-- the rows of lines and their parts are those of the lines filled in
pub rows_filled : (is_below : Bool) (ls : List LimitedLine) (gs : List Grains) (rs : List Ramped) (ps : List CeiledPart) → length ps ≡ length ls
    → rows_in is_below (ceiled_lines ps (cleared_lines ls)) gs rs ≡ rows_of is_below (plain_lines ls) gs rs ps
unfolding rows_in rows_of row_in row_of
rows_filled is_below [] gs rs [] h = refl
rows_filled is_below [] gs rs (p ∷ ps) h = absurd (omega arith)
rows_filled is_below (l ∷ ls) gs rs [] h = absurd (omega arith)
rows_filled is_below (l ∷ ls) gs rs (p ∷ ps) h =
    ap (λ (xs : List Row). row_of is_below l.line (get_or gs 0 no_grains) (get_or rs 0 no_ramping).hours p ∷ xs) (rows_filled is_below ls (drop 1 gs) (drop 1 rs) ps (omega arith))
