-- What one more byte does to the cell that is being read, and what the cells of a line say of its row. Assumes nothing.
use mathlib.Core.Path.{◌≡◌, refl, ap, sym, ◌∙◌}
use mathlib.Core.Bool.{Bool, true, false, cond, ◌&&◌}
use mathlib.Core.List.{List, [], ◌∷◌, map}
use Prim.Native.Nat.{ℕ, ◌<◌}
use native.Mathlib.Decide.{dec_lt}
use native.Mathlib.Omega.{arith}
use lib.Dec.{eqb, leb}
use lib.ListN.{length, take, length-map, length-take}
use lib.Seq.{take_all}
use borrow.Author.Tests.{ne_eqb, le-leb}
use Rattle.le.proofs.Tests.{each}
use Rattle.row.specs.Numbers.{is_digit, digits, is_number, numbers, value, numbers_in, ceiling, hold}
use Rattle.row.specs.Meaning.{most_columns}
use Rattle.row.proofs.Texts.{digit_is_not, and_false}
use Rattle.grid.specs.declared.cell.Cell.{Cell}
use Rattle.grid.specs.declared.cell.Cell.TheVariants.{Fresh, Bare, Opened, Quoted, Dashed, Closed, Bad}
use Rattle.grid.specs.Grid.{quote, closing, unquoted}
use Rattle.grid.specs.Told.{dash, is_dash, no_number, none_told, told}
use Rattle.grid.specs.Meaning.{told_behind, told_left, cell_so_far, cell_digits, cell_quote, cell_dash, all_told, row_by}

-- A byte of the cell

told_foreign : (c : ℕ) (p : List ℕ) → is_digit c ≡ false → (c ≡ dash → ⊥) → told (c ∷ p) ≡ no_number
told_foreign c p d nd = rw (d, ne_eqb c dash nd)

closing_on : (c : ℕ) (p : List ℕ) → (c ≡ quote → ⊥) → closing (c ∷ p) ≡ c ∷ closing p
closing_on c p ne = rw (ne_eqb c quote ne)

unquoted_on : (c : ℕ) (p : List ℕ) → (c ≡ quote → ⊥) → unquoted (c ∷ p) ≡ c ∷ p
unquoted_on c p ne = rw (ne_eqb c quote ne)

-- a byte that no cell has
pub foreign : (cell : Cell) (c : ℕ) → is_digit c ≡ false → (c ≡ quote → ⊥) → (c ≡ dash → ⊥) → (p : List ℕ) → no_number ≡ told_left cell (c ∷ p)
unfolding told_left
foreign Fresh c d ne nd p = sym (ap told (unquoted_on c p ne) ∙ told_foreign c p d nd)
foreign (Bare v) c d ne nd p = sym (rw d)
foreign Opened c d ne nd p = sym (ap told (closing_on c p ne) ∙ told_foreign c (closing p) d nd)
foreign (Quoted v) c d ne nd p = sym (ap (told_behind v) (closing_on c p ne) ∙ rw d)
foreign Dashed c d ne nd p = sym (ap (λ (x : List ℕ). told (dash ∷ x)) (closing_on c p ne))
foreign (Closed n) c d ne nd p = refl
foreign Bad c d ne nd p = refl

-- a quote
pub by_quote : (cell : Cell) (p : List ℕ) → told_left (cell_quote cell) p ≡ told_left cell (quote ∷ p)
unfolding told_left
by_quote Fresh p = refl
by_quote (Bare v) p = refl
by_quote Opened [] = refl
by_quote Opened (x ∷ p) = refl
by_quote (Quoted v) [] = refl
by_quote (Quoted v) (x ∷ p) = refl
by_quote Dashed [] = refl
by_quote Dashed (x ∷ p) = refl
by_quote (Closed n) p = refl
by_quote Bad p = refl

-- a dash
pub by_dash : (cell : Cell) (p : List ℕ) → told_left (cell_dash cell) p ≡ told_left cell (dash ∷ p)
unfolding told_left
by_dash Fresh [] = refl
by_dash Fresh (x ∷ p) = refl
by_dash (Bare v) p = refl
by_dash Opened p = refl
by_dash (Quoted v) p = refl
by_dash Dashed p = refl
by_dash (Closed n) p = refl
by_dash Bad p = refl

-- a digit
module _ (d v : ℕ) (is : is_digit d ≡ true) where
  apart : d ≡ quote → ⊥
  apart = digit_is_not d quote is (omega arith)

  told_digit : (p : List ℕ) → hold (value v p) ≡ hold (value 0 (d ∷ p)) → told_behind v p ≡ told (d ∷ p)
  told_digit p h = rw is (go (digits p))
    where
      go : (t : Bool) → cond t (hold (value v p)) no_number ≡ cond (t && true) (hold (value 0 (d ∷ p))) (cond (is_dash (d ∷ p)) none_told no_number)
      go true = h
      go false = rw (ne_eqb d dash (digit_is_not d dash is (omega arith)))

  behind_digit : (u : ℕ) (p : List ℕ) → hold (value v p) ≡ hold (value u (d ∷ p)) → told_behind v p ≡ told_behind u (d ∷ p)
  behind_digit u p h = rw is (ap (λ (n : ℕ). cond (digits p) n no_number) h)

  pub by_digit : (cell : Cell) → ((p : List ℕ) → hold (value v p) ≡ hold (value (cell_so_far cell) (d ∷ p))) → (p : List ℕ)
      → told_left (cell_digits cell v) p ≡ told_left cell (d ∷ p)
  unfolding told_left
  by_digit Fresh h p = told_digit p (h p) ∙ ap told (sym (unquoted_on d p apart))
  by_digit (Bare u) h p = behind_digit u p (h p)
  by_digit Opened h p = told_digit (closing p) (h (closing p)) ∙ ap told (sym (closing_on d p apart))
  by_digit (Quoted u) h p = behind_digit u (closing p) (h (closing p)) ∙ ap (told_behind u) (sym (closing_on d p apart))
  by_digit Dashed h p = ap (λ (x : List ℕ). told (dash ∷ x)) (sym (closing_on d p apart))
  by_digit (Closed n) h p = refl
  by_digit Bad h p = refl

-- What the cells of a line say

-- A CELL SAYS A NUMBER exactly where it is one,
pub told_is : (p : List ℕ) → leb (told p) ceiling ≡ is_number p
told_is p = go (is_number p)
  where
    none : (t : Bool) → leb (cond t none_told no_number) ceiling ≡ false
    none true = refl
    none false = refl

    go : (t : Bool) → leb (cond t (hold (value 0 p)) (cond (is_dash p) none_told no_number)) ceiling ≡ t
    go true = le-leb (hold (value 0 p)) ceiling (omega arith)
    go false = none (is_dash p)

number_no_dash : (p : List ℕ) → is_number p ≡ true → is_dash p ≡ false
number_no_dash [] h = refl
number_no_dash (b ∷ p) h = rw (ne_eqb b dash (digit_is_not b dash (each (is_digit b) (digits p ∷ true ∷ []) h).0 (omega arith)))

-- and NONE exactly where it is `-` alone.
pub told_none : (p : List ℕ) → eqb (told p) none_told ≡ is_dash p
told_none p = go (is_number p) refl
  where
    none : (t : Bool) → eqb (cond t none_told no_number) none_told ≡ t
    none true = refl
    none false = refl

    go : (t : Bool) → is_number p ≡ t → eqb (cond t (hold (value 0 p)) (cond (is_dash p) none_told no_number)) none_told ≡ is_dash p
    go true h = ne_eqb (hold (value 0 p)) none_told (λ e. omega arith) ∙ sym (number_no_dash p h)
    go false h = none (is_dash p)

all_told_lem : (cells : List (List ℕ)) → all_told (map told cells) ≡ numbers cells
all_told_lem [] = refl
all_told_lem (p ∷ ps) = rw (told_is p, all_told_lem ps)

told_values : (cells : List (List ℕ)) → numbers cells ≡ true → map told cells ≡ map hold (map (value 0) cells)
told_values [] h = refl
told_values (p ∷ ps) h = let e = each (is_number p) (numbers ps ∷ []) h in rw (e.0, told_values ps e.1.0)

swap : (t u : Bool) → (t && u) ≡ (u && t)
swap true true = refl
swap true false = refl
swap false true = refl
swap false false = refl

-- a row has its numbers where each of its cells, so many, has one
pub row_told : (columns : ℕ) (cells : List (List ℕ)) → columns < most_columns → row_by columns (take most_columns (map told cells)) ≡ map hold (numbers_in columns cells)
unfolding numbers_in
row_told columns cells h = go (dec_lt (length cells) most_columns)
  where
    by : (t : Bool) → (numbers cells && eqb (length cells) columns) ≡ t → cond t (map told cells) [] ≡ map hold (cond t (map (value 0) cells) [])
    by true e = told_values cells (each (numbers cells) (eqb (length cells) columns ∷ []) e).0
    by false e = refl

    go : Dec (length cells < most_columns) → row_by columns (take most_columns (map told cells)) ≡ map hold (cond (numbers cells && eqb (length cells) columns) (map (value 0) cells) [])
    go (yes few) =
        let whole : take most_columns (map told cells) ≡ map told cells = take_all most_columns (map told cells) (omega (arith, length-map cells told)) in
        ap (row_by columns) whole
        ∙ rw (all_told_lem cells, length-map cells told, swap (eqb (length cells) columns) (numbers cells)) (by (numbers cells && eqb (length cells) columns) refl)
    go (no many) =
        let long : length (take most_columns (map told cells)) ≡ most_columns = omega (arith, length-take most_columns (map told cells), length-map cells told) in
        rw (long, ne_eqb most_columns columns (λ e. omega arith), ne_eqb (length cells) columns (λ e. omega arith), and_false (numbers cells))
