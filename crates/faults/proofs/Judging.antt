-- What the cells of a line say that ends here, and what is wrong with them. Assumes nothing.
use Rattle.std.proofs.Common.{
  ◌≡◌,
  ℕ,
  ◌+◌,
  ◌<◌,
  ◌≤◌,
  true,
  false,
  ◌&&◌,
  leb,
  List,
  [],
  ◌∷◌,
  ◌++◌,
  length,
  get_or,
  take,
  set,
  sym,
  ap,
  ◌∙◌,
  add-one,
  arith,
  length-append,
  length-take,
  take_all,
  get_or-take,
  take-suc-set,
}
use lib.Seq.{take-append-le}
use Rattle.grid.specs.declared.Grid.{Grid}
use Rattle.grid.specs.Meaning.{cell_told, row_left}
use Rattle.grid.proofs.Ends.{cells_here, cells_end}
use Rattle.std.specs.Prelude.{Option}
use Rattle.faults.specs.declared.Wrong.{Wrong}
use Rattle.faults.specs.Faults.{or_else, number_of}
use Rattle.faults.specs.Inner.{as_told}

module _ (grid : Grid) (ended : List ℕ) (room : length ended ≡ 8) where
  -- more than can be kept
  pub cells_full : 8 ≤ grid.at → row_left as_told grid ended [] ≡ take 8 ended
  cells_full h = cells_end grid ended (omega arith) as_told ∙ ap (λ (l : List ℕ). take 8 (l ++ cell_told grid.cell ∷ [])) (take_all grid.at ended (omega arith))
      ∙ take-append-le 8 ended (cell_told grid.cell ∷ []) (omega arith)

  pub cells_more : grid.at < 8 → (v : ℕ) → v ≡ cell_told grid.cell → row_left as_told grid ended [] ≡ take (grid.at + 1) (set ended grid.at v)
  cells_more h v e =
      let here = cells_here grid ended (omega arith) in
      let long : length here ≤ 8 = omega (arith, length-append (take grid.at ended) (cell_told grid.cell ∷ []), length-take grid.at ended) in
      cells_end grid ended (omega arith) as_told ∙ take_all 8 here long
      ∙ ap (λ (x : ℕ). take grid.at ended ++ x ∷ []) (sym e)
      ∙ sym (take-suc-set ended grid.at v (omega arith))
      ∙ ap (λ (n : ℕ). take n (set ended grid.at v)) (sym (add-one grid.at))

-- the first cell of a line that has one
pub first_cell : (cells : List ℕ) (count : ℕ) → 1 ≤ count → get_or cells 0 0 ≡ get_or (take count cells) 0 0
first_cell cells count h = sym (get_or-take count cells 0 0 (omega arith))

-- the number that the next line is held against
pub number_yes : (n : ℕ) (row : List ℕ) → n ≡ get_or row 0 0 → (leb 1 n && leb n 64) ≡ true → n ≡ number_of row
unfolding number_of
number_yes n row e h = rw (← e, h)

pub number_no : (n : ℕ) (row : List ℕ) → n ≡ get_or row 0 0 → (leb 1 n && leb n 64) ≡ false → 0 ≡ number_of row
unfolding number_of
number_no n row e h = rw (← e, h)

-- two faults and two that are the same
pub or_is : {x y a b : Option Wrong} → x ≡ a → y ≡ b → or_else x y ≡ or_else a b
or_is e f = λ i. or_else (e i) (f i)
