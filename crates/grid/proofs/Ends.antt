-- The numbers of a line that ends here, by its cells. Assumes nothing.
use mathlib.Core.Path.{◌≡◌, refl, ap, ◌∙◌}
use mathlib.Core.Bool.{Bool, true, false, cond}
use mathlib.Core.List.{List, [], ◌∷◌, ◌++◌}
use Prim.Native.Nat.{ℕ, suc, ◌≤◌, ◌<◌}
use native.Mathlib.Omega.{arith}
use lib.ListN.{length, take, length-take, length-append}
use lib.Seq.{take_all}
use borrow.Author.Tests.{ne_eqb, eq-eqb}
use Rattle.row.specs.Numbers.{parts_of}
use Rattle.row.specs.Meaning.{most_columns}
use Rattle.grid.specs.declared.Grid.{Grid}
use Rattle.grid.specs.Grid.{comma}
use Rattle.grid.specs.Meaning.{cell_told, all_told, row_by, cells_left, plain_left, row_left}

module _ (g : Grid) (ended : List ℕ) (room : most_columns ≤ length ended) where
  -- what its cells say
  abbrev pub cells_here : List ℕ
  cells_here = take g.at ended ++ cell_told g.cell ∷ []

  pub cells_end : (say : List ℕ → List ℕ) → row_left say g ended [] ≡ say (take most_columns cells_here)
  unfolding row_left
  cells_end say = go g.shut
    where
      go : (t : Bool) → say (cells_left g.at ended g.cell (parts_of comma (plain_left t []))) ≡ say (take most_columns cells_here)
      go true = refl
      go false = refl

  -- a line of so many cells
  pub row_here : (columns : ℕ) → suc g.at ≡ columns → columns ≤ most_columns → row_left (row_by columns) g ended [] ≡ cond (all_told cells_here) cells_here []
  row_here columns many few =
      let long : length cells_here ≡ columns = omega (arith, length-append (take g.at ended) (cell_told g.cell ∷ []), length-take g.at ended) in
      cells_end (row_by columns) ∙ ap (row_by columns) (take_all most_columns cells_here (omega arith)) ∙ rw (eq-eqb (length cells_here) columns long)

  -- a line of more or fewer
  pub row_not : (columns : ℕ) → (suc g.at ≡ columns → ⊥) → columns < most_columns → row_left (row_by columns) g ended [] ≡ []
  row_not columns other few =
      let n = length (take most_columns cells_here) in
      let apart : n ≡ columns → ⊥ = λ e. other
      (omega (arith, length-append (take g.at ended) (cell_told g.cell ∷ []), length-take g.at ended, length-take most_columns cells_here)) in
      cells_end (row_by columns) ∙ rw (ne_eqb n columns apart)
