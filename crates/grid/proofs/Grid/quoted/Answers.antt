use mathlib.Core.Path.{ap}
use mathlib.Core.Bool.{true, false}
use Rattle.grid.specs.declared.cell.Cell.{Cell}
use Rattle.grid.proofs.Steps.{by_quote_byte}
use Rattle.grid.proofs.Grid.quoted.Goals as goal

pub returns : goal.returns
returns c = let g = c.args.self in
    λ ended. by_quote_byte g ended c.requires _ (ap (λ (x : Cell). record { stage = g.stage; separator = g.separator; filled = true; shut = false; cell = x; at = g.at }) c.quote-cell.ensures)
