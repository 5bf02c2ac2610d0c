use mathlib.Core.Path.{◌≡◌, refl}
use mathlib.Core.Bool.{Bool, true, false, not, ◌&&◌}
use mathlib.Core.List.{[]}
use Rattle.grid.specs.declared.Grid.{Grid}
use Rattle.grid.specs.Grid.{is_blank}
use Rattle.grid.specs.Meaning.{plain_left, blank_left}
use Rattle.grid.proofs.Grid.is_blank.Goals as goal

blank-here : (g : Grid) → not g.filled ≡ blank_left g []
unfolding blank_left
blank-here g = go g.filled g.shut
  where
    go : (f s : Bool) → not f ≡ (not f && is_blank (plain_left s []))
    go true s = refl
    go false true = refl
    go false false = refl

pub returns : goal.returns
returns c = blank-here c.args.self
