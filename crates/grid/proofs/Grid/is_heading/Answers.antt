use mathlib.Core.Path.{◌≡◌, refl}
use mathlib.Core.Bool.{Bool, true, false, ◌&&◌}
use mathlib.Core.List.{[]}
use lib.Dec.{ltb}
use Rattle.grid.specs.declared.Grid.{Grid}
use Rattle.grid.specs.Meaning.{head_left}
use Rattle.grid.proofs.Grid.is_heading.Goals as goal

head-here : (g : Grid) → ltb g.stage 4 ≡ head_left g []
unfolding head_left
head-here g = go (ltb g.stage 4)
  where
    go : (t : Bool) → t ≡ (t && true)
    go true = refl
    go false = refl

pub returns : goal.returns
returns c = head-here c.args.self
