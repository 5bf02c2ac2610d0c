use mathlib.Core.List.{[], ◌∷◌}
use Rattle.render.specs.Yuan.{two_places}
use Rattle.render.proofs.Placed.{same_put}
use Rattle.render.proofs.yuan.put_two.Goals as goal

pub returns : goal.returns
unfolding two_places
returns c =
    let p = c.last_digit-tens.ensures in
    let q = c.last_digit-ones.ensures in
    let r = c.put_word.ensures in
    same_put (λ i. 46 ∷ p i ∷ q i ∷ []) r
