use mathlib.Core.List.{[], ◌∷◌}
use Rattle.render.specs.Yuan.{five_places}
use Rattle.render.proofs.Placed.{same_put}
use Rattle.render.proofs.yuan.put_five.Goals as goal

pub returns : goal.returns
unfolding five_places
returns c =
    let p = c.last_digit-a.ensures in
    let q = c.last_digit-b.ensures in
    let r = c.last_digit-c.ensures in
    let s = c.last_digit-d.ensures in
    let t = c.last_digit-e.ensures in
    let u = c.put_word.ensures in
    same_put (λ i. 46 ∷ p i ∷ q i ∷ r i ∷ s i ∷ t i ∷ []) u
