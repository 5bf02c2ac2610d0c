use mathlib.Core.List.{[], ◌∷◌}
use Rattle.clock.specs.Clock.{two_digits}
use Rattle.render.proofs.Placed.{same_put}
use Rattle.form.specs.Form.{time_text}
use Rattle.form.proofs.mark.put_time.Goals as goal

pub returns : goal.returns
unfolding time_text two_digits
returns c =
    let p = c.last_digit-a.ensures in
    let q = c.last_digit-b.ensures in
    let r = c.last_digit-c.ensures in
    let s = c.last_digit-d.ensures in
    same_put (λ i. p i ∷ q i ∷ 58 ∷ r i ∷ s i ∷ []) c.put_word.ensures
