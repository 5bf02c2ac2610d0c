use mathlib.Core.Path.{◌≡◌, refl, ◌∙◌}
use mathlib.Core.Bool.{Bool, true, false, ◌&&◌}
use lib.Dec.{eqb}
use Rattle.pair.specs.Screening.{same_month}
use Rattle.pair.proofs.same_month.Goals as goal

turned : (t u : Bool) → (t && u) ≡ (u && t)
turned true true = refl
turned true false = refl
turned false true = refl
turned false false = refl

pub returns : goal.returns
unfolding same_month
returns c =
    let h = c.args.h in
    let k = c.args.k in
    c.eq.ensures ∙ turned (eqb h.area k.area) (eqb h.year k.year && eqb h.month k.month)
