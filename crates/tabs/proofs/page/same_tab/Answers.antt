use mathlib.Core.Path.{◌≡◌, refl, ◌∙◌}
use mathlib.Core.Bool.{Bool, true, false, ◌&&◌}
use Rattle.tabs.specs.Tabs.{same_tab}
use Rattle.tabs.proofs.page.same_tab.Goals as goal

and_left : (t u v : Bool) → (t && (u && v)) ≡ (t && u && v)
and_left true u v = refl
and_left false u v = refl

pub returns : goal.returns
unfolding same_tab
returns c = c.eq.ensures ∙ simp and_left
