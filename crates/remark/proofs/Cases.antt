-- What is said, case by case. Assumes nothing.
use mathlib.Core.Path.{◌≡◌}
use mathlib.Core.List.{List, []}
use Prim.Native.Nat.{ℕ}
use lib.ListN.{length}
use Rattle.io.specs.Counts.{IsPrefixLen}
use Rattle.render.specs.Room.{Renders}
use Rattle.form.specs.Form.{filled_with, most_with}

-- A form with the same text and the same values
pub same_said : (form : List ℕ) {one text vs ws k l : List ℕ} {r : ℕ} → one ≡ text → vs ≡ ws
    → Renders (most_with form (length one) 0) (filled_with form one [] vs) k l r × IsPrefixLen r l
    → Renders (most_with form (length text) 0) (filled_with form text [] ws) k l r × IsPrefixLen r l
same_said form p q f = rw (p, q) at f
