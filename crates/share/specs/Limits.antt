-- Lines within the paper's limits, for inner contracts. Assumes nothing.
use Rattle.std.specs.Prelude.{List, ℕ, ◌≤◌, ◌<◌, length, get_or, take}
use Rattle.share.specs.declared.Line.{Line}
use Rattle.share.specs.Sharing.{most_number, most_energy, most_compensation, most_assessment}

-- what a sound line keeps to, as far as sums need it
pub record LineWithin (l : Line) : Type 0 where
  pub energy : l.energy.0 ≤ most_energy
  pub compensation : l.compensation.0 ≤ most_compensation
  pub assessment : l.assessment.0 ≤ most_assessment

-- every line of a list does
abbrev pub LinesWithin : List Line → Type 0
LinesWithin ls = (i : ℕ) (d : Line) → i < length ls → LineWithin (get_or ls i d)

-- the first `count` of 64 lines do
abbrev pub CountedWithin : List Line → ℕ → Type 0
CountedWithin lines count = (count ≤ most_number) × LinesWithin (take count lines)
