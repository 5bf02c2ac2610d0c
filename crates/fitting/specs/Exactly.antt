-- A statement that sharing with some limits gives. Assumes nothing.
use Rattle.std.specs.Prelude.{◌≡◌, List, [], ◌∷◌, map, ◌≤◌, take}
use Rattle.units.specs.declared.Grains.{Grains}
use Rattle.units.specs.Money.{grains_to_fen}
use Rattle.share.specs.Sharing.{below}
use Rattle.ceiling.specs.declared.LimitedLine.{LimitedLine}
use Rattle.ceiling.specs.Ceiling.{plain_lines, ceiling}
use Rattle.register.specs.Register.{most_entries}
use Rattle.month.specs.declared.Ramped.{Ramped}
use Rattle.month.specs.declared.Row.{Row}
use Rattle.month.specs.declared.Statement.{Statement}
use Rattle.month.specs.Settling.{rows_of}

-- the grains of rows, and their hours as ramping files have them
abbrev pub grains_of : List Row → List Grains
grains_of rows = map (λ r. r.grains) rows

abbrev pub hours_of : List Row → List Ramped
hours_of rows = map (λ r. record { number = 0; place = 0; hours = r.hours; grains = record { 0 = 0 } }) rows

-- each compensation is the fen of the grains
abbrev pub FenOfGrains : List Row → Type 0
FenOfGrains [] = Unit {0}
FenOfGrains (r ∷ rs) = (r.compensation.0 ≡ grains_to_fen r.grains.0) × FenOfGrains rs

-- its rows, R and the user's amount are those that sharing of such lines gives, whose limits are some
pub record SharedFrom (s : Statement) (ls : List LimitedLine) : Type 0 where
  pub few : s.count ≤ most_entries
  pub fen : FenOfGrains (take s.count s.rows)
  pub accepted : (ceiling s.part ls).number ≡ 0
  pub gap : s.gap.0 ≡ (ceiling s.part ls).gap
  pub user : s.user.0 ≡ (ceiling s.part ls).user
  pub rows : take s.count s.rows
      ≡ rows_of (below (plain_lines ls)) (plain_lines ls) (grains_of (take s.count s.rows)) (hours_of (take s.count s.rows)) (ceiling s.part ls).parts
