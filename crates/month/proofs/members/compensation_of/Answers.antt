use mathlib.Core.Path.{refl, ap}
use Prim.Native.Nat.{ℕ}
use Rattle.units.specs.Money.{grains_to_fen}
use Rattle.month.specs.Settling.{earned_grains, compensation_of}
use Rattle.month.proofs.members.compensation_of.Goals as goal

pub returns-in-ScoreAndHours : goal.returns-in-ScoreAndHours
unfolding compensation_of earned_grains
returns-in-ScoreAndHours c = rw c.in-ScoreAndHours.is (ap (λ (n : ℕ). record { 0 = n }) c.to_fen.ensures)

pub returns-in-NotScored : goal.returns-in-NotScored
unfolding compensation_of earned_grains grains_to_fen
returns-in-NotScored c = rw c.in-NotScored.is refl

pub returns-in-NotRamped : goal.returns-in-NotRamped
unfolding compensation_of earned_grains grains_to_fen
returns-in-NotRamped c = rw c.in-NotRamped.is refl
