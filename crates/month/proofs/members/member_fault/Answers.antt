use mathlib.Core.Path.{refl}
use Rattle.month.specs.Settling.{member_fault}
use Rattle.month.proofs.members.member_fault.Goals as goal

pub returns-in-ScoreAndHours : goal.returns-in-ScoreAndHours
unfolding member_fault
returns-in-ScoreAndHours c = rw c.in-ScoreAndHours.is refl

pub returns-in-NotScored : goal.returns-in-NotScored
unfolding member_fault
returns-in-NotScored c = rw c.in-NotScored.is refl

pub returns-in-NotRamped : goal.returns-in-NotRamped
unfolding member_fault
returns-in-NotRamped c = rw c.in-NotRamped.is refl
