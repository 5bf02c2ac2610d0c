-- What a ramping file gives to the month never brings its grains to the top of 64 bits. Assumes nothing.
use mathlib.Core.Path.{◌≡◌, refl}
use mathlib.Core.List.{List}
use Prim.Native.Nat.{ℕ, ◌+◌, ◌≤◌, ◌<◌}
use native.Mathlib.Omega.{arith}
use lib.ListN.{length}
use Rattle.pay.specs.declared.Member.{Member}
use Rattle.score.proofs.Most.{most_ramping}
use Rattle.month.specs.declared.Fault.TheVariants.{NoFault as Settled}
use Rattle.month.specs.Settling.{MonthGiven, settling}
use Rattle.month.specs.Outcomes.{score_of_line, ramped_of_line}
use Rattle.month.proofs.Promises.{row_of_line, never_held}
use Rattle.hours.specs.declared.Hours.{Hours}
use Rattle.hours.specs.declared.HoursFault.{HoursFault}
use Rattle.std.specs.Prelude.{Option, Some, None}
use Rattle.hours.specs.declared.HoursFault.TheVariants.{OfMember, AtLine}
use Rattle.hours.specs.Hours.{read_hours}
use Rattle.hours.proofs.Promises.{sum_most}
use Rattle.hours_file.specs.Given.{ramped_of}

-- a file's grains, or none where it is refused, are at most those of 744 hours
pub given_most : (m : Member) (hours : ℕ) (text : List ℕ) → (ramped_of (read_hours m hours text)).grains.0 ≤ most_ramping
unfolding ramped_of
given_most m hours text = go (read_hours m hours text) (read_hours m hours text).fault refl (sum_most m hours text)
  where
    go : (h : Hours) (f : Option HoursFault) → h.fault ≡ f → h.sum.0 ≤ most_ramping → (ramped_of h).grains.0 ≤ most_ramping
    go h None e l = rw e l
    go h (Some (OfMember number)) e l = rw e (omega arith)
    go h (Some (AtLine line)) e l = rw e (omega arith)

-- SCORE AND HOURS ARE ADDED, NOTHING HELD: of a month that is settled, a line whose member's ramping file was read has the grains of both.
pub file_never_held : (g : MonthGiven) → (settling g).fault ≡ Settled → (i : ℕ) → i < length g.entries → (m : Member) (hours : ℕ) (text : List ℕ)
    → ramped_of_line g i ≡ ramped_of (read_hours m hours text) → (row_of_line g i).grains.0 ≡ (score_of_line g i).grains.0 + (ramped_of_line g i).grains.0
file_never_held g none i h m hours text e = never_held g none i h (rw e (given_most m hours text))
