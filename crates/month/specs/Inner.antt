-- What inner contracts speak of, and no sentence of the paper. Assumes nothing.
use Rattle.std.specs.Prelude.{◌≡◌, Bool, List, [], ◌∷◌, map, ℕ, ◌<◌, Result, Ok, Err, length, get_or, take, drop}
use Rattle.units.specs.declared.Grains.{Grains}
use Rattle.ceiling.specs.declared.LimitedLine.{LimitedLine}
use Rattle.ceiling.specs.Ceiling.{CeiledPart}
use Rattle.month.specs.declared.Fault.{Fault}
use Rattle.month.specs.declared.Ramped.{Ramped}
use Rattle.month.specs.declared.Row.{Row}
use Rattle.month.specs.declared.members.MemberEarned.{MemberEarned}
use Rattle.month.specs.declared.members.MemberEarned.TheVariants.{NotScored}
use Rattle.month.specs.Settling.{first_refused_member, member_fault, earned_grains, no_ramping, row_of}

-- the members' grains as a loop finds them: the first refusal, or the grains of each
abbrev pub MembersEarned : List MemberEarned → ℕ → Result (List Grains) Fault → Type 0
MembersEarned earned count (Ok grains) = (first_refused_member earned ≡ length earned) × (take count grains ≡ map earned_grains earned)
MembersEarned earned count (Err fault) =
    (first_refused_member earned < length earned) × (fault ≡ member_fault (first_refused_member earned) (get_or earned (first_refused_member earned) (NotScored 0 0)))

-- what a line got that is filled in
abbrev pub got_in : LimitedLine → CeiledPart
got_in l = record { share = l.line.share.0; amount = l.line.amount.0; uncollected = l.uncollected.0; given = l.given.0 }

-- the row of such a line
unfoldable pub row_in : Bool → LimitedLine → Grains → ℕ → Row
row_in is_below l grains hours = row_of is_below l.line grains hours (got_in l)

-- the rows of such lines
unfoldable pub rows_in : Bool → List LimitedLine → List Grains → List Ramped → List Row
rows_in is_below [] gs rs = []
rows_in is_below (l ∷ ls) gs rs = row_in is_below l (get_or gs 0 (record { 0 = 0 })) (get_or rs 0 no_ramping).hours ∷ rows_in is_below ls (drop 1 gs) (drop 1 rs)
