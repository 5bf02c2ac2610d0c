-- Whether the numbers of a statement are a month's. Taken as they stand are the part and of each member the number, the hours, the grains, the assessment, the energy and what is not
-- collected of it; a weight stands for a status. Every other number follows from these. Assumes nothing.
use Rattle.std.specs.Prelude.{Bool, true, false, cond, List, [], ◌∷◌, map, ℕ, suc, ◌+◌, ◌*◌, ◌-◌, eqb, ltb, ℤ, pos, negsuc, Result, Ok, Err, take}
use Rattle.std.specs.Int.Signed.{lt_z}
use Rattle.units.specs.Money.{grains_to_fen}
use Rattle.share.specs.declared.Line.{Line}
use Rattle.share.specs.Sharing.{factor_of, Part, SharingOutcome, sharing}
use Rattle.ceiling.specs.declared.Limit.{Limit}
use Rattle.ceiling.specs.declared.LimitedLine.{LimitedLine}
use Rattle.ceiling.specs.Ceiling.{paid, CeiledPart, CeilingOutcome, ceiling}
use Rattle.register.specs.Register.{most_entries}
use Rattle.month.specs.declared.Row.{Row}
use Rattle.month.specs.declared.Statement.{Statement}
use Rattle.fitting.specs.declared.Finding.{Finding}
use Rattle.fitting.specs.declared.Finding.TheVariants.{NotShared, Compensation, Weight, Share, Uncollected, Given, Amount, Total, User}

-- Findings

-- a statement fits, or a finding says what does not
abbrev pub Judged : Type 0
Judged = Result (Unit {0}) Finding

abbrev pub Fits : Judged
Fits = Ok tt

unfoldable pub is_fits : Judged → Bool
is_fits (Ok u) = true
is_fits (Err f) = false

-- the first of two that does not fit
unfoldable pub or_else : Judged → Judged → Judged
or_else f g = cond (is_fits f) g f

-- two amounts are the same
unfoldable pub same_fen : ℤ → ℤ → Bool
same_fen (pos a) (pos b) = eqb a b
same_fen (pos a) (negsuc b) = false
same_fen (negsuc a) (pos b) = false
same_fen (negsuc a) (negsuc b) = eqb a b

-- A row by itself

-- the weight of an energy by a status
abbrev pub weight_by : Bool → ℕ → ℕ → ℕ
weight_by is_below status energy = energy * factor_of is_below status

-- the status that a weight fits, the first of the three; 0 where it fits none
unfoldable pub status_for : Bool → ℕ → ℕ → ℕ
status_for is_below energy weight =
    cond (eqb weight (weight_by is_below 0 energy)) 0 (cond (eqb weight (weight_by is_below 1 energy)) 1 (cond (eqb weight (weight_by is_below 2 energy)) 2 0))

-- the weight that follows: the one that stands where it fits a status, else that of status 0
abbrev pub weight_for : Bool → ℕ → ℕ → ℕ
weight_for is_below energy weight = weight_by is_below (status_for is_below energy weight) energy

-- compensation is the fen of the grains, and the weight fits the energy and a status
unfoldable pub own_apart : Bool → ℕ → Row → Judged
own_apart is_below line r =
    cond (eqb r.compensation.0 (grains_to_fen r.grains.0))
    (cond (eqb r.weight (weight_for is_below r.energy.0 r.weight)) Fits (Err (Weight line r.weight (weight_for is_below r.energy.0 r.weight))))
    (Err (Compensation line r.compensation (record { 0 = grains_to_fen r.grains.0 })))

-- the first row that does not fit by itself, from a line on
unfoldable pub first_own : Bool → ℕ → List Row → Judged
first_own is_below line [] = Fits
first_own is_below line (r ∷ rs) = or_else (own_apart is_below line r) (first_own is_below (suc line) rs)

-- The lines that were shared

-- a row's line
unfoldable pub own_line : Bool → Row → Line
own_line is_below r =
    record {
      number = r.number;
      status = status_for is_below r.energy.0 r.weight;
      energy = r.energy;
      compensation = r.compensation;
      assessment = r.assessment;
      share = record { 0 = pos 0 };
      amount = record { 0 = pos 0 };
    }

abbrev pub own_lines : Bool → List Row → List Line
own_lines is_below rows = map (own_line is_below) rows

-- the limit beyond which so much of an amount is not collected; none where all of it is
unfoldable pub limit_for : ℤ → ℕ → Limit
limit_for amount uncollected = record { none = eqb uncollected 0; fen = record { 0 = paid amount - uncollected } }

-- a row's line with its limit, from its part of the first sharing
unfoldable pub own_limited : Bool → Row → Part → LimitedLine
own_limited is_below r p =
    record { line = own_line is_below r; limit = limit_for p.amount r.uncollected.0; uncollected = record { 0 = 0 }; given = record { 0 = 0 } }

unfoldable pub own_limits : Bool → List Row → List Part → List LimitedLine
own_limits is_below [] ps = []
own_limits is_below (r ∷ rs) [] = []
own_limits is_below (r ∷ rs) (p ∷ ps) = own_limited is_below r p ∷ own_limits is_below rs ps

-- Rows against what sharing gives

-- share, what is not collected, what is given up, amount
unfoldable pub part_apart : ℕ → Row → CeiledPart → Judged
part_apart line r p =
    cond (same_fen r.share.0 p.share)
    (cond (eqb r.uncollected.0 p.uncollected)
    (cond (eqb r.given.0 p.given)
    (cond (same_fen r.amount.0 p.amount) Fits (Err (Amount line r.amount (record { 0 = p.amount }))))
    (Err (Given line r.given (record { 0 = p.given }))))
    (Err (Uncollected line r.uncollected (record { 0 = p.uncollected }))))
    (Err (Share line r.share (record { 0 = p.share })))

-- the first row that is not its part, from a line on
unfoldable pub first_part_of : ℕ → List Row → List CeiledPart → Judged
first_part_of line [] ps = Fits
first_part_of line (r ∷ rs) [] = Fits
first_part_of line (r ∷ rs) (p ∷ ps) = or_else (part_apart line r p) (first_part_of (suc line) rs ps)

-- R, on the line behind the members', and the user's amount, on the last
unfoldable pub total_apart : Statement → ℤ → Judged
total_apart s gap = cond (same_fen s.gap.0 gap) Fits (Err (Total (1 + s.count) s.gap (record { 0 = gap })))

unfoldable pub user_apart : Statement → ℤ → Judged
user_apart s user = cond (same_fen s.user.0 user) Fits (Err (User (2 + s.count) s.user (record { 0 = user })))

-- The statement

-- against what sharing within the limits gives of its own lines: R, the rows in turn, the user's amount
unfoldable pub by_ceiling : Statement → CeilingOutcome → Judged
by_ceiling s o =
    cond (eqb o.number 0)
    (or_else (total_apart s o.gap) (or_else (first_part_of 1 (take s.count s.rows) o.parts) (user_apart s o.user)))
    (Err (NotShared o.number o.place))

-- against the first sharing, from which the limits follow
unfoldable pub by_sharing : Bool → Statement → SharingOutcome → Judged
by_sharing is_below s o =
    cond (eqb o.number 0) (by_ceiling s (ceiling s.part (own_limits is_below (take s.count s.rows) o.parts))) (Err (NotShared o.number o.place))

-- R is below zero, as it stands
abbrev pub is_below : Statement → Bool
is_below s = lt_z s.gap.0 (pos 0)

-- WHAT DOES NOT FIT: more members than 64, which sharing refuses; a row by itself; then what sharing gives of the rows' own lines
unfoldable pub finding_in : Statement → Judged
finding_in s =
    cond (ltb most_entries s.count) (Err (NotShared 10 most_entries))
    (or_else (first_own (is_below s) 1 (take s.count s.rows)) (by_sharing (is_below s) s (sharing s.part (own_lines (is_below s) (take s.count s.rows)))))
