-- The month: each register line's member is scored over the joined book and its own series; what its ramping hours pay is added; the fen of both is
-- its compensation; the lines are shared, each within its limit. Assumes nothing.
use Rattle.std.specs.Prelude.{Bool, false, cond, not, ◌&&◌, ◌||◌, List, [], ◌∷◌, ◌++◌, map, ℕ, suc, ◌-◌, eqb, ltb, pos, length, get_or, take, drop, replicate}
use Rattle.units.specs.declared.Fen.{Fen}
use Rattle.units.specs.declared.Grains.{Grains}
use Rattle.units.specs.Money.{grains_to_fen, grains_plus}
use Rattle.call.specs.declared.Call.{Call}
use Rattle.call.specs.Revising.{withdrawn}
use Rattle.book.specs.Book.{header_at, count_at, calls_of}
use Rattle.book.specs.Check.{check}
use Rattle.score.specs.declared.answer.Earned.{Earned}
use Rattle.score.specs.declared.answer.Earned.TheVariants.{Accepted, Refused}
use Rattle.score.specs.Scoring.{grains_earned}
use Rattle.share.specs.declared.Line.{Line}
use Rattle.share.specs.Sharing.{weight_of, below, most_number, most_part}
use Rattle.ceiling.specs.declared.LimitedLine.{LimitedLine}
use Rattle.ceiling.specs.Ceiling.{plain_lines, CeiledPart, CeilingOutcome, ceiling}
use Rattle.register.specs.declared.Entry.{Entry}
use Rattle.register.specs.Register.{first_bad_entry, limited_for}
use Rattle.month.specs.declared.Fault.{Fault}
use Rattle.month.specs.declared.Fault.TheVariants.{NoFault, InPart, InRegister, InBook, Unlisted, OfMember, OfRamping, InSharing}
use Rattle.month.specs.declared.Ramped.{Ramped}
use Rattle.month.specs.declared.Row.{Row}
use Rattle.month.specs.declared.Statement.{Statement}
use Rattle.month.specs.declared.members.MemberEarned.{MemberEarned}
use Rattle.month.specs.declared.members.MemberEarned.TheVariants.{ScoreAndHours, NotScored, NotRamped}

-- What a month is settled from: the generators' part of the gap, the register's lines, the joined book, the members' series one after another
-- with each one's length, and what each member's ramping file gives
pub record MonthGiven : Type 0 where
  pub part : ℕ
  pub entries : List Entry
  pub count : ℕ
  pub book : List ℕ
  pub series : List ℕ
  pub lengths : List ℕ
  pub ramped : List Ramped

-- Calls of members that the register does not have

-- a member has a line
unfoldable pub is_listed : List Entry → ℕ → Bool
is_listed [] number = false
is_listed (e ∷ es) number = eqb e.member.number number || is_listed es number

-- a live or contested call of a member that has no line
unfoldable pub is_unlisted : List Entry → Call → Bool
is_unlisted es c = not (eqb c.state withdrawn) && not (is_listed es c.participant)

-- the place of the first such call, or the number of calls where there is none
unfoldable pub first_unlisted : List Entry → List Call → ℕ
first_unlisted es [] = 0
first_unlisted es (c ∷ cs) = cond (is_unlisted es c) 0 (suc (first_unlisted es cs))

-- What the members earn

-- no ramping file: no hours, no grains
abbrev pub no_ramping : Ramped
no_ramping = record { number = 0; place = 0; hours = 0; grains = record { 0 = 0 } }

-- a member's turn: a refused score stands; of an accepted one the ramping file's refusal, or the grains of score and hours together
unfoldable pub earned_with : Earned → Ramped → MemberEarned
earned_with (Refused number place) ramped = NotScored number place
earned_with (Accepted g) ramped =
    cond (eqb ramped.number 0)
    (ScoreAndHours (record { 0 = grains_plus g.0 ramped.grains.0 }))
    (NotRamped ramped.number ramped.place)

-- each line's member over the book and its own series, the next so many values, with its own ramping file
unfoldable pub earnings : List Entry → List ℕ → List ℕ → List ℕ → List Ramped → List MemberEarned
earnings [] book series lengths ramped = []
earnings (e ∷ es) book series lengths ramped =
    earned_with (grains_earned e.member book (take (get_or lengths 0 0) series)) (get_or ramped 0 no_ramping)
    ∷ earnings es book (drop (get_or lengths 0 0) series) (drop 1 lengths) (drop 1 ramped)

-- the first line whose member is refused, or the number of lines where none is
unfoldable pub first_refused_member : List MemberEarned → ℕ
first_refused_member [] = 0
first_refused_member (ScoreAndHours g ∷ es) = suc (first_refused_member es)
first_refused_member (NotScored number place ∷ es) = 0
first_refused_member (NotRamped number place ∷ es) = 0

-- its refusal: of the member, or of its ramping file
unfoldable pub member_fault : ℕ → MemberEarned → Fault
member_fault line (ScoreAndHours g) = NoFault
member_fault line (NotScored number place) = OfMember line number place
member_fault line (NotRamped number place) = OfRamping line number place

-- the grains, and the fen of them, once: the compensation
unfoldable pub earned_grains : MemberEarned → Grains
earned_grains (ScoreAndHours g) = g
earned_grains (NotScored number place) = record { 0 = 0 }
earned_grains (NotRamped number place) = record { 0 = 0 }

unfoldable pub compensation_of : MemberEarned → Fen
compensation_of earned = record { 0 = grains_to_fen (earned_grains earned).0 }

abbrev pub compensations : List Grains → List Fen
compensations gs = map (λ g. record { 0 = grains_to_fen g.0 }) gs

-- The statement

-- a member's line: how many ramping hours it has, what it earned, what its amount is made of, and its weight
unfoldable pub row_of : Bool → Line → Grains → ℕ → CeiledPart → Row
row_of is_below l grains hours part =
    record {
      number = l.number;
      hours = hours;
      grains = grains;
      compensation = l.compensation;
      assessment = l.assessment;
      energy = l.energy;
      weight = weight_of is_below l;
      share = record { 0 = part.share };
      uncollected = record { 0 = part.uncollected };
      given = record { 0 = part.given };
      amount = record { 0 = part.amount };
    }

-- a line that gets nothing
abbrev pub no_part : CeiledPart
no_part = record { share = pos 0; amount = pos 0; uncollected = 0; given = 0 }

-- the members' lines, in the register's order
unfoldable pub rows_of : Bool → List Line → List Grains → List Ramped → List CeiledPart → List Row
rows_of is_below [] gs rs ps = []
rows_of is_below (l ∷ ls) gs rs ps =
    row_of is_below l (get_or gs 0 (record { 0 = 0 })) (get_or rs 0 no_ramping).hours (get_or ps 0 no_part)
    ∷ rows_of is_below ls (drop 1 gs) (drop 1 rs) (drop 1 ps)

-- a line of zeros stands behind the members' lines
unfoldable pub blank_row : Row
blank_row =
    record {
      number = 0;
      hours = 0;
      grains = record { 0 = 0 };
      compensation = record { 0 = 0 };
      assessment = record { 0 = 0 };
      energy = record { 0 = 0 };
      weight = 0;
      share = record { 0 = pos 0 };
      uncollected = record { 0 = 0 };
      given = record { 0 = 0 };
      amount = record { 0 = pos 0 };
    }

unfoldable pub filled_rows : List Row → List Row
filled_rows rows = rows ++ replicate (most_number - length rows) blank_row

-- a refusal, otherwise zeros
unfoldable pub month_refused : Fault → Statement
month_refused fault =
    record {
      fault = fault;
      header = record { area = 0; year = 0; month = 0 };
      calls = 0;
      part = 0;
      gap = record { 0 = pos 0 };
      user = record { 0 = pos 0 };
      count = 0;
      rows = filled_rows [];
    }

-- the lines shared, or sharing's refusal: 10 (a compensation above its limit), 15, 16, 17
unfoldable pub shared_month : ℕ → List ℕ → List LimitedLine → List Grains → List Ramped → CeilingOutcome → Statement
shared_month part book ls gs rs o =
    cond (eqb o.number 0)
    (record {
      fault = NoFault;
      header = header_at book;
      calls = count_at book;
      part = part;
      gap = record { 0 = o.gap };
      user = record { 0 = o.user };
      count = length ls;
      rows = filled_rows (rows_of (below (plain_lines ls)) (plain_lines ls) gs rs o.parts);
    })
    (month_refused (InSharing o.number o.place))

-- the lines that are shared, with their limits
unfoldable pub month_lines : List Entry → List MemberEarned → List LimitedLine
month_lines es earned = limited_for es (compensations (map earned_grains earned))

-- the members in turn, then sharing
unfoldable pub earned_month : ℕ → List Entry → List ℕ → List Ramped → List MemberEarned → Statement
earned_month part es book rs earned =
    cond (ltb (first_refused_member earned) (length earned))
    (month_refused (member_fault (first_refused_member earned) (get_or earned (first_refused_member earned) (NotScored 0 0))))
    (shared_month part book (month_lines es earned) (map earned_grains earned) rs (ceiling part (month_lines es earned)))

-- THE MONTH IS SETTLED: the part (10 at 65), the register (10, a 65th line included), the book, a call of a member without a line, the members in turn, sharing
unfoldable pub settling : MonthGiven → Statement
settling g =
    cond (ltb most_part g.part) (month_refused InPart)
    (cond (ltb (first_bad_entry 0 g.entries) g.count) (month_refused (InRegister (first_bad_entry 0 g.entries)))
    (cond (not (eqb (check g.book).number 0)) (month_refused (InBook (check g.book).number (check g.book).place))
    (cond (ltb (first_unlisted g.entries (calls_of g.book)) (count_at g.book)) (month_refused (Unlisted (first_unlisted g.entries (calls_of g.book))))
    (earned_month g.part g.entries g.book g.ramped (earnings g.entries g.book g.series g.lengths g.ramped)))))
