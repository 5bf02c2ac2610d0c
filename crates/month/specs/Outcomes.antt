-- What settling a month answers exactly when: a row for each fault and one for a statement, with its condition and those before it not met. Assumes nothing.
use Rattle.std.specs.Prelude.{◌≡◌, true, List, [], ◌∷◌, map, ℕ, zero, suc, ◌≤◌, ◌<◌, length, get_or, take, drop}
use Rattle.units.specs.declared.Grains.{Grains}
use Rattle.call.specs.Revising.{withdrawn}
use Rattle.book.specs.Book.{header_at, count_at, record_at}
use Rattle.book.specs.Check.{accepted, check}
use Rattle.score.specs.declared.answer.Score.{Score}
use Rattle.score.specs.Scoring.{scoring}
use Rattle.pay.specs.Member.{MemberWithin}
use Rattle.apportion.specs.Apportion.{total}
use Rattle.share.specs.declared.Line.{Line}
use Rattle.share.specs.Sharing.{below, most_part}
use Rattle.share.specs.Verdict.{SoundLine}
use Rattle.ceiling.specs.declared.LimitedLine.{LimitedLine}
use Rattle.ceiling.specs.Ceiling.{plain_lines, CeilingOutcome, ceiling}
use Rattle.ceiling.specs.Verdict.{SoundLimit}
use Rattle.register.specs.declared.Entry.{Entry}
use Rattle.register.specs.Register.{blank_entry, entry_line}
use Rattle.month.specs.declared.Fault.TheVariants.{NoFault, InPart, InRegister, InBook, Unlisted, OfMember, OfRamping, InSharing}
use Rattle.month.specs.declared.Ramped.{Ramped}
use Rattle.month.specs.declared.Statement.{Statement}
use Rattle.month.specs.declared.members.MemberEarned.{MemberEarned}
use Rattle.month.specs.Settling.{MonthGiven, no_ramping, earnings, earned_grains, rows_of, filled_rows, month_refused, month_lines}

-- The parts of a month

-- line i's part of the series lies behind those of the lines before it
abbrev pub own_series : List ℕ → List ℕ → ℕ → List ℕ
own_series series lengths i = take (get_or lengths i 0) (drop (total (take i lengths)) series)

-- line i's member over the book and its own part of the series
abbrev pub score_of_line : MonthGiven → ℕ → Score
score_of_line g i = scoring (get_or g.entries i blank_entry).member g.book (own_series g.series g.lengths i)

-- line i's ramping file
abbrev pub ramped_of_line : MonthGiven → ℕ → Ramped
ramped_of_line g i = get_or g.ramped i no_ramping

-- what the members earn, and the lines that are shared, with their limits and without
abbrev pub earned_in : MonthGiven → List MemberEarned
earned_in g = earnings g.entries g.book g.series g.lengths g.ramped

abbrev pub limited_in : MonthGiven → List LimitedLine
limited_in g = month_lines g.entries (earned_in g)

abbrev pub lines_in : MonthGiven → List Line
lines_in g = plain_lines (limited_in g)

abbrev pub grains_in : MonthGiven → List Grains
grains_in g = map earned_grains (earned_in g)

abbrev pub shared_in : MonthGiven → CeilingOutcome
shared_in g = ceiling g.part (limited_in g)

-- the statement of a month that is settled
abbrev pub statement_of : MonthGiven → Statement
statement_of g =
    record {
      fault = NoFault;
      header = header_at g.book;
      calls = count_at g.book;
      part = g.part;
      gap = record { 0 = (shared_in g).gap };
      user = record { 0 = (shared_in g).user };
      count = length (limited_in g);
      rows = filled_rows (rows_of (below (lines_in g)) (lines_in g) (grains_in g) g.ramped (shared_in g).parts);
    }

-- Conditions

-- an entry within the limits after the number `before`: as a register line, as a sharing line, and by its own limit
pub record EntryWithin (before : ℕ) (e : Entry) : Type 0 where
  pub member : MemberWithin e.member
  pub line : SoundLine before (entry_line e (record { 0 = 0 }))
  pub limit : SoundLimit e.limit

-- every entry is, the numbers rising
abbrev pub AllWithin : ℕ → List Entry → Type 0
AllWithin before [] = Unit {0}
AllWithin before (e ∷ es) = EntryWithin before e × AllWithin e.member.number es

-- the entry at a place is not, and those before it are
abbrev pub FirstBadAt : ℕ → List Entry → ℕ → Type 0
FirstBadAt before [] p = ⊥
FirstBadAt before (e ∷ es) zero = EntryWithin before e → ⊥
FirstBadAt before (e ∷ es) (suc p) = EntryWithin before e × FirstBadAt e.member.number es p

-- no entry has a limit
abbrev pub NoneLimited : MonthGiven → Type 0
NoneLimited g = (i : ℕ) → i < length g.entries → (get_or g.entries i blank_entry).limit.none ≡ true

-- the part is within its limit; the register has all its lines, and they are within theirs
pub record RegisterWithin (g : MonthGiven) : Type 0 where
  pub part : g.part ≤ most_part
  pub count : length g.entries ≡ g.count
  pub entries : AllWithin 0 g.entries

-- register and book are good
pub record RegisterAndBook (g : MonthGiven) : Type 0 where
  pub register : RegisterWithin g
  pub book : check g.book ≡ accepted

-- record i is a live or contested call of a member that has no line
pub record Without (g : MonthGiven) (i : ℕ) : Type 0 where
  pub stands : (record_at g.book i).state ≡ withdrawn → ⊥
  pub no_line : (k : ℕ) → k < length g.entries → (get_or g.entries k blank_entry).member.number ≡ (record_at g.book i).participant → ⊥

-- none of the records before record i is
abbrev pub Listed : MonthGiven → ℕ → Type 0
Listed g i = (k : ℕ) → k < i → Without g k → ⊥

-- register, book and calls are good
pub record AllListed (g : MonthGiven) : Type 0 where
  pub front : RegisterAndBook g
  pub listed : Listed g (count_at g.book)

-- the members of the lines before line i have a score, and their ramping files are good
abbrev pub Scored : MonthGiven → ℕ → Type 0
Scored g i = (k : ℕ) → k < i → ((score_of_line g k).number ≡ 0) × ((ramped_of_line g k).number ≡ 0)

-- register, book, calls and members are good
pub record AllScored (g : MonthGiven) : Type 0 where
  pub front : AllListed g
  pub scored : Scored g (length g.entries)

-- the answer s of settling, a row each
pub data MonthOutcome (g : MonthGiven) (s : Statement) : Type 0 where
  bad_part : s ≡ month_refused InPart → most_part < g.part → MonthOutcome g s
  bad_entry : (p : ℕ) → s ≡ month_refused (InRegister p) → g.part ≤ most_part → FirstBadAt 0 g.entries p → MonthOutcome g s
  one_more : s ≡ month_refused (InRegister (length g.entries)) → g.part ≤ most_part → AllWithin 0 g.entries → length g.entries < g.count → MonthOutcome g s
  bad_book : s ≡ month_refused (InBook (check g.book).number (check g.book).place) → RegisterWithin g → (check g.book ≡ accepted → ⊥)
      → MonthOutcome g s
  without_line : (i : ℕ) → s ≡ month_refused (Unlisted i) → RegisterAndBook g → i < count_at g.book → Listed g i → Without g i → MonthOutcome g s
  bad_member : (i : ℕ) → s ≡ month_refused (OfMember i (score_of_line g i).number (score_of_line g i).place) → AllListed g → i < length g.entries
      → Scored g i → ((score_of_line g i).number ≡ 0 → ⊥) → MonthOutcome g s
  bad_ramping : (i : ℕ) → s ≡ month_refused (OfRamping i (ramped_of_line g i).number (ramped_of_line g i).place) → AllListed g → i < length g.entries
      → Scored g i → (score_of_line g i).number ≡ 0 → ((ramped_of_line g i).number ≡ 0 → ⊥) → MonthOutcome g s
  not_shared : s ≡ month_refused (InSharing (shared_in g).number (shared_in g).place) → AllScored g → ((shared_in g).number ≡ 0 → ⊥) → MonthOutcome g s
  settled : s ≡ statement_of g → AllScored g → (shared_in g).number ≡ 0 → MonthOutcome g s
