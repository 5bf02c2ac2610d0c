-- The statement read back from the text of a file: a line is taken where it is the very text of some line of a statement. Assumes nothing.
use Rattle.std.specs.Prelude.{◌≡◌, ◌≢◌, List, [], ◌∷◌, ◌++◌, ℕ, ◌+◌, ◌^◌, ◌≤◌, ◌<◌, ℤ, Result, Ok, Err, length, take}
use Rattle.std.specs.Int.{w64}
use Rattle.std.proofs.Common.{SFits}
use Rattle.book.specs.declared.Header.{Header}
use Rattle.month.specs.declared.Fault.TheVariants.{NoFault}
use Rattle.month.specs.declared.Row.{Row}
use Rattle.month.specs.declared.Statement.{Statement}
use Rattle.month.specs.Settling.{filled_rows}
use Rattle.register.specs.Register.{most_entries}
use Rattle.posted.specs.Posted.{head_text, row_text, rows_text, total_text, user_text}

-- Numbers within the bits that the statement has for them

pub record HeadFits (h : Header) (n p : ℕ) : Type 0 where
  pub area : h.area < 2 ^ 8
  pub year : h.year < 2 ^ 16
  pub month : h.month < 2 ^ 8
  pub calls : n < 2 ^ 64
  pub part : p < 2 ^ 32

pub record RowFits (r : Row) : Type 0 where
  pub number : r.number < 2 ^ 16
  pub hours : r.hours < 2 ^ 16
  pub grains : r.grains.0 < 2 ^ 64
  pub compensation : r.compensation.0 < 2 ^ 64
  pub assessment : r.assessment.0 < 2 ^ 32
  pub energy : r.energy.0 < 2 ^ 32
  pub weight : r.weight < 2 ^ 64
  pub share : SFits w64 r.share.0
  pub uncollected : r.uncollected.0 < 2 ^ 64
  pub given : r.given.0 < 2 ^ 64
  pub amount : SFits w64 r.amount.0

pub data RowsFit : List Row → Type 0 where
  none : RowsFit []
  more : {r : Row} {rs : List Row} → RowFits r → RowsFit rs → RowsFit (r ∷ rs)

-- a statement that was settled: a row for each member, zeros behind them, every number within its bits
pub record Settled (s : Statement) : Type 0 where
  pub fault : s.fault ≡ NoFault
  pub few : s.count ≤ most_entries
  pub long : length s.rows ≡ most_entries
  pub filled : s.rows ≡ filled_rows (take s.count s.rows)
  pub head : HeadFits s.header s.calls s.part
  pub fit : RowsFit (take s.count s.rows)
  pub gap : SFits w64 s.gap.0
  pub user : SFits w64 s.user.0

-- A text begins with the first line of a statement, a member's, that of R, the last

pub data BeginsHead (text : List ℕ) : Type 0 where
  head_line : (h : Header) (calls part : ℕ) (rest : List ℕ) → HeadFits h calls part → text ≡ head_text h calls part ++ rest → BeginsHead text

pub data BeginsRow (text : List ℕ) : Type 0 where
  row_line : (r : Row) (rest : List ℕ) → RowFits r → text ≡ row_text r ++ rest → BeginsRow text

pub data BeginsTotal (text : List ℕ) : Type 0 where
  total_line : (gap : ℤ) (rest : List ℕ) → SFits w64 gap → text ≡ total_text gap ++ rest → BeginsTotal text

pub data BeginsUser (text : List ℕ) : Type 0 where
  user_line : (user : ℤ) (rest : List ℕ) → SFits w64 user → text ≡ user_text user ++ rest → BeginsUser text

-- the first line and those of members are taken, 64 at most, and this is left of the text
pub record Taken (text : List ℕ) (h : Header) (calls part : ℕ) (rows : List Row) (rest : List ℕ) : Type 0 where
  pub head : HeadFits h calls part
  pub few : length rows ≤ most_entries
  pub fit : RowsFit rows
  pub is : text ≡ head_text h calls part ++ rows_text rows ++ rest

-- The answer: the statement, or the line, counted from 0, at which the text is refused
abbrev pub Posted : Type 0
Posted = Result Statement ℕ

-- a settled statement of so many members
unfoldable pub statement_with : Header → ℕ → ℕ → List Row → ℤ → ℤ → Statement
statement_with h calls part rows gap user =
    record {
      fault = NoFault;
      header = h;
      calls = calls;
      part = part;
      gap = record { 0 = gap };
      user = record { 0 = user };
      count = length rows;
      rows = filled_rows rows;
    }

unfoldable pub read_whole : Header → ℕ → ℕ → List Row → ℤ → ℤ → Posted
read_whole h calls part rows gap user = Ok (statement_with h calls part rows gap user)

-- refused at a line
abbrev pub bad_line : ℕ → Posted
bad_line line = Err line

-- HOW A TEXT READS: refused at the first line that is not the text of any; at the line behind the last where it ends too early, or behind the
-- user's where it does not end; or whole
pub data ReadPosted (text : List ℕ) (r : Posted) : Type 0 where
  no_head : r ≡ bad_line 0 → ¬ BeginsHead text → ReadPosted text r
  no_line : (h : Header) (calls part : ℕ) (rows : List Row) (rest : List ℕ) → r ≡ bad_line (1 + length rows) → Taken text h calls part rows rest
      → ¬ (BeginsRow rest × (length rows < most_entries)) → ¬ BeginsTotal rest → ReadPosted text r
  no_user_lem : (h : Header) (calls part : ℕ) (rows : List Row) (gap : ℤ) (rest : List ℕ) → r ≡ bad_line (2 + length rows)
      → Taken text h calls part rows (total_text gap ++ rest) → SFits w64 gap → ¬ BeginsUser rest → ReadPosted text r
  no_end : (h : Header) (calls part : ℕ) (rows : List Row) (gap user : ℤ) (rest : List ℕ) → r ≡ bad_line (3 + length rows)
      → Taken text h calls part rows (total_text gap ++ (user_text user ++ rest)) → SFits w64 gap → SFits w64 user → rest ≢ [] → ReadPosted text r
  whole : (h : Header) (calls part : ℕ) (rows : List Row) (gap user : ℤ) → r ≡ read_whole h calls part rows gap user
      → Taken text h calls part rows (total_text gap ++ user_text user) → SFits w64 gap → SFits w64 user → ReadPosted text r
