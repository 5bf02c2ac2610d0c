-- What inner contracts say of the front of a text. Assumes nothing.
use Rattle.std.specs.Prelude.{◌≡◌, Bool, false, cond, List, [], ◌∷◌, ◌++◌, ℕ, ◌+◌, ◌*◌, ◌-◌, ◌^◌, ◌≤◌, ◌<◌, eqb, ℤ, length, take, drop, replicate}
use Rattle.std.specs.Int.{w64}
use Rattle.std.proofs.Common.{SFits}
use Rattle.row.specs.Numbers.{is_digit}
use Rattle.render.specs.Decimal.{word, field, decimal, signed_decimal}
use Rattle.render.specs.Room.{most_decimal}
use Rattle.book.specs.declared.Header.{Header}
use Rattle.month.specs.declared.Row.{Row}
use Rattle.month.specs.Settling.{blank_row}
use Rattle.register.specs.Register.{most_entries}
use Rattle.posted.specs.declared.line.Heads.{Heads}
use Rattle.posted.specs.declared.line.Earned.{Earned}
use Rattle.posted.specs.declared.line.Carried.{Carried}
use Rattle.posted.specs.declared.line.Got.{Got}
use Rattle.posted.specs.Posted.{head_text, earned_text, carried_text, got_text, row_text, rows_text}
use Rattle.posted.specs.Reading.{HeadFits, RowFits, RowsFit, BeginsRow}

-- parts of lines, and the most bytes of them

abbrev pub date_text : Header → List ℕ
date_text h = field "area " h.area ++ field " year " h.year ++ field " month " h.month

abbrev pub most_date : ℕ
most_date = 18 + 3 * most_decimal

abbrev pub who_text : Row → List ℕ
who_text r = field "member " r.number ++ field " hours " r.hours

abbrev pub most_who : ℕ
most_who = 14 + 2 * most_decimal

abbrev pub load_text : Row → List ℕ
load_text r = field " energy " r.energy.0 ++ field " weight " r.weight

abbrev pub most_load : ℕ
most_load = 16 + 2 * most_decimal

-- a line of one signed number behind a name: R, the user's amount
abbrev pub sum_text : List ℕ → ℤ → List ℕ
sum_text name n = name ++ signed_decimal n ++ word "\n"

-- what the digits at the front of a text are worth, behind digits that are worth v
unfoldable pub worth : ℕ → List ℕ → ℕ
worth v [] = v
worth v (b ∷ bs) = cond (is_digit b) (worth (v * 10 + (b - 48)) bs) v

-- what is behind them
unfoldable pub behind_digits : List ℕ → List ℕ
behind_digits [] = []
behind_digits (b ∷ bs) = cond (is_digit b) (behind_digits bs) (b ∷ bs)

-- a text begins with a digit
unfoldable pub starts_digit : List ℕ → Bool
starts_digit [] = false
starts_digit (b ∷ bs) = is_digit b

-- a text begins with `-`
unfoldable pub starts_minus : List ℕ → Bool
starts_minus [] = false
starts_minus (b ∷ bs) = eqb b 45

-- the number at the front of a text, and what is behind it
pub record NumberIs (text : List ℕ) (value : ℕ) (behind : List ℕ) : Type 0 where
  pub rest : behind ≡ behind_digits text
  pub is : worth 0 text < 2 ^ 64 → value ≡ worth 0 text

-- where a name of so many bytes and a number stand at the front of a text, with no digit behind them: the number, and what is behind it
pub record FieldIs (size : ℕ) (text : List ℕ) (value : ℕ) (behind : List ℕ) : Type 0 where
  pub reads : (name : List ℕ) (n : ℕ) (rest : List ℕ) → length name ≡ size → n < 2 ^ 64 → starts_digit rest ≡ false → text ≡ name ++ decimal n ++ rest
      → (value ≡ n) × (behind ≡ rest)

pub record SignedIs (text : List ℕ) (value : ℤ) (behind : List ℕ) : Type 0 where
  pub reads : (z : ℤ) (rest : List ℕ) → SFits w64 z → starts_digit rest ≡ false → text ≡ signed_decimal z ++ rest → (value ≡ z) × (behind ≡ rest)

pub record SignedFieldIs (size : ℕ) (text : List ℕ) (value : ℤ) (behind : List ℕ) : Type 0 where
  pub reads : (name : List ℕ) (z : ℤ) (rest : List ℕ) → length name ≡ size → SFits w64 z → starts_digit rest ≡ false → text ≡ name ++ signed_decimal z ++ rest
      → (value ≡ z) × (behind ≡ rest)

-- the numbers of a part of a line are those of a row
pub record EarnedSame (e : Earned) (r : Row) : Type 0 where
  pub number : e.number ≡ r.number
  pub hours : e.hours ≡ r.hours
  pub grains : e.grains ≡ r.grains.0
  pub compensation : e.compensation ≡ r.compensation.0
  pub assessment : e.assessment ≡ r.assessment.0

pub record CarriedSame (c : Carried) (r : Row) : Type 0 where
  pub energy : c.energy ≡ r.energy.0
  pub weight : c.weight ≡ r.weight
  pub share : c.share ≡ r.share.0

pub record GotSame (g : Got) (r : Row) : Type 0 where
  pub uncollected : g.uncollected ≡ r.uncollected.0
  pub given : g.given ≡ r.given.0
  pub amount : g.amount ≡ r.amount.0

-- where the first part of a member's line stands at the front of a text: its numbers, and what is behind it
pub record EarnedIs (text : List ℕ) (e : Earned) (behind : List ℕ) : Type 0 where
  pub reads : (r : Row) (rest : List ℕ) → RowFits r → starts_digit rest ≡ false → text ≡ earned_text r ++ rest → EarnedSame e r × (behind ≡ rest)

-- the same of the second, and of the third, which ends the line
pub record CarriedIs (text : List ℕ) (c : Carried) (behind : List ℕ) : Type 0 where
  pub reads : (r : Row) (rest : List ℕ) → RowFits r → starts_digit rest ≡ false → text ≡ carried_text r ++ rest → CarriedSame c r × (behind ≡ rest)

pub record GotIs (text : List ℕ) (g : Got) : Type 0 where
  pub reads : (r : Row) (rest : List ℕ) → RowFits r → text ≡ got_text r ++ rest → GotSame g r

-- where a first line, a member's or that of one number stands at the front of a text: what it says
pub record HeadIs (text : List ℕ) (h : Heads) : Type 0 where
  pub fits : HeadFits h.header h.calls h.part
  pub reads : (g : Header) (n part : ℕ) (rest : List ℕ) → HeadFits g n part → text ≡ head_text g n part ++ rest
      → (h.header ≡ g) × (h.calls ≡ n) × (h.part ≡ part)

pub record RowIs (text : List ℕ) (row : Row) : Type 0 where
  pub fits : RowFits row
  pub reads : (r : Row) (rest : List ℕ) → RowFits r → text ≡ row_text r ++ rest → row ≡ r

pub record SumIs (size : ℕ) (text : List ℕ) (amount : ℤ) : Type 0 where
  pub reads : (name : List ℕ) (z : ℤ) (rest : List ℕ) → length name ≡ size → SFits w64 z → text ≡ sum_text name z ++ rest → amount ≡ z

-- such a line stands there, and this is behind it
pub record HeadAt (text : List ℕ) (h : Heads) (behind : List ℕ) : Type 0 where
  pub fits : HeadFits h.header h.calls h.part
  pub is : text ≡ head_text h.header h.calls h.part ++ behind

pub record RowAt (text : List ℕ) (row : Row) (behind : List ℕ) : Type 0 where
  pub fits : RowFits row
  pub is : text ≡ row_text row ++ behind

pub record SumAt (name text : List ℕ) (amount : ℤ) (behind : List ℕ) : Type 0 where
  pub fits : SFits w64 amount
  pub is : text ≡ sum_text name amount ++ behind

-- no line of that name stands there
abbrev pub NoSum : List ℕ → List ℕ → Type 0
NoSum name text = (z : ℤ) (rest : List ℕ) → SFits w64 z → text ≡ sum_text name z ++ rest → ⊥

-- the members' lines at the front of a text, so many, and what is behind them
pub record RowsAt (text : List ℕ) (rows : List Row) (count : ℕ) (behind : List ℕ) : Type 0 where
  pub few : count ≤ most_entries
  pub long : length rows ≡ most_entries
  pub blank : drop count rows ≡ replicate (most_entries - count) blank_row
  pub fit : RowsFit (take count rows)
  pub is : text ≡ rows_text (take count rows) ++ behind
  pub ends : ¬ (BeginsRow behind × (count < most_entries))
