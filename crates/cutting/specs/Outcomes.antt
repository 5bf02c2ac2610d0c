-- What becomes of a call that is to be cut, as a table: each row has the answer and what it says. Assumes nothing.
use Rattle.std.specs.Prelude.{◌≡◌, ◌⊎◌, ℕ, ◌+◌, ◌%◌, ◌<◌, Ok, Err}
use mathlib.Core.List.{List, Memᴰ as In}
use Rattle.units.specs.Month.{minutes_per_quarter}
use Rattle.call.specs.declared.Call.{Call}
use Rattle.call.specs.Revising.{live, contested, withdrawn}
use Rattle.call.specs.Services.{deep_peak, reserve}
use Rattle.book.specs.Book.{calls_of}
use Rattle.cutting.specs.declared.NotCut.TheVariants.{NoCall, Withdrawn, Contested, NoWindow, Highest, NotInside, InUse}
use Rattle.cutting.specs.Parts.{first_part_of, second_part_of, MayCut}
use Rattle.cutting.specs.Cutting.{Cut, highest}

-- a book has a call of a member under a number
pub record Has (b : List ℕ) (member number : ℕ) (x : Call) : Type 0 where
  pub there : In x (calls_of b)
  pub whose : x.participant ≡ member
  pub under : x.number ≡ number

-- a live window of service 1 or 2
pub record LiveWindow (x : Call) : Type 0 where
  pub live : x.state ≡ live
  pub window : (x.service ≡ deep_peak) ⊎ (x.service ≡ reserve)

-- a minute is a quarter hour strictly inside it
pub record Inside (x : Call) (at : ℕ) : Type 0 where
  pub quarter : at % minutes_per_quarter ≡ 0
  pub behind : x.start < at
  pub before : at < x.start + x.length

pub data CutOutcome (b : List ℕ) (member number at new : ℕ) (r : Cut) : Type 0 where
  no_such_call : r ≡ Err NoCall → ((x : Call) → Has b member number x → ⊥) → CutOutcome b member number at new r
  is_withdrawn_lem : (x : Call) → r ≡ Err (Withdrawn x) → Has b member number x → x.state ≡ withdrawn → CutOutcome b member number at new r
  is_contested_lem : (x : Call) → r ≡ Err (Contested x) → Has b member number x → x.state ≡ contested → CutOutcome b member number at new r
  is_no_window : (x : Call) → r ≡ Err (NoWindow x) → Has b member number x → x.state ≡ live → (LiveWindow x → ⊥) → CutOutcome b member number at new r
  is_at_highest : (x : Call) → r ≡ Err (Highest x) → Has b member number x → LiveWindow x → x.revision ≡ highest → CutOutcome b member number at new r
  is_not_inside : (x : Call) → r ≡ Err (NotInside x) → Has b member number x → LiveWindow x → x.revision < highest → (Inside x at → ⊥) → CutOutcome b member number at new r
  is_in_use : (x y : Call) → r ≡ Err (InUse y) → Has b member number x → LiveWindow x → x.revision < highest → Inside x at → Has b member new y → CutOutcome b member number at new r
  is_cut : (x : Call) → r ≡ Ok (first_part_of x at, second_part_of x at new) → Has b member number x → MayCut b x at new → CutOutcome b member number at new r
