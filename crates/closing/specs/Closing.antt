-- When a drawer's month would be settled, by what the closing-day list tells. Assumes nothing.
use Rattle.std.specs.Prelude.{◌≡◌, ℕ, ◌<◌, Bool, true, false, length, slice_index_or}
use Rattle.book.specs.Book.{count_at}
use Rattle.book.specs.Check.{accepted, check}
use Rattle.register.specs.Register.{blank_entry}
use Rattle.drawer.specs.Refused.{NoneListed}
use Rattle.month.specs.declared.Fault.{Fault}
use Rattle.month.specs.declared.Fault.TheVariants.{NoFault, InPart, InRegister, InBook, Unlisted, OfMember, OfRamping, InSharing}
use Rattle.month.specs.Settling.{MonthGiven}
use Rattle.month.specs.Outcomes.{own_series, ramped_of_line, shared_in, RegisterWithin, Listed}

-- settling finds no fault
unfoldable pub is_settled : Fault → Bool
is_settled NoFault = true
is_settled InPart = false
is_settled (InRegister line) = false
is_settled (InBook number place) = false
is_settled (Unlisted call) = false
is_settled (OfMember line number place) = false
is_settled (OfRamping line number place) = false
is_settled (InSharing number place) = false

-- nothing is listed that is in the month's way: of the part and the register; of the joined book; no call of a member without a line; of no line's
-- member one of 11 to 14; no ramping file; nothing of sharing
pub record NothingHinders (g : MonthGiven) : Type 0 where
  pub register : RegisterWithin g
  pub book : check g.book ≡ accepted
  pub lines : Listed g (count_at g.book)
  pub members : (i : ℕ) → i < length g.entries → NoneListed (slice_index_or g.entries i blank_entry).member g.book (own_series g.series g.lengths i)
  pub ramping : (i : ℕ) → i < length g.entries → (ramped_of_line g i).number ≡ 0
  pub sharing : (shared_in g).number ≡ 0
