-- What becomes of a call that is to be cut: the two parts, or the first thing that stands in the way. Assumes nothing.
use Rattle.std.specs.Prelude.{Bool, cond, not, ◌&&◌, ◌||◌, List, ℕ, ◌+◌, ◌%◌, ltb, leb, eqb, Option, Some, None, Result, Ok, Err}
use Rattle.units.specs.Month.{minutes_per_quarter}
use Rattle.call.specs.declared.Call.{Call}
use Rattle.call.specs.Services.{deep_peak, reserve}
use Rattle.rule.specs.Standing.{is_contested, is_withdrawn}
use Rattle.wish.specs.Wish.{old_in}
use Rattle.cutting.specs.declared.NotCut.{NotCut}
use Rattle.cutting.specs.declared.NotCut.TheVariants.{NoCall, Withdrawn, Contested, NoWindow, Highest, NotInside, InUse}
use Rattle.cutting.specs.Parts.{first_part_of, second_part_of}

-- what a cut comes to: the two parts, or what stands in the way
abbrev pub Cut : Type 0
Cut = Result (Call × Call) NotCut

-- above this there is no revision
abbrev pub highest : ℕ
highest = 4294967295

-- windows of deep peaking and of reserve are cut
unfoldable pub is_window : Call → Bool
is_window x = eqb x.service deep_peak || eqb x.service reserve

-- a minute is a quarter hour strictly inside a window
unfoldable pub is_inside : Call → ℕ → Bool
is_inside x at = eqb (at % minutes_per_quarter) 0 && ltb x.start at && ltb at (x.start + x.length)

-- the new number is one of the member's calls, or the window is cut
unfoldable pub cut_new : Call → ℕ → ℕ → Option Call → Cut
cut_new x at new None = Ok (first_part_of x at, second_part_of x at new)
cut_new x at new (Some y) = Err (InUse y)

-- of a live window: it stands at the highest revision, or the minute is not inside it
unfoldable pub cut_window : Call → ℕ → ℕ → Option Call → Cut
cut_window x at new taken = cond (leb highest x.revision) (Err (Highest x)) (cond (not (is_inside x at)) (Err (NotInside x)) (cut_new x at new taken))

-- of a call: it is withdrawn, contested, or no window
unfoldable pub cut_call : Call → ℕ → ℕ → Option Call → Cut
cut_call x at new taken = cond (is_withdrawn x) (Err (Withdrawn x)) (cond (is_contested x) (Err (Contested x)) (cond (not (is_window x)) (Err (NoWindow x)) (cut_window x at new taken)))

-- of what a book has under the number
unfoldable pub cut_old : Option Call → ℕ → ℕ → Option Call → Cut
cut_old None at new taken = Err NoCall
cut_old (Some x) at new taken = cut_call x at new taken

-- WHAT A CUT COMES TO, of a book, a member, its call, the minute and the number of the part from there on
unfoldable pub cutting : List ℕ → ℕ → ℕ → ℕ → ℕ → Cut
cutting b member number at new = cut_old (old_in b member number) at new (old_in b member new)
