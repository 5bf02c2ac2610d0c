-- Whether a wish changes a book, and why not. Assumes nothing.
use Rattle.std.specs.Prelude.{cond, List, ℕ, ltb, eqb, Option, Some, None, Result, Ok, Err}
use Rattle.std.proofs.Math.Option.{Option as Kept, none, some}
use Rattle.call.specs.declared.Call.{Call}
use Rattle.call.specs.Key.{key_of}
use Rattle.book.specs.Book.{calls_of}
use Rattle.book.specs.Check.{check}
use Rattle.rule.specs.Standing.{is_withdrawn}
use Rattle.rule.specs.Keys.{record_of}
use Rattle.wish.specs.declared.Wish.{Wish}
use Rattle.wish.specs.declared.Wish.TheVariants.{Enter, Revise, Withdraw}
use Rattle.wish.specs.declared.Unchanged.{Unchanged}
use Rattle.wish.specs.declared.Unchanged.TheVariants.{InUse, NotHigher, Withdrawn}

-- what a wish comes to: it changes the book, or why it does not
abbrev pub Verdict : Type 0
Verdict = Result (Unit {0}) Unchanged

abbrev pub changes : Verdict
changes = Ok tt

-- a revision changes a call where it is higher than the one that stands
unfoldable pub higher : Call → Call → Verdict
higher x y = cond (ltb y.revision x.revision) changes (Err (NotHigher y.revision))

-- by the wish: a number that is in use is not entered again, and what is live or contested can be withdrawn
unfoldable pub by_wish : Wish → Call → Call → Verdict
by_wish Enter x y = Err InUse
by_wish Revise x y = higher x y
by_wish Withdraw x y = changes

-- what is withdrawn stays so
unfoldable pub over : Wish → Call → Call → Verdict
over wish x y = cond (is_withdrawn y) (Err Withdrawn) (by_wish wish x y)

-- a call that the book does not have is entered, revised or withdrawn in it
unfoldable pub verdict : Wish → Call → Option Call → Verdict
verdict wish x None = changes
verdict wish x (Some y) = over wish x y

-- what a book has under a key, as the program holds it
unfoldable pub old_of : Kept Call → Option Call
old_of none = None
old_of (some y) = Some y

-- what a book has for a member's call number; one that is not sound has nothing
unfoldable pub old_in : List ℕ → ℕ → ℕ → Option Call
old_in b member number = cond (eqb (check b).number 0) (old_of (record_of (key_of member number) (calls_of b))) None
