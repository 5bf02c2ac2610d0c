-- The refusals of two books that are to be joined, before a look at what they give together: the first book's, the second's, 7. Assumes nothing.
use Rattle.std.specs.Prelude.{◌≡◌, Bool, cond, not, ◌&&◌, List, ℕ, ◌+◌, eqb}
use Rattle.book.specs.declared.Header.{Header}
use Rattle.book.specs.declared.Verdict.{Verdict}
use Rattle.book.specs.Book.{header_at}
use Rattle.book.specs.Check.{refused, accepted, check}

-- a book that its check accepts
abbrev pub IsAccepted : List ℕ → Type 0
IsAccepted b = check b ≡ accepted

abbrev pub passes : Verdict → Bool
passes v = eqb v.number 0

-- 21 to 26: the second book's numbers raised by 20; the place counts in the second book
abbrev pub raised : Verdict → Verdict
raised v = refused (v.number + 20) v.place

-- first book, second book
unfoldable pub both_sound : List ℕ → List ℕ → Verdict
both_sound first second =
    cond (not (passes (check first))) (check first)
    (cond (not (passes (check second))) (raised (check second))
    accepted)

-- 7: year, month or area differ
unfoldable pub same_month : Header → Header → Bool
same_month h k = eqb h.year k.year && eqb h.month k.month && eqb h.area k.area

-- both books sound, then 7
unfoldable pub screen : List ℕ → List ℕ → Verdict
screen first second =
    cond (not (passes (both_sound first second))) (both_sound first second)
    (cond (not (same_month (header_at first) (header_at second))) (refused 7 0)
    accepted)
