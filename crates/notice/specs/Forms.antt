-- The forms of what is told of the drawer, as they are printed, and their numbers in the order of the form. Assumes nothing.
use Rattle.std.specs.Prelude.{List, [], ◌∷◌, ◌++◌, ℕ, ◌+◌, ltb, ℤ, length, Option, Some, None}
use Rattle.render.specs.Decimal.{word}
use Rattle.render.specs.Room.{Renders}
use Rattle.form.specs.Form.{bits, flag, filled_with, most_with}
use Rattle.drawer.specs.declared.apart.Field.{Field}
use Rattle.drawer.specs.declared.apart.Field.TheVariants.{Service, Start, Length, A, B, C}
use Rattle.notice.specs.declared.Counted.{Counted}

-- a lent buffer before and after a form with the names of two books and numbers in it, and the answer
abbrev pub Tells : List ℕ → List ℕ → List ℕ → List ℕ → List ℕ → List ℕ → ℕ → Type 0
Tells form one other numbers before after answer = Renders (most_with form (length one) (length other)) (filled_with form one other numbers) before after answer

-- the book that has the record that stands, withdrawn or contested; a book that has the call live or contested all the same
abbrev pub beaten_form : List ℕ
beaten_form = word "[withdrawn|contested] in %1 at revision %n; %2 still has it [live|contested] at revision %n\n"

-- a revision in one book over that in another
abbrev pub revised_form : List ℕ
revised_form = word "revision %n in %1 over revision %n in %2\n"

-- a revision that books contradict each other in, so that none of them has what stands, over that in another book
abbrev pub over_form : List ℕ
over_form = word "contested at %n over revision %n in %1\n"

-- two books that contradict each other: the field by its word at the desk, what each has in it, and what decides it; above the highest revision
-- there is none, and a withdrawal alone ends it
abbrev pub differing_form : List ℕ
differing_form =
    word "contested at %n: %1 and %2 differ in [SERVICE][START][LENGTH][A][B][C][nothing], %i and %i[; a revision %n decides it|; only a withdrawal ends it]\n"

-- a field of a call: which of the seven words is shown
abbrev pub field_flags : Option Field → List ℕ
field_flags (Some Service) = 1 ∷ 0 ∷ 0 ∷ 0 ∷ 0 ∷ 0 ∷ 0 ∷ []
field_flags (Some Start) = 0 ∷ 1 ∷ 0 ∷ 0 ∷ 0 ∷ 0 ∷ 0 ∷ []
field_flags (Some Length) = 0 ∷ 0 ∷ 1 ∷ 0 ∷ 0 ∷ 0 ∷ 0 ∷ []
field_flags (Some A) = 0 ∷ 0 ∷ 0 ∷ 1 ∷ 0 ∷ 0 ∷ 0 ∷ []
field_flags (Some B) = 0 ∷ 0 ∷ 0 ∷ 0 ∷ 1 ∷ 0 ∷ 0 ∷ []
field_flags (Some C) = 0 ∷ 0 ∷ 0 ∷ 0 ∷ 0 ∷ 1 ∷ 0 ∷ []
field_flags None = 0 ∷ 0 ∷ 0 ∷ 0 ∷ 0 ∷ 0 ∷ 1 ∷ []

-- the highest revision that a record holds
abbrev pub highest_revision : ℕ
highest_revision = 4294967295

-- the revision, the field, what the one book has in it and what the other, whether there is a higher revision, and the next one
abbrev pub differing_values : ℕ → Option Field → ℤ → ℤ → List ℕ
differing_values r f x y = r ∷ field_flags f ++ (bits x ∷ bits y ∷ flag (ltb r highest_revision) ∷ (r + 1) ∷ [])

-- a file that is refused, and where
abbrev pub refused_with_form : List ℕ
refused_with_form = word "refused with %n at %n"

-- what a register lacks
abbrev pub no_line_for_form : List ℕ
no_line_for_form = word "no line for member %n"

-- how many of each: records that do not stand; calls that scoring would refuse; what is not read or not taken; books to spare, the part, sharing's refusals
abbrev pub counted_form : List ℕ
counted_form =
    word "stale %n contested %n closed %n against %n unlisted %n register %n series %n ramping %n books %n spare %n part %n sharing %n\n"

-- the numbers of each, as the form has them
abbrev pub counted_values : Counted → List ℕ
counted_values c =
    c.stale ∷ c.contested ∷ c.closed ∷ c.against ∷ c.unlisted ∷ c.register ∷ c.series ∷ c.ramping
    ∷ c.books ∷ c.spare ∷ c.part ∷ c.sharing ∷ []

-- the last line where the month would not be settled
abbrev pub unsettled_form : List ℕ
unsettled_form = word "unsettled %n\n"
