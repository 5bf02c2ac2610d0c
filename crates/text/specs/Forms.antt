-- The messages, each as a form: its words, and marks where its numbers and texts stand. Assumes nothing.
use Rattle.std.specs.Prelude.{Bool, not, ◌&&◌, ◌||◌, List, [], ◌∷◌, ℕ, eqb, ltb}
use Rattle.call.specs.declared.Call.{Call}
use Rattle.call.specs.Revising.{live, contested}
use Rattle.book.specs.Book.{second_version}
use Rattle.book.specs.declared.Header.{Header}
use Rattle.render.specs.Decimal.{word}
use Rattle.form.specs.Form.{bits, flag}

-- Sharing

-- a refusal's number and place
abbrev pub refused_form : List ℕ
refused_form = word "refused %n %n\n"

-- R
abbrev pub total_form : List ℕ
total_form = word "total %i\n"

-- number, share and amount of a line
abbrev pub line_form : List ℕ
line_form = word "%n %i %i\n"

-- the user's amount
abbrev pub user_form : List ℕ
user_form = word "user %i\n"

-- The desk

-- a refusal, and what it is about
abbrev pub refused_about_form : List ℕ
refused_about_form = word "refused %n %n %1\n"

-- what failed, if that has a name, and why; the number is how long the name is
abbrev pub failed_form : List ℕ
failed_form = word "failed [%1: ]%2\n"

-- an argument that is not taken, by its place among the program's words, the command's word being 1, and by its name in the usage, and why
abbrev pub bad_argument_form : List ℕ
bad_argument_form = word "failed argument %n, %1: %2\n"

-- the same of a number that is none, or is too large
abbrev pub no_number_form : List ℕ
no_number_form = word "failed argument %n, %1: no number up to %n\n"

-- a command that is given more or fewer words than it takes: so many, from so many on, or from so many to so many
abbrev pub takes_form : List ℕ
takes_form = word "failed %1: takes %n[ to %n] word[s][ or more] behind it, %n given\n"

-- whether the words are from the least to the most
abbrev pub is_range : Bool → ℕ → ℕ → Bool
is_range more least most = not more && not (eqb least most)

abbrev pub takes_values : Bool → ℕ → ℕ → ℕ → List ℕ
takes_values more least most given =
    least ∷ flag (is_range more least most) ∷ most ∷ flag (is_range more least most || not (eqb least 1)) ∷ flag more ∷ given ∷ []

-- a remark in front of the last line: what it is about, and the remark
abbrev pub note_form : List ℕ
note_form = word "%1: %2\n"

-- the turns of a join, by the book that was joined in, or of all joins together
abbrev pub turns_form : List ℕ
turns_form = word "%1: %n turns\n"

-- a page of tabs that does not fit its book, by both names, and the lowest member at which it does not
abbrev pub unfit_form : List ℕ
unfit_form = word "%1: does not fit %2 from member %n on: desk tabs %2 makes it anew\n"

-- a page that is removed, where its book could not be replaced
abbrev pub removed_form : List ℕ
removed_form = word "%1: is removed: desk tabs %2 makes it anew\n"

-- a page that could not be put in place, where its book is written
abbrev pub unplaced_form : List ℕ
unplaced_form = word "failed %1: could not be put in place; %2 is written, and desk tabs %2 makes its page\n"

-- how a command is called
abbrev pub usage_form : List ℕ
usage_form = word "desk %1\n"

-- that nothing was changed, and why
abbrev pub unchanged_form : List ℕ
unchanged_form = word "unchanged %1\n"

-- that nothing was changed, since this revision stands: the least that would do
abbrev pub not_higher_form : List ℕ
not_higher_form = word "unchanged revision %n stands, give %n or more\n"

-- a call: which of two books has it, where that is said; whose it is, which revision, its state; and what a live one has besides: what it is,
-- when it starts, how long it is, its terms
abbrev pub call_form : List ℕ
call_form = word "[first ][second ]member %n call %n revision %n[ live %v start %n (%d) length %n (%l) a %i b %n c %n][ contested][ withdrawn]\n"

-- its numbers, behind the two that say which book has it
abbrev pub call_values : Call → List ℕ
call_values c =
    c.participant ∷ c.number ∷ c.revision ∷ flag (eqb c.state live) ∷ c.service ∷ c.start ∷ c.start ∷ c.length ∷ c.length
    ∷ bits c.a ∷ c.b ∷ c.c ∷ flag (eqb c.state contested) ∷ flag (ltb contested c.state) ∷ []

-- whose month a book is of, and how many calls it has
abbrev pub header_form : List ℕ
header_form = word "area %n year %n month %n calls %n\n"

-- the same of a book that is shown or written, with its version where that is the second
abbrev pub book_form : List ℕ
book_form = word "area %n year %n month %n calls %n[ version 2]\n"

-- its numbers, of a version, whose month and how many calls
abbrev pub book_values : ℕ → Header → ℕ → List ℕ
book_values version h calls = h.area ∷ h.year ∷ h.month ∷ calls ∷ flag (eqb version second_version) ∷ []

-- a member's tab: how many calls it has, and how many of them are live, contested and withdrawn
abbrev pub tab_form : List ℕ
tab_form = word "member %n calls %n live %n contested %n withdrawn %n\n"

-- a member's score
abbrev pub score_form : List ℕ
score_form = word "grains %n\nfen %n\n"
