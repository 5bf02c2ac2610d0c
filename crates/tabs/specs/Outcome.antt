-- The operations over bytes: the page of a book afresh, whether a page fits a book, and a join that brings the first book's page forward. Assumes nothing.
use Rattle.std.specs.Prelude.{cond, not, List, ◌++◌, ℕ, eqb, ltb, length, drop}
use Rattle.book.specs.declared.Verdict.{Verdict}
use Rattle.book.specs.Book.{header_at, calls_of}
use Rattle.book.specs.Check.{refused, accepted, check}
use Rattle.pair.specs.Screening.{passes, both_sound, same_month}
use Rattle.join.specs.declared.Joined.{Joined}
use Rattle.join.specs.Turns.{ran}
use Rattle.join.specs.Joining.{keys_of_both, overflow, joined_book}
use Rattle.tabs.specs.Tabs.{page_size, tabs_on, page_bytes, own_page, first_unfit}
use Rattle.tabs.specs.Forward.{brought_forward}

-- bytes at the start of an output, and the bytes after them stay
abbrev pub laid_over : List ℕ → List ℕ → List ℕ
laid_over bytes out = bytes ++ drop (length bytes) out

-- The page of a book afresh

-- a refusal's number and place, or zeros; the lent page
pub record TabsOutcome : Type 0 where
  pub number : ℕ
  pub place : ℕ
  pub page : List ℕ

-- the answer and the page at exit, as one outcome; a refusal with the page as it was lent
abbrev pub tabs_outcome : Verdict → List ℕ → TabsOutcome
tabs_outcome v page = record { number = v.number; place = v.place; page = page }

-- the book's refusals, 1 to 6; 9: a page that is too short
unfoldable pub tabs_fault : List ℕ → ℕ → Verdict
tabs_fault book room =
    cond (not (passes (check book))) (check book)
    (cond (ltb room page_size) (refused 9 0)
    accepted)

-- the book's own page at the start of the lent one, or a refusal, which changes nothing
unfoldable pub tabling : List ℕ → List ℕ → TabsOutcome
tabling book page =
    cond (passes (tabs_fault book (length page))) (tabs_outcome accepted (laid_over (own_page (calls_of book)) page))
    (tabs_outcome (tabs_fault book (length page)) page)

-- Whether a page fits a book: the book's refusals, 1 to 6; 10 at the lowest member at which it does not
unfoldable pub fitting : List ℕ → List ℕ → Verdict
fitting book page =
    cond (not (passes (check book))) (check book)
    (cond (not (eqb (first_unfit page (calls_of book)) 0)) (refused 10 (first_unfit page (calls_of book)))
    accepted)

-- A join that brings a page forward

-- a refusal's number and place, or zeros; the joined book's length; the turns; the two lent outputs, for the book and for its page
pub record JoinTabsOutcome : Type 0 where
  pub number : ℕ
  pub place : ℕ
  pub size : ℕ
  pub turns : ℕ
  pub out : List ℕ
  pub page : List ℕ

-- the answer and both outputs at exit, as one outcome
abbrev pub join_tabs_outcome : Joined → List ℕ → List ℕ → JoinTabsOutcome
join_tabs_outcome answer out page =
    record { number = answer.number; place = answer.place; size = answer.length; turns = answer.turns; out = out; page = page }

-- a refusal: number and place, otherwise zeros; both outputs keep their contents
abbrev pub join_tabs_refused : Verdict → List ℕ → List ℕ → JoinTabsOutcome
join_tabs_refused v out page = record { number = v.number; place = v.place; size = 0; turns = 0; out = out; page = page }

-- the joined book's page, brought forward from the given one
abbrev pub forward_page : List ℕ → List ℕ → List ℕ → List ℕ
forward_page first given second = page_bytes (brought_forward (tabs_on given) (calls_of first) (calls_of second))

-- accepted: the joined book and its page at the start of the outputs, and the bytes after them stay
abbrev pub join_tabs_wrote : List ℕ → List ℕ → List ℕ → List ℕ → List ℕ → JoinTabsOutcome
join_tabs_wrote first given second out page =
    record {
      number = 0;
      place = 0;
      size = length (joined_book first second);
      turns = (ran first second out).turns;
      out = laid_over (joined_book first second) out;
      page = laid_over (forward_page first given second) page;
    }

-- the first book's refusals, the second's, 10 at the lowest member at which the given page does not fit the first book, 7
unfoldable pub screen_tabs : List ℕ → List ℕ → List ℕ → Verdict
screen_tabs first given second =
    cond (not (passes (both_sound first second))) (both_sound first second)
    (cond (not (eqb (first_unfit given (calls_of first)) 0)) (refused 10 (first_unfit given (calls_of first)))
    (cond (not (same_month (header_at first) (header_at second))) (refused 7 0)
    accepted))

-- 8; 9 where either output is too short
unfoldable pub rooms_fault : ℕ → ℕ → ℕ → Verdict
rooms_fault keys room page_room =
    cond (not (passes (overflow keys room))) (overflow keys room)
    (cond (ltb page_room page_size) (refused 9 0)
    accepted)

unfoldable pub join_tabs_fault : List ℕ → List ℕ → List ℕ → ℕ → ℕ → Verdict
join_tabs_fault first given second room page_room =
    cond (not (passes (screen_tabs first given second))) (screen_tabs first given second) (rooms_fault (keys_of_both first second) room page_room)

-- any two books and any page: a refusal, which changes nothing, or the joined book and its page
unfoldable pub joining_tabs : List ℕ → List ℕ → List ℕ → List ℕ → List ℕ → JoinTabsOutcome
joining_tabs first given second out page =
    cond (passes (join_tabs_fault first given second (length out) (length page))) (join_tabs_wrote first given second out page)
    (join_tabs_refused (join_tabs_fault first given second (length out) (length page)) out page)
