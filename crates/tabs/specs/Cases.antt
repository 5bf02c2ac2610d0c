-- Cases of both operations: books of February 2026, their pages, and what comes out. Assumes nothing.
use Rattle.std.specs.Prelude.{◌≡◌, cond, List, [], ◌∷◌, ℕ, eqb, pos, length, take, replicate}
use Rattle.call.specs.declared.Call.{Call}
use Rattle.call.specs.Revising.{call_contested, call_withdrawn}
use Rattle.call.specs.Services.{start_stop}
use Rattle.book.specs.Book.{first_version, book_bytes}
use Rattle.book.specs.Check.{refused}
use Rattle.tabs.specs.declared.Tab.{Tab}
use Rattle.tabs.specs.Tabs.{page_bytes}
use Rattle.tabs.specs.Outcome.{JoinTabsOutcome, join_tabs_refused, joining_tabs}

-- a book of these calls, of area 5 or of another one
unfoldable pub book_of : ℕ → List Call → List ℕ
book_of area calls = book_bytes first_version (record { area = area; year = 2026; month = 2 }) calls

-- a member's call, by its number, revision and start
unfoldable pub call : ℕ → ℕ → ℕ → ℕ → Call
call member number revision start =
    record { participant = member; service = start_stop; state = 0; number = number; revision = revision; start = start; length = 240; a = pos 0; b = 0; c = 0 }

-- a tab by its five numbers
unfoldable pub tab : ℕ → ℕ → ℕ → ℕ → ℕ → Tab
tab index count live contested withdrawn = record { index = index; count = count; live = live; contested = contested; withdrawn = withdrawn }

-- a member's own tab, where every other member has the same one
pub record Named : Type 0 where
  pub member : ℕ
  pub tab : Tab

unfoldable pub sheet : List Named → Tab → ℕ → Tab
sheet [] other m = other
sheet (n ∷ ns) other m = cond (eqb n.member m) n.tab (sheet ns other m)

-- the bytes of such a page
abbrev pub page_of : List Named → Tab → List ℕ
page_of ns other = page_bytes (sheet ns other)

-- so many bytes lent
abbrev pub blank : ℕ → List ℕ
blank n = replicate n 0

-- 1: member 7 has call 1 withdrawn and call 2 live; incoming are call 1 live at a higher revision, call 2 otherwise at the same revision, and a call of member 9
unfoldable pub seven_before : List ℕ
seven_before = book_of 5 (call_withdrawn (call 7 1 1 0) ∷ call 7 2 1 600 ∷ [])

unfoldable pub seven_in : List Call
seven_in = call 7 1 2 600 ∷ call 7 2 1 700 ∷ call 9 1 1 600 ∷ []

unfoldable pub seven_after : List ℕ
seven_after = book_of 5 (call_withdrawn (call 7 1 1 0) ∷ call_contested (call 7 2 1 600) ∷ call 9 1 1 600 ∷ [])

unfoldable pub seven_page : List ℕ
seven_page = page_of (record { member = 7; tab = tab 0 2 1 0 1 } ∷ []) (tab 2 0 0 0 0)

unfoldable pub seven_page_after : List ℕ
seven_page_after = page_of (record { member = 7; tab = tab 0 2 0 1 1 } ∷ record { member = 9; tab = tab 2 1 1 0 0 } ∷ []) (tab 3 0 0 0 0)

-- the same page with the index of member 8 as 0
unfoldable pub eight_wrong : List ℕ
eight_wrong = page_of (record { member = 7; tab = tab 0 2 1 0 1 } ∷ record { member = 8; tab = tab 0 0 0 0 0 } ∷ []) (tab 2 0 0 0 0)

-- 3: two live calls of member 3 and one of member 9; incoming is one of member 5
unfoldable pub three_before : List ℕ
three_before = book_of 5 (call 3 1 1 0 ∷ call 3 2 1 600 ∷ call 9 1 1 0 ∷ [])

unfoldable pub three_after : List ℕ
three_after = book_of 5 (call 3 1 1 0 ∷ call 3 2 1 600 ∷ call 5 1 1 0 ∷ call 9 1 1 0 ∷ [])

unfoldable pub three_page : List ℕ
three_page = page_of (record { member = 3; tab = tab 0 2 2 0 0 } ∷ record { member = 9; tab = tab 2 1 1 0 0 } ∷ []) (tab 3 0 0 0 0)

unfoldable pub three_page_after : List ℕ
three_page_after =
    page_of (record { member = 3; tab = tab 0 2 2 0 0 } ∷ record { member = 5; tab = tab 2 1 1 0 0 } ∷ record { member = 9; tab = tab 3 1 1 0 0 } ∷ []) (tab 4 0 0 0 0)

-- a row of the table: two books, the given page, the bytes lent for the book and for its page, and what comes out
pub record Case : Type 0 where
  pub first : List ℕ
  pub given : List ℕ
  pub second : List ℕ
  pub room : ℕ
  pub page_room : ℕ
  pub outcome : JoinTabsOutcome

-- refused, both outputs as they were lent
unfoldable pub turned_away : ℕ → ℕ → ℕ → ℕ → JoinTabsOutcome
turned_away number place room page_room = join_tabs_refused (refused number place) (blank room) (blank page_room)

-- accepted after so many turns, with the joined book and its page
unfoldable pub left : ℕ → List ℕ → List ℕ → JoinTabsOutcome
left turns book page = record { number = 0; place = 0; size = length book; turns = turns; out = book; page = page }

-- the same books with another page, of another area, into other outputs
unfoldable pub sevens : List ℕ → ℕ → ℕ → ℕ → JoinTabsOutcome → Case
sevens given area room page_room o =
    record { first = seven_before; given = given; second = book_of area seven_in; room = room; page_room = page_room; outcome = o }

unfoldable pub cases : List Case
cases =
    sevens seven_page 5 112 640 (left 3 seven_after seven_page_after)
    ∷ sevens eight_wrong 5 112 640 (turned_away 10 8 112 640)
    ∷ sevens (take 70 seven_page) 5 112 640 (turned_away 10 8 112 640)
    ∷ sevens (take 69 seven_page) 5 112 640 (turned_away 10 7 112 640)
    ∷ sevens (take 25 seven_page) 6 112 640 (turned_away 10 3 112 640)
    ∷ sevens seven_page 6 112 640 (turned_away 7 0 112 640)
    ∷ sevens seven_page 5 111 640 (turned_away 9 0 111 640)
    ∷ sevens seven_page 5 112 639 (turned_away 9 0 112 639)
    ∷ record { first = three_before; given = three_page; second = book_of 5 (call 5 1 1 0 ∷ []); room = 144; page_room = 640; outcome = left 4 three_after three_page_after }
    ∷ record { first = book_of 5 []; given = blank 640; second = book_of 5 []; room = 16; page_room = 640; outcome = left 0 (book_of 5 []) (blank 640) }
    ∷ []

-- each row comes out
abbrev pub Hold : List Case → Type 0
Hold [] = Unit {0}
Hold (c ∷ cs) = (joining_tabs c.first c.given c.second (blank c.room) (blank c.page_room) ≡ c.outcome) × Hold cs
