-- Trees of joins with pages: a lone book comes with its own page, and each join brings the first one's page forward. Assumes nothing.
use Rattle.std.specs.Prelude.{cond, List, ℕ, eqb, length, take}
use Rattle.book.specs.Book.{calls_of}
use Rattle.book.specs.Sound.{Sound}
use Rattle.tabs.specs.Tabs.{page_size, own_page}
use Rattle.tabs.specs.Outcome.{JoinTabsOutcome, joining_tabs}

-- a lone book, or the join of what two trees give, into two outputs that are lent to it, for the book and for its page
pub data Plan : Type 0 where
  book : List ℕ → Plan
  join : Plan → Plan → List ℕ → List ℕ → Plan

-- the book and the page that an outcome has written
abbrev pub written_book : JoinTabsOutcome → List ℕ
written_book o = take o.size o.out

abbrev pub written_page : JoinTabsOutcome → List ℕ
written_page o = take page_size o.page

-- a lone book with its own page
abbrev pub lone : List ℕ → JoinTabsOutcome
lone b = record { number = 0; place = 0; size = length b; turns = 0; out = b; page = own_page (calls_of b) }

-- the join of what two outcomes have written, with the first one's page; a refusal ends it
unfoldable pub join_both : JoinTabsOutcome → JoinTabsOutcome → List ℕ → List ℕ → JoinTabsOutcome
join_both l r out page = cond (eqb l.number 0) (cond (eqb r.number 0) (joining_tabs (written_book l) (written_page l) (written_book r) out page) r) l

-- what a tree gives: each node is the outcome of a join
unfoldable pub result : Plan → JoinTabsOutcome
result (book b) = lone b
result (join l r out page) = join_both (result l) (result r) out page

-- the books at the leaves are sound
abbrev pub Sounds : Plan → Type 0
Sounds (book b) = Sound b
Sounds (join l r out page) = Sounds l × Sounds r
