-- The page of tabs beside a book: for each of 64 members where its calls begin, how many they are, and how many of them are in each state. Assumes nothing.
use Rattle.std.specs.Prelude.{◌≡◌, Bool, cond, ◌&&◌, List, [], ◌∷◌, ◌++◌, ℕ, zero, suc, ◌+◌, ◌*◌, ◌-◌, ◌≤◌, eqb, leb, ltb, length, take, drop}
use Rattle.le.specs.Le.{le_at, le_bytes}
use Rattle.call.specs.declared.Call.{Call}
use Rattle.call.specs.Revising.{live, contested, withdrawn}
use Rattle.call.specs.Services.{most_participant}
use Rattle.tabs.specs.declared.Tab.{Tab}

-- the index of a member's first call: how many calls stand before it; of a member that has none, the count of all calls
unfoldable pub first_index : ℕ → List Call → ℕ
first_index m [] = 0
first_index m (c ∷ cs) = cond (eqb c.participant m) 0 (suc (first_index m cs))

-- a member's calls
unfoldable pub own_of : ℕ → List Call → List Call
own_of m [] = []
own_of m (c ∷ cs) = cond (eqb c.participant m) (c ∷ own_of m cs) (own_of m cs)

-- how many calls are in a state
unfoldable pub of_state : ℕ → List Call → ℕ
of_state s [] = 0
of_state s (c ∷ cs) = cond (eqb c.state s) (suc (of_state s cs)) (of_state s cs)

-- each member's tab: the first call's index, the count of its calls, how many are live, contested and withdrawn
unfoldable pub tabs_of : List Call → ℕ → Tab
tabs_of cs m =
    record {
      index = first_index m cs;
      count = length (own_of m cs);
      live = of_state live (own_of m cs);
      contested = of_state contested (own_of m cs);
      withdrawn = of_state withdrawn (own_of m cs);
    }

-- Bytes: a tab is five numbers of two bytes, a page 64 tabs, member 1 first

abbrev pub tab_size : ℕ
tab_size = 10

abbrev pub page_size : ℕ
page_size = 640

-- where a member's tab lies
abbrev pub tab_place : ℕ → ℕ
tab_place m = tab_size * (m - 1)

-- index, count, live, contested, withdrawn: u16 each
unfoldable pub tab_at : List ℕ → ℕ → Tab
tab_at page at =
    record {
      index = le_at page at 2;
      count = le_at page (at + 2) 2;
      live = le_at page (at + 4) 2;
      contested = le_at page (at + 6) 2;
      withdrawn = le_at page (at + 8) 2;
    }

-- each member's tab, as a page has it
abbrev pub tabs_on : List ℕ → ℕ → Tab
tabs_on page m = tab_at page (tab_place m)

-- the same of any page and any number: zeros where there is no such member, or its ten bytes are not all there
abbrev no_tab : Tab
no_tab = record { index = 0; count = 0; live = 0; contested = 0; withdrawn = 0 }

unfoldable pub tab_of : List ℕ → ℕ → Tab
tab_of page m = cond (ltb m 1) no_tab (cond (ltb most_participant m) no_tab (cond (ltb (length page) (tab_size * m)) no_tab (tabs_on page m)))

-- the same numbers written
unfoldable pub tab_bytes : Tab → List ℕ
tab_bytes t = le_bytes 2 t.index ++ le_bytes 2 t.count ++ le_bytes 2 t.live ++ le_bytes 2 t.contested ++ le_bytes 2 t.withdrawn

-- the tabs of members 1 to n
unfoldable pub tabs_bytes : (ℕ → Tab) → ℕ → List ℕ
tabs_bytes tabs zero = []
tabs_bytes tabs (suc n) = tabs_bytes tabs n ++ tab_bytes (tabs (suc n))

-- the page of 64 members' tabs
abbrev pub page_bytes : (ℕ → Tab) → List ℕ
page_bytes tabs = tabs_bytes tabs most_participant

-- the book's own page, by its calls
abbrev pub own_page : List Call → List ℕ
own_page cs = page_bytes (tabs_of cs)

-- Whether a page fits a book

-- a page fits a book at a member: the member's ten bytes are there in full, and are those of the book's own page
pub record Fits (page : List ℕ) (cs : List Call) (m : ℕ) : Type 0 where
  pub there : tab_size * m ≤ length page
  pub own : take tab_size (drop (tab_place m) page) ≡ tab_bytes (tabs_of cs m)

-- the same as a test, number by number
unfoldable pub same_tab : Tab → Tab → Bool
same_tab t u =
    eqb t.index u.index
    && eqb t.count u.count
    && eqb t.live u.live
    && eqb t.contested u.contested
    && eqb t.withdrawn u.withdrawn

unfoldable pub fits_at : List ℕ → List Call → ℕ → Bool
fits_at page cs m = leb (tab_size * m) (length page) && same_tab (tabs_on page m) (tabs_of cs m)

-- the lowest of so many members, from m on, at which it does not fit; 0 where it fits at each
unfoldable pub unfit_from : List ℕ → List Call → ℕ → ℕ → ℕ
unfit_from page cs m zero = 0
unfit_from page cs m (suc left) = cond (fits_at page cs m) (unfit_from page cs (suc m) left) m

-- of members 1 to 64
unfoldable pub first_unfit : List ℕ → List Call → ℕ
first_unfit page cs = unfit_from page cs 1 most_participant
