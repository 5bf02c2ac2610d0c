-- The outcomes of the operations as the paper's table has them, a row each: which comes out exactly when. Assumes nothing.
use Rattle.std.specs.Prelude.{◌≡◌, ◌⊎◌, ◌≢◌, List, ℕ, ◌+◌, ◌≤◌, ◌<◌, length}
use Rattle.call.specs.declared.Call.{Call}
use Rattle.call.specs.Services.{most_participant}
use Rattle.book.specs.declared.Verdict.{Verdict}
use Rattle.book.specs.Book.{most_keys, size_of, header_at, calls_of}
use Rattle.book.specs.Check.{refused, accepted}
use Rattle.book.specs.Sound.{Sound}
use Rattle.book.specs.Refusals.{Refusal}
use Rattle.join.specs.Joining.{keys_of_both}
use Rattle.join.specs.Verdict.{Differ, Alike}
use Rattle.tabs.specs.Tabs.{page_size, own_page, Fits}
use Rattle.tabs.specs.Outcome.{TabsOutcome, tabs_outcome, laid_over, JoinTabsOutcome, join_tabs_refused, join_tabs_wrote}

-- the page of a book afresh: the book's refusal, 9, or its own page
pub data TabsVerdict (book page : List ℕ) (o : TabsOutcome) : Type 0 where
  book_refused : (v : Verdict) → Refusal book v → v ≢ accepted → o ≡ tabs_outcome v page → TabsVerdict book page o
  nine : Sound book → length page < page_size → o ≡ tabs_outcome (refused 9 0) page → TabsVerdict book page o
  made : Sound book → page_size ≤ length page → o ≡ tabs_outcome accepted (laid_over (own_page (calls_of book)) page) → TabsVerdict book page o

-- a page fits a book at every member below m
abbrev pub FitsBelow : List ℕ → List Call → ℕ → Type 0
FitsBelow page cs m = (j : ℕ) → 1 ≤ j → j < m → Fits page cs j

-- it fits at each of the 64
abbrev pub FitsAll : List ℕ → List Call → Type 0
FitsAll page cs = (j : ℕ) → 1 ≤ j → j ≤ most_participant → Fits page cs j

-- m is the lowest member at which it does not fit
pub record LowestUnfit (page : List ℕ) (cs : List Call) (m : ℕ) : Type 0 where
  pub member : (1 ≤ m) × (m ≤ most_participant)
  pub below : FitsBelow page cs m
  pub unfit : ¬ Fits page cs m

-- whether a page fits a book: the book's refusal; 10 at the lowest member at which it does not; it fits at each
pub data FittingVerdict (book page : List ℕ) (v : Verdict) : Type 0 where
  unsound : Refusal book v → v ≢ accepted → FittingVerdict book page v
  ten_at : (m : ℕ) → Sound book → LowestUnfit page (calls_of book) m → v ≡ refused 10 m → FittingVerdict book page v
  fits_all : Sound book → FitsAll page (calls_of book) → v ≡ accepted → FittingVerdict book page v

-- two sound books of the same year, month and area, and a page that fits the first
pub record Ready (first given second : List ℕ) : Type 0 where
  pub alike : Alike first second
  pub fits : FitsAll given (calls_of first)

-- the first book's refusal; the second's, its number raised by 20 and its place counting in the second book; 10 at the lowest member at which the given page does
-- not fit the first book; 7; 8; 9 where either output is too short; the joined book and its page
pub data JoinTabsVerdict (first given second out page : List ℕ) (o : JoinTabsOutcome) : Type 0 where
  first_refused_lem : (v : Verdict) → Refusal first v → v ≢ accepted → o ≡ join_tabs_refused v out page → JoinTabsVerdict first given second out page o
  second_refused : (v : Verdict) → Sound first → Refusal second v → v ≢ accepted
      → o ≡ join_tabs_refused (refused (v.number + 20) v.place) out page → JoinTabsVerdict first given second out page o
  ten : (m : ℕ) → Sound first → Sound second → LowestUnfit given (calls_of first) m
      → o ≡ join_tabs_refused (refused 10 m) out page → JoinTabsVerdict first given second out page o
  seven : Sound first → Sound second → FitsAll given (calls_of first) → Differ (header_at first) (header_at second)
      → o ≡ join_tabs_refused (refused 7 0) out page → JoinTabsVerdict first given second out page o
  eight : Ready first given second → most_keys < keys_of_both first second → o ≡ join_tabs_refused (refused 8 0) out page → JoinTabsVerdict first given second out page o
  nine : Ready first given second → keys_of_both first second ≤ most_keys → (length out < size_of (keys_of_both first second)) ⊎ (length page < page_size)
      → o ≡ join_tabs_refused (refused 9 0) out page → JoinTabsVerdict first given second out page o
  joined : Ready first given second → keys_of_both first second ≤ most_keys → size_of (keys_of_both first second) ≤ length out → page_size ≤ length page
      → o ≡ join_tabs_wrote first given second out page → JoinTabsVerdict first given second out page o
