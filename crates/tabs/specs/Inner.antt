-- What inner contracts speak of, and no sentence of the paper. Assumes nothing.
use Rattle.std.specs.Prelude.{◌≡◌, Bool, false, cond, ◌&&◌, List, [], ◌∷◌, ◌++◌, ℕ, ◌+◌, ◌*◌, ◌-◌, ◌<◌, ◌≤◌, eqb, ltb, length, drop, Result, Ok, Err}
use Rattle.le.specs.Le.{le_at}
use Rattle.call.specs.declared.Call.{Call}
use Rattle.call.specs.Key.{call_key}
use Rattle.call.specs.Layout.{record_size, call_at}
use Rattle.call.specs.Revising.{live, contested, withdrawn}
use Rattle.call.specs.Services.{most_participant}
use Rattle.book.specs.Book.{header_at, calls_of, place_of}
use Rattle.book.specs.Check.{header_minutes}
use Rattle.book.specs.Sound.{CallsWithin}
use Rattle.rule.specs.Keys.{record_of, also}
use Rattle.rule.specs.Joined.{join_calls}
use Rattle.pair.specs.Screening.{passes}
use Rattle.join.specs.Joining.{keys_of_both, overflow}
use Rattle.join.specs.Steps.{ReadTo, left_from}
use Rattle.tabs.specs.declared.Tab.{Tab}
use Rattle.tabs.specs.declared.walk.Tally.{Tally}
use Rattle.tabs.specs.declared.walk.Others.{Others}
use Rattle.tabs.specs.declared.forward.Run.{Run}
use Rattle.tabs.specs.Tabs.{tab_place, page_size, tabs_on, own_of, of_state}
use Rattle.tabs.specs.Outcome.{JoinTabsOutcome, join_tabs_refused, join_tabs_wrote}
use Rattle.tabs.specs.Forward.{replaced, stands_against, settled, forward_state, sum_to}

-- Reading a book member by member

-- no call is of a lower member than the one before it, the first being m's or a higher one's
abbrev pub Ordered : ℕ → List Call → Type 0
Ordered m [] = Unit {0}
Ordered m (c ∷ cs) = (m ≤ c.participant) × Ordered c.participant cs

-- every call is of a member below m
abbrev pub Under : ℕ → List Call → Type 0
Under m [] = Unit {0}
Under m (c ∷ cs) = (c.participant < m) × Under m cs

-- a book that is read up to a place, behind which there is no call of a member below m
pub record Coming (b : List ℕ) (m at : ℕ) : Type 0 where
  pub read : ReadTo b at
  pub within : CallsWithin (header_minutes (header_at b)) (left_from b at)
  pub from : Ordered m (left_from b at)

-- and before which there are only such calls
pub record UpTo (b : List ℕ) (m at : ℕ) : Type 0 where
  pub coming : Coming b m at
  pub before : List Call
  pub is : calls_of b ≡ before ++ left_from b at
  pub under : Under m before

-- the record at a place is there, and is a member's
unfoldable pub is_of : List ℕ → ℕ → ℕ → Bool
is_of b at m = ltb at (length b) && eqb (call_at b at).participant m

-- a member's calls by their states
abbrev pub tallied : List Call → Tally
tallied cs = record { live = of_state live cs; contested = of_state contested cs; withdrawn = of_state withdrawn cs }

-- one call more, in a state
abbrev pub tally_more : Tally → ℕ → Tally
tally_more t s =
    record {
      live = t.live + cond (eqb s live) 1 0;
      contested = t.contested + cond (eqb s contested) 1 0;
      withdrawn = t.withdrawn + cond (eqb s withdrawn) 1 0;
    }

-- no count is at the end of its range
pub record Roomy (t : Tally) : Type 0 where
  pub live : t.live < 65535
  pub contested : t.contested < 65535
  pub withdrawn : t.withdrawn < 65535

-- a member's index, by the count of its calls: where its first call stands, or of a member that has none the count of all calls
unfoldable pub index_for : ℕ → ℕ → ℕ → ℕ
index_for count first all = cond (eqb count 0) all first

-- from a place of a book up to another
pub record Stretch (b : List ℕ) (at end : ℕ) : Type 0 where
  pub from : ReadTo b at
  pub to : ReadTo b end
  pub order : at ≤ end

-- the next two records lie before an end, and both are live
unfoldable pub live_pair : List ℕ → ℕ → ℕ → Bool
live_pair b at end = ltb (at + record_size) end && eqb (call_at b at).state live && eqb (call_at b (at + record_size)).state live

-- from a place up to another, before an end, no record is contested or withdrawn
pub record LiveTo (b : List ℕ) (at end a : ℕ) : Type 0 where
  pub left : Stretch b a end
  pub further : at ≤ a
  pub contested : of_state contested (left_from b a) ≡ of_state contested (left_from b at)
  pub withdrawn : of_state withdrawn (left_from b a) ≡ of_state withdrawn (left_from b at)

-- one call more, in a state
abbrev pub others_more : Others → ℕ → Others
others_more t s = record { contested = t.contested + cond (eqb s contested) 1 0; withdrawn = t.withdrawn + cond (eqb s withdrawn) 1 0 }

pub record Spare (t : Others) : Type 0 where
  pub contested : t.contested < 65535
  pub withdrawn : t.withdrawn < 65535

-- how many records from a place up to an end are contested, and how many withdrawn; they are not more than there are
pub record OthersIn (b : List ℕ) (at end : ℕ) (t : Others) : Type 0 where
  pub contested : t.contested + of_state contested (left_from b end) ≡ of_state contested (left_from b at)
  pub withdrawn : t.withdrawn + of_state withdrawn (left_from b end) ≡ of_state withdrawn (left_from b at)
  pub most : at + record_size * (t.contested + t.withdrawn) ≤ end

-- so many records from a place on by their states
pub record TallyOf (b : List ℕ) (at count : ℕ) (t : Tally) : Type 0 where
  pub contested : t.contested + of_state contested (left_from b (at + record_size * count)) ≡ of_state contested (left_from b at)
  pub withdrawn : t.withdrawn + of_state withdrawn (left_from b (at + record_size * count)) ≡ of_state withdrawn (left_from b at)
  pub all : t.live + (t.contested + t.withdrawn) ≡ count

-- The counts of a page

-- where the count of a member's calls in a state lies
abbrev pub state_place : ℕ → ℕ → ℕ
state_place m s = tab_place m + (4 + 2 * s)

-- a member of the 64, and one of the three states
pub record Counted (m s : ℕ) : Type 0 where
  pub member : (1 ≤ m) × (m ≤ most_participant)
  pub state : s ≤ 2

-- the count of a member's calls in a state, as a page has it
abbrev pub count_on : List ℕ → ℕ → ℕ → ℕ
count_on page m s = le_at page (state_place m s) 2

-- a call of member n in state t, where the calls of member m in state s are counted
unfoldable pub hit : ℕ → ℕ → ℕ → ℕ → ℕ
hit n t m s = cond (eqb n m) (cond (eqb t s) 1 0) 0

unfoldable pub nowhere : ℕ → ℕ → ℕ
nowhere m s = 0

-- each count is by so much less and so much more than before, and the bytes behind the page stay
pub record Recounted (page : List ℕ) (less more : ℕ → ℕ → ℕ) (after : List ℕ) : Type 0 where
  pub counts : (m s : ℕ) → Counted m s → count_on after m s + less m s ≡ count_on page m s + more m s
  pub behind : drop page_size after ≡ drop page_size page
  pub long : length after ≡ length page

-- the tab of a member whose three counts stand, with the calls of the members below it, and all calls
unfoldable pub retab : ℕ → ℕ → Tab → Tab
retab below all t =
    record {
      index = index_for (t.live + t.contested + t.withdrawn) below all;
      count = t.live + t.contested + t.withdrawn;
      live = t.live;
      contested = t.contested;
      withdrawn = t.withdrawn;
    }

-- how many calls a member has by its three counts
unfoldable pub states_on : List ℕ → ℕ → ℕ
states_on page m = (tabs_on page m).live + (tabs_on page m).contested + (tabs_on page m).withdrawn

-- each member's tab by the three counts of all members
unfoldable pub retabs : List ℕ → ℕ → ℕ → Tab
retabs page all m = retab (sum_to (states_on page) (m - 1)) all (tabs_on page m)

-- Two books side by side

-- the record at a place is there, and its key is below another, or is it
unfoldable pub is_below : List ℕ → ℕ → ℕ → Bool
is_below b at k = ltb at (length b) && ltb (call_key (call_at b at)) k

unfoldable pub is_at : List ℕ → ℕ → ℕ → Bool
is_at b at k = ltb at (length b) && eqb (call_key (call_at b at)) k

-- from a place on, the first record whose key is not below another, or the book's end
pub record Sought (b : List ℕ) (from k at : ℕ) : Type 0 where
  pub read : ReadTo b at
  pub same : (j : ℕ) → k ≤ j → record_of j (left_from b from) ≡ record_of j (left_from b at)
  pub ended : is_below b at k ≡ false

-- a member's calls lie from a place up to an end, and behind it there is none of a member below the next
pub record RunTo (b : List ℕ) (m at end : ℕ) : Type 0 where
  pub coming : Coming b m at
  pub ends : end ≡ at + record_size * length (own_of m (left_from b at))

-- as a page has it
pub record RunOn (page : List ℕ) (m : ℕ) (r : Run) : Type 0 where
  pub at : r.at ≡ place_of (tabs_on page m).index
  pub end : r.end ≡ r.at + record_size * (tabs_on page m).count

-- the place that a search comes to, whether the key lies there or not
abbrev pub found_at : Result ℕ ℕ → ℕ
found_at (Ok at) = at
found_at (Err at) = at

-- the place of an incoming call's key among its member's
pub record FoundIn (first : List ℕ) (from end : ℕ) (y : Call) (at : ℕ) (is_there : Bool) : Type 0 where
  pub run : RunTo first y.participant at end
  pub sought : Sought first from (call_key y) at
  pub known : is_there ≡ is_at first at (call_key y)

-- an incoming record of a member, and the places between which the first book's of that member lie, from which on a record of its key lies, if there is one
pub record Meeting (first : List ℕ) (from end : ℕ) (second : List ℕ) (b member : ℕ) : Type 0 where
  pub run : RunTo first member from end
  pub in_second : ReadTo second b
  pub there : b < length second
  pub second_within : CallsWithin (header_minutes (header_at second)) (left_from second b)
  pub is : member ≡ (call_at second b).participant
  pub same : record_of (call_key (call_at second b)) (calls_of first) ≡ record_of (call_key (call_at second b)) (left_from first from)

-- from a place on, the place behind an incoming call's key
pub record Passed (first : List ℕ) (from end : ℕ) (y : Call) (at : ℕ) : Type 0 where
  pub run : RunTo first y.participant at end
  pub same : (j : ℕ) → call_key y < j → record_of j (left_from first from) ≡ record_of j (left_from first at)

-- an incoming record, and the place in the first book from which on a record of its key lies, if there is one
pub record Facing (first : List ℕ) (a : ℕ) (second : List ℕ) (b : ℕ) : Type 0 where
  pub in_first : ReadTo first a
  pub in_second : ReadTo second b
  pub there : b < length second
  pub first_within : CallsWithin (header_minutes (header_at first)) (left_from first a)
  pub second_within : CallsWithin (header_minutes (header_at second)) (left_from second b)
  pub same : record_of (call_key (call_at second b)) (calls_of first) ≡ record_of (call_key (call_at second b)) (left_from first a)
  pub ended : is_below first a (call_key (call_at second b)) ≡ false

-- what an incoming call takes from each count, and what it adds
unfoldable pub lost : List Call → Call → ℕ → ℕ → ℕ
lost xs y m s = of_state s (own_of m (also (record_of (call_key y) xs) []))

unfoldable pub gained : List Call → Call → ℕ → ℕ → ℕ
gained xs y m s = of_state s (own_of m (stands_against (record_of (call_key y) xs) y ∷ []))

-- each count has what is taken from it, and room for one more
pub record Able (page : List ℕ) (less : ℕ → ℕ → ℕ) : Type 0 where
  pub long : page_size ≤ length page
  pub enough : (m s : ℕ) → Counted m s → less m s ≤ count_on page m s
  pub roomy : (m s : ℕ) → Counted m s → count_on page m s < 65535

-- the counts of a page are those of a book's calls
pub record CountsOf (page : List ℕ) (cs : List Call) : Type 0 where
  pub long : page_size ≤ length page
  pub is : (m s : ℕ) → Counted m s → count_on page m s ≡ of_state s (own_of m cs)

-- the counts of a page so far, where the second book is read up to a place: what is left of it is still to be taken and to be added
pub record Midway (first second : List ℕ) (b : ℕ) (mid : List ℕ) : Type 0 where
  pub in_second : ReadTo second b
  pub counts : (m s : ℕ) → Counted m s
      → count_on mid m s + of_state s (own_of m (settled (calls_of first) (left_from second b)))
      ≡ of_state s (own_of m (join_calls (calls_of first) (calls_of second))) + of_state s (own_of m (replaced (calls_of first) (left_from second b)))
  pub enough : (m s : ℕ) → of_state s (own_of m (settled (calls_of first) (left_from second b))) ≤ of_state s (own_of m (join_calls (calls_of first) (calls_of second)))
  pub long : page_size ≤ length mid

-- the counts brought forward, and the bytes behind the page stay
pub record Forwarded (page : List ℕ) (xs ys : List Call) (after : List ℕ) : Type 0 where
  pub counts : (m s : ℕ) → Counted m s → count_on after m s ≡ forward_state (count_on page m s) xs ys m s
  pub behind : drop page_size after ≡ drop page_size page
  pub long : length after ≡ length page

-- sound books of one month and area, a page that fits and room for the new one: 8, 9, or the joined book and its page
unfoldable pub join_fitting : List ℕ → List ℕ → List ℕ → List ℕ → List ℕ → JoinTabsOutcome
join_fitting first given second out page =
    cond (passes (overflow (keys_of_both first second) (length out))) (join_tabs_wrote first given second out page)
    (join_tabs_refused (overflow (keys_of_both first second) (length out)) out page)
