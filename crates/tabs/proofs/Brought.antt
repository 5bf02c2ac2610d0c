-- A page brought forward is the joined book's own. Assumes nothing.
use mathlib.Core.Path.{◌≡◌, refl, sym, ◌∙◌, ap}
use mathlib.Core.List.{List}
use Prim.Native.Nat.{ℕ, ◌+◌, ◌-◌, ◌≤◌}
use native.Mathlib.Nat.{zero-add}
use native.Mathlib.Omega.{arith}
use native.Mathlib.Decide.{ℕ_discrete}
use lib.ListN.{length, take, drop}
use lib.Seq.{sets, length-take-le}
use Rattle.le.specs.Le.{le_at, IsBytes, Stores}
use Rattle.call.specs.declared.Call.{Call}
use Rattle.call.specs.Revising.{live, contested, withdrawn}
use Rattle.call.specs.Services.{most_participant}
use Rattle.book.specs.Book.{header_at, calls_of}
use Rattle.book.specs.Check.{header_minutes}
use Rattle.rule.specs.Joined.{join_calls}
use Rattle.rule.proofs.Bounds.{Calls, join_sound_lem}
use Rattle.pair.specs.Screening.{IsAccepted}
use Rattle.join.proofs.Books.{keys_rise}
use Rattle.join.proofs.Taken.{all_left, from_start}
use Rattle.tabs.specs.declared.Tab.{Tab}
use Rattle.tabs.specs.Tabs.{page_size, own_of, of_state, tabs_of, tab_at, tabs_on, page_bytes, own_page, first_unfit}
use Rattle.tabs.specs.Forward.{forward_state, sum_to, brought_forward}
use Rattle.tabs.specs.Outcome.{forward_page}
use Rattle.tabs.specs.Inner.{Counted, count_on, state_place, index_for, retab, states_on, retabs, CountsOf, Forwarded}
use Rattle.tabs.proofs.Members.{index_is, states_add_up}
use Rattle.tabs.proofs.Walking.{for_none, for_some}
use Rattle.tabs.proofs.Fresh.{sum_upto, state_is, forward_is_fresh, forward_same}
use Rattle.tabs.proofs.Pages.{tab_path, length_tabs, tabs_same, sets_over}
use Rattle.tabs.proofs.Stored.{on, in_front, drop_beside}
use Rattle.tabs.proofs.Bringing.{within_left}
use Rattle.tabs.proofs.Fits.{fits_is, fits_each}
use Rattle.tabs.proofs.Pages.{length_stored}

pub book_calls : (b : List ℕ) → IsBytes b → IsAccepted b → Calls (header_minutes (header_at b)) (calls_of b)
book_calls b small p = record { within = rw (all_left b) (within_left small (from_start b p)); rises = keys_rise b p }

-- the three counts of a tab, by their states
module _ (page : List ℕ) (m : ℕ) where
  live_on : count_on page m live ≡ (tabs_on page m).live
  unfolding tab_at
  live_on = refl

  contested_on : count_on page m contested ≡ (tabs_on page m).contested
  unfolding tab_at
  contested_on = refl

  withdrawn_on : count_on page m withdrawn ≡ (tabs_on page m).withdrawn
  unfolding tab_at
  withdrawn_on = refl

data State (s : ℕ) : Type 0 where
  is_live : s ≡ live → State s
  is_contested_lem : s ≡ contested → State s
  is_withdrawn_lem : s ≡ withdrawn → State s

state : (s : ℕ) → s ≤ 2 → State s
state s h = go (ℕ_discrete s 0) (ℕ_discrete s 1)
  where
    go : Dec (s ≡ 0) → Dec (s ≡ 1) → State s
    go (yes e) q = is_live e
    go (no e) (yes f) = is_contested_lem f
    go (no e) (no f) = is_withdrawn_lem (omega arith)

-- a page that fits has the counts of the book's calls
module _ (given : List ℕ) (cs : List Call) (z : first_unfit given cs ≡ 0) where
  pub own_tab : (m : ℕ) → 1 ≤ m → m ≤ most_participant → tabs_on given m ≡ tabs_of cs m
  own_tab m h l = (fits_is given cs m (fits_each given cs z m h l)).1

  pub given_long : page_size ≤ length given
  given_long = (fits_is given cs 64 (fits_each given cs z 64 (omega arith) (omega arith))).0

  own_count_lem : (m s : ℕ) → Counted m s → count_on given m s ≡ of_state s (own_of m cs)
  unfolding tabs_of
  own_count_lem m s c = go (state s c.state)
    where
      e : tabs_on given m ≡ tabs_of cs m
      e = own_tab m c.member.0 c.member.1

      go : State s → count_on given m s ≡ of_state s (own_of m cs)
      go (is_live f) = rw f (live_on given m ∙ ap (λ (t : Tab). t.live) e)
      go (is_contested_lem f) = rw f (contested_on given m ∙ ap (λ (t : Tab). t.contested) e)
      go (is_withdrawn_lem f) = rw f (withdrawn_on given m ∙ ap (λ (t : Tab). t.withdrawn) e)

  pub counts_copied : {page mid : List ℕ} → page_size ≤ length page → Stores page 0 (take page_size given) mid → CountsOf mid cs
  counts_copied {page} {mid} h s =
      let n : length (take page_size given) ≡ page_size = length-take-le page_size given given_long in
      record {
        long = omega (arith, length_stored s);
        is = λ m t c.
            let p = c.member in
            let q = c.state in
            ap (λ (l : List ℕ). le_at l (state_place m t) 2) s.is
            ∙ ap (λ (k : ℕ). le_at (sets page 0 (take page_size given)) k 2) (sym (zero-add (state_place m t)))
            ∙ on 2 (take page_size given) page 0 (state_place m t) (omega arith) (omega arith)
            ∙ in_front 2 page_size given (state_place m t) (omega arith)
            ∙ own_count_lem m t c;
      }

-- Brought forward from a page that fits, it is the page of the joined calls.
pub forward_own : (n : ℕ) (first second given : List ℕ) → Calls n (calls_of first) → Calls n (calls_of second) → first_unfit given (calls_of first) ≡ 0
    → forward_page first given second ≡ own_page (join_calls (calls_of first) (calls_of second))
forward_own n first second given p q z =
    tabs_same (brought_forward (tabs_on given) (calls_of first) (calls_of second)) (tabs_of (join_calls (calls_of first) (calls_of second))) most_participant
    (λ m l k.
    forward_same (calls_of first) (calls_of second) (tabs_on given) (tabs_of (calls_of first)) (own_tab given (calls_of first) z) m l k
    ∙ forward_is_fresh n (calls_of first) (calls_of second) p q m l k)

module _ (first second : List ℕ) (small_first : IsBytes first) (small_second : IsBytes second) (p : IsAccepted first) (q : IsAccepted second)
    (h : header_at first ≡ header_at second) where
  first_calls : Calls (header_minutes (header_at first)) (calls_of first)
  first_calls = book_calls first small_first p

  second_calls : Calls (header_minutes (header_at first)) (calls_of second)
  second_calls = rw h (book_calls second small_second q)

  both-calls : Calls (header_minutes (header_at first)) (join_calls (calls_of first) (calls_of second))
  both-calls = join_sound_lem (header_minutes (header_at first)) (calls_of first) (calls_of second) first_calls second_calls

  -- the counts of the page that the code has brought forward
  module _ {mid after : List ℕ} (o : CountsOf mid (calls_of first)) (f : Forwarded mid (calls_of first) (calls_of second) after) where
    count-after : (m s : ℕ) → Counted m s → count_on after m s ≡ of_state s (own_of m (join_calls (calls_of first) (calls_of second)))
    count-after m s c =
        f.counts m s c ∙ ap (λ (k : ℕ). forward_state k (calls_of first) (calls_of second) m s) (o.is m s c)
        ∙ state_is (header_minutes (header_at first)) (calls_of first) (calls_of second) first_calls second_calls m s

    module _ (m : ℕ) (l : 1 ≤ m) (k : m ≤ most_participant) where
      live-is : (tabs_on after m).live ≡ (tabs_of (join_calls (calls_of first) (calls_of second)) m).live
      unfolding tabs_of
      live-is = sym (live_on after m) ∙ count-after m live (record { member = (l, k); state = omega arith })

      contested-is : (tabs_on after m).contested ≡ (tabs_of (join_calls (calls_of first) (calls_of second)) m).contested
      unfolding tabs_of
      contested-is = sym (contested_on after m) ∙ count-after m contested (record { member = (l, k); state = omega arith })

      withdrawn-is : (tabs_on after m).withdrawn ≡ (tabs_of (join_calls (calls_of first) (calls_of second)) m).withdrawn
      unfolding tabs_of
      withdrawn-is = sym (withdrawn_on after m) ∙ count-after m withdrawn (record { member = (l, k); state = omega arith })

      sum_is : (tabs_on after m).live + (tabs_on after m).contested + (tabs_on after m).withdrawn ≡ (tabs_of (join_calls (calls_of first) (calls_of second)) m).count
      sum_is =
          let x = live-is in
          let y = contested-is in
          let z = withdrawn-is in
          omega (arith, (states_add_up (header_minutes (header_at first)) (join_calls (calls_of first) (calls_of second)) both-calls.within both-calls.rises).0 m)

      states-is : states_on after m ≡ (tabs_of (join_calls (calls_of first) (calls_of second)) m).count
      unfolding states_on
      states-is = sum_is

    abbrev counts : ℕ → ℕ
    counts m = (tabs_of (join_calls (calls_of first) (calls_of second)) m).count

    pub total : sum_to (states_on after) most_participant ≡ length (join_calls (calls_of first) (calls_of second))
    total =
        sum_upto (states_on after) counts most_participant states-is
        ∙ (states_add_up (header_minutes (header_at first)) (join_calls (calls_of first) (calls_of second)) both-calls.within both-calls.rises).1

    retab-own : (all m : ℕ) → all ≡ length (join_calls (calls_of first) (calls_of second)) → 1 ≤ m → m ≤ most_participant
        → retabs after all m ≡ tabs_of (join_calls (calls_of first) (calls_of second)) m
    unfolding retabs retab
    retab-own all m e l k = tab_path (index (ℕ_discrete (counts m) 0)) (sum_is m l k) (live-is m l k) (contested-is m l k) (withdrawn-is m l k)
      where
        at : (1 ≤ counts m → (tabs_of (join_calls (calls_of first) (calls_of second)) m).index ≡ sum_to counts (m - 1))
            × (counts m ≡ 0 → (tabs_of (join_calls (calls_of first) (calls_of second)) m).index ≡ length (join_calls (calls_of first) (calls_of second)))
        at = index_is (header_minutes (header_at first)) (join_calls (calls_of first) (calls_of second)) both-calls.within both-calls.rises m l

        n : ℕ
        n = (tabs_on after m).live + (tabs_on after m).contested + (tabs_on after m).withdrawn

        below : ℕ
        below = sum_to (states_on after) (m - 1)

        positive : (j : ℕ) → (j ≡ 0 → ⊥) → 1 ≤ j
        positive j h = omega arith

        index : Dec (counts m ≡ 0) → index_for n below all ≡ (tabs_of (join_calls (calls_of first) (calls_of second)) m).index
        index (yes z) = for_none n below all (sum_is m l k ∙ z) ∙ e ∙ sym (at.1 z)
        index (no z) =
            for_some n below all (λ y. z (sym (sum_is m l k) ∙ y))
            ∙ sum_upto (states_on after) counts (m - 1) (λ j a b. states-is j a (omega arith))
            ∙ sym (at.0 (positive (counts m) z))

    pub page-own : (all : ℕ) → all ≡ length (join_calls (calls_of first) (calls_of second)) → page_bytes (retabs after all) ≡ own_page (join_calls (calls_of first) (calls_of second))
    page-own all e = tabs_same (retabs after all) (tabs_of (join_calls (calls_of first) (calls_of second))) most_participant (λ m l k. retab-own all m e l k)

  -- the three passes together
  pub passes-three : (given : List ℕ) {page mid after last : List ℕ} {all : ℕ} → first_unfit given (calls_of first) ≡ 0 → all ≡ length (join_calls (calls_of first) (calls_of second))
      → page_size ≤ length page → Stores page 0 (take page_size given) mid → Forwarded mid (calls_of first) (calls_of second) after
      → Stores after 0 (page_bytes (retabs after all)) last → Stores page 0 (forward_page first given second) last
  passes-three given {page} {mid} {after} {last} {all} z e long s f t =
      let o = counts_copied given (calls_of first) z long s in
      let same : page_bytes (retabs after all) ≡ forward_page first given second =
      page-own o f all e ∙ sym (forward_own (header_minutes (header_at first)) first second given first_calls second_calls z) in
      let n : length (take page_size given) ≡ page_size = length-take-le page_size given (given_long given (calls_of first) z) in
      let d : drop page_size after ≡ drop page_size page =
      f.behind ∙ ap (drop page_size) s.is ∙ drop_beside (take page_size given) page 0 page_size (omega arith) in
      let l : length after ≡ length page = f.long ∙ length_stored s in
      record {
        is =
            t.is ∙ ap (sets after 0) same
            ∙ sets_over (forward_page first given second) after page page_size (length_tabs _ most_participant) (omega arith) l d;
      }
