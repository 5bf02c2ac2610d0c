-- The ways out of the operations: a refusal, in the order of the definitions, or what is written. Assumes nothing.
use mathlib.Core.Path.{◌≡◌, refl, sym, ◌∙◌, ap}
use mathlib.Core.Bool.{Bool, true, false}
use mathlib.Core.List.{List}
use Prim.Native.Nat.{ℕ, ◌<◌, ◌≤◌}
use native.Mathlib.Omega.{arith}
use native.Mathlib.Decide.{dec_le, ℕ_discrete}
use lib.ListN.{length}
use borrow.Author.Tests.{ne_eqb, lt-ltb, le-ltb}
use Rattle.book.specs.declared.Verdict.{Verdict}
use Rattle.book.specs.Book.{most_keys, size_of, header_at, calls_of}
use Rattle.book.specs.Check.{refused, accepted, check}
use Rattle.pair.specs.Screening.{IsAccepted, both_sound, same_month}
use Rattle.pair.proofs.Screening.{both_pass, passed_both}
use Rattle.join.specs.declared.Joined.{Joined}
use Rattle.join.specs.Turns.{ran}
use Rattle.join.specs.Joining.{JoinOutcome, join_outcome, join_refused, join_wrote, keys_of_both, overflow, joined_book, join_sound}
use Rattle.join.proofs.WaysOut.{over_many, over_short, over_none, never_over, refuse_sound, joins_sound}
use Rattle.join.proofs.Books.{keys_rise}
use Rattle.join.proofs.Taken.{ran_turns}
use Rattle.tabs.specs.Tabs.{page_size, own_page, first_unfit}
use Rattle.tabs.specs.Outcome.{tabs_outcome, laid_over, tabs_fault, tabling, fitting}
use Rattle.tabs.specs.Outcome.{JoinTabsOutcome, join_tabs_outcome, join_tabs_refused, join_tabs_wrote, forward_page, screen_tabs, rooms_fault, join_tabs_fault, joining_tabs}
use Rattle.tabs.specs.Inner.{join_fitting}

-- The page of a book afresh

module _ (book page : List ℕ) where
  pub table_book : (v : Verdict) → v ≡ check book → (v.number ≡ 0 → ⊥) → tabs_outcome v page ≡ tabling book page
  unfolding tabling tabs_fault
  table_book v e z = rw (← e, ne_eqb v.number 0 z) (rw (ne_eqb v.number 0 z) refl)

  pub table_short : IsAccepted book → length page < page_size → tabs_outcome (refused 9 0) page ≡ tabling book page
  unfolding tabling tabs_fault
  table_short p h = rw (p, lt-ltb (length page) page_size h) refl

  pub table_made : IsAccepted book → page_size ≤ length page → tabs_outcome accepted (laid_over (own_page (calls_of book)) page) ≡ tabling book page
  unfolding tabling tabs_fault
  table_made p h = rw (p, le-ltb (length page) page_size h) refl

-- Whether a page fits

module _ (book page : List ℕ) where
  pub fitting_book : (v : Verdict) → v ≡ check book → (v.number ≡ 0 → ⊥) → v ≡ fitting book page
  unfolding fitting
  fitting_book v e z = rw (← e, ne_eqb v.number 0 z) refl

  module _ (p : IsAccepted book) where
    pub fitting_ten : (m : ℕ) → m ≡ first_unfit page (calls_of book) → (m ≡ 0 → ⊥) → refused 10 m ≡ fitting book page
    unfolding fitting
    fitting_ten m e z = rw (p, ← e, ne_eqb m 0 z) refl

    pub fitting_none : first_unfit page (calls_of book) ≡ 0 → accepted ≡ fitting book page
    unfolding fitting
    fitting_none f = rw (p, f) refl

-- The refusals before a look at what the join gives

module _ (a g b : List ℕ) where
  pub screen_books : (v : Verdict) → v ≡ both_sound a b → (v.number ≡ 0 → ⊥) → v ≡ screen_tabs a g b
  unfolding screen_tabs
  screen_books v e z = rw (← e, ne_eqb v.number 0 z) refl

  module _ (p : IsAccepted a) (q : IsAccepted b) where
    pub screen_ten : (m : ℕ) → m ≡ first_unfit g (calls_of a) → (m ≡ 0 → ⊥) → refused 10 m ≡ screen_tabs a g b
    unfolding screen_tabs
    screen_ten m e z = rw (← both_pass a b p q, ← e, ne_eqb m 0 z) refl

    module _ (f : first_unfit g (calls_of a) ≡ 0) where
      pub screen_seven : same_month (header_at a) (header_at b) ≡ false → refused 7 0 ≡ screen_tabs a g b
      unfolding screen_tabs
      screen_seven e = rw (← both_pass a b p q, f, e) refl

      pub screen_none : same_month (header_at a) (header_at b) ≡ true → accepted ≡ screen_tabs a g b
      unfolding screen_tabs
      screen_none e = rw (← both_pass a b p q, f, e) refl

-- what a passed screen says
pub record Screened (a g b : List ℕ) : Type 0 where
  pub first : IsAccepted a
  pub second : IsAccepted b
  pub fits : first_unfit g (calls_of a) ≡ 0
  pub month : same_month (header_at a) (header_at b) ≡ true

number_of_lem : {v w : Verdict} → v ≡ w → v.number ≡ w.number
number_of_lem e = ap (λ (x : Verdict). x.number) e

pub passed_screen : (a g b : List ℕ) → (screen_tabs a g b).number ≡ 0 → Screened a g b
passed_screen a g b z = go (ℕ_discrete (both_sound a b).number 0)
  where
    month : IsAccepted a → IsAccepted b → first_unfit g (calls_of a) ≡ 0 → (t : Bool) → same_month (header_at a) (header_at b) ≡ t → Screened a g b
    month p q f false e = absurd (let k : 7 ≡ 0 = number_of_lem (screen_seven a g b p q f e) ∙ z in omega arith)
    month p q f true e = record { first = p; second = q; fits = f; month = e }

    fit : IsAccepted a → IsAccepted b → Dec (first_unfit g (calls_of a) ≡ 0) → Screened a g b
    fit p q (no f) = absurd (let k : 10 ≡ 0 = number_of_lem (screen_ten a g b p q _ refl f) ∙ z in omega arith)
    fit p q (yes f) = month p q f (same_month (header_at a) (header_at b)) refl

    go : Dec ((both_sound a b).number ≡ 0) → Screened a g b
    go (no n) = absurd (n (number_of_lem (screen_books a g b (both_sound a b) refl n) ∙ z))
    go (yes n) = let p = passed_both a b n in fit p.0 p.1 (ℕ_discrete (first_unfit g (calls_of a)) 0)

pub zero_screened : (a g b : List ℕ) → (screen_tabs a g b).number ≡ 0 → screen_tabs a g b ≡ accepted
zero_screened a g b z = let s = passed_screen a g b z in sym (screen_none a g b s.first s.second s.fits s.month)

-- 8, and 9 of either output

module _ (keys room page_room : ℕ) where
  pub rooms_many : most_keys < keys → refused 8 0 ≡ rooms_fault keys room page_room
  unfolding rooms_fault
  rooms_many h = rw (sym (over_many keys room h)) refl

  module _ (f : keys ≤ most_keys) where
    pub rooms_out : room < size_of keys → refused 9 0 ≡ rooms_fault keys room page_room
    unfolding rooms_fault
    rooms_out h = rw (sym (over_short keys room f h)) refl

    rooms_only : page_room < page_size → size_of keys ≤ room → refused 9 0 ≡ rooms_fault keys room page_room
    unfolding rooms_fault
    rooms_only h r = rw (sym (over_none keys room f r), lt-ltb page_room page_size h) refl

    pub rooms_page : page_room < page_size → refused 9 0 ≡ rooms_fault keys room page_room
    rooms_page h = go (dec_le (size_of keys) room)
      where
        go : Dec (size_of keys ≤ room) → refused 9 0 ≡ rooms_fault keys room page_room
        go (yes r) = rooms_only h r
        go (no r) = rooms_out (omega arith)

    pub rooms_none : size_of keys ≤ room → page_size ≤ page_room → accepted ≡ rooms_fault keys room page_room
    unfolding rooms_fault
    rooms_none r h = rw (sym (over_none keys room f r), le-ltb page_room page_size h) refl

  -- without room for the page, 8 or 9 as of an output of no bytes
  pub rooms_short : page_room < page_size → overflow keys 0 ≡ rooms_fault keys room page_room
  rooms_short h = go (dec_le keys most_keys)
    where
      go : Dec (keys ≤ most_keys) → overflow keys 0 ≡ rooms_fault keys room page_room
      go (yes f) = sym (over_short keys 0 f (omega arith)) ∙ rooms_page f h
      go (no f) = sym (over_many keys 0 (omega arith)) ∙ rooms_many (omega arith)

  -- with it, as of the book's output alone
  pub rooms_long : page_size ≤ page_room → overflow keys room ≡ rooms_fault keys room page_room
  rooms_long h = go (dec_le keys most_keys) (dec_le (size_of keys) room)
    where
      go : Dec (keys ≤ most_keys) → Dec (size_of keys ≤ room) → overflow keys room ≡ rooms_fault keys room page_room
      go (no f) r = sym (over_many keys room (omega arith)) ∙ rooms_many (omega arith)
      go (yes f) (no r) = sym (over_short keys room f (omega arith)) ∙ rooms_out f (omega arith)
      go (yes f) (yes r) = sym (over_none keys room f r) ∙ rooms_none f r h

-- no such refusal has number 0
pub never_nought : (keys : ℕ) → (overflow keys 0).number ≡ 0 → ⊥
never_nought keys z = let n = never_over keys 0 z in let r = n.1 in omega arith

-- The join with a page

module _ (a g b out page : List ℕ) where
  pub refuse_screen : (v : Verdict) → v ≡ screen_tabs a g b → (v.number ≡ 0 → ⊥) → join_tabs_refused v out page ≡ joining_tabs a g b out page
  unfolding joining_tabs join_tabs_fault
  refuse_screen v e z = rw (← e, ne_eqb v.number 0 z) (rw (ne_eqb v.number 0 z) refl)

  module _ (s : screen_tabs a g b ≡ accepted) where
    fault_is : join_tabs_fault a g b (length out) (length page) ≡ rooms_fault (keys_of_both a b) (length out) (length page)
    unfolding join_tabs_fault
    fault_is = rw s refl

    pub refuse_rooms : (v : Verdict) → v ≡ rooms_fault (keys_of_both a b) (length out) (length page) → (v.number ≡ 0 → ⊥) → join_tabs_refused v out page ≡ joining_tabs a g b out page
    unfolding joining_tabs
    refuse_rooms v e z = rw (fault_is, ← e, ne_eqb v.number 0 z) refl

    pub writes_both : accepted ≡ rooms_fault (keys_of_both a b) (length out) (length page) → join_tabs_wrote a g b out page ≡ joining_tabs a g b out page
    unfolding joining_tabs
    writes_both e = rw (fault_is, ← e) refl

    pub goes_on_lem : page_size ≤ length page → join_fitting a g b out page ≡ joining_tabs a g b out page
    unfolding joining_tabs join_fitting
    goes_on_lem h = rw (fault_is, ← rooms_long (keys_of_both a b) (length out) (length page) h) refl

-- Sound books of one month and area, a page that fits, and room for the new one

module _ (a b out : List ℕ) where
  -- an accepted one: there are no more keys than any book has, and as many turns as keys
  pub joined_keys : (r : Joined) (after : List ℕ) → join_outcome r after ≡ join_sound a b out → r.number ≡ 0
      → (keys_of_both a b ≤ most_keys) × (size_of (keys_of_both a b) ≤ length out) × (join_outcome r after ≡ join_wrote (joined_book a b) (ran a b out).turns out)
  joined_keys r after e z = go (ℕ_discrete (overflow (keys_of_both a b) (length out)).number 0)
    where
      go : Dec ((overflow (keys_of_both a b) (length out)).number ≡ 0)
          → (keys_of_both a b ≤ most_keys) × (size_of (keys_of_both a b) ≤ length out) × (join_outcome r after ≡ join_wrote (joined_book a b) (ran a b out).turns out)
      go (no n) = absurd (n (ap (λ (o : JoinOutcome). o.number) (refuse_sound a b out _ refl n ∙ sym e) ∙ z))
      go (yes n) = let f = never_over (keys_of_both a b) (length out) n in (f.0, f.1, e ∙ sym (joins_sound a b out f.0 f.1))

  pub joined_turns : IsAccepted a → IsAccepted b → (r : Joined) (after : List ℕ) → join_outcome r after ≡ join_wrote (joined_book a b) (ran a b out).turns out
      → r.turns ≡ keys_of_both a b
  joined_turns p q r after e = ap (λ (o : JoinOutcome). o.turns) e ∙ ran_turns a b out (keys_rise a p) (keys_rise b q)

module _ (a g b out page : List ℕ) where
  fitting_refused : (v : Verdict) → v ≡ overflow (keys_of_both a b) (length out) → (v.number ≡ 0 → ⊥) → join_tabs_refused v out page ≡ join_fitting a g b out page
  unfolding join_fitting
  fitting_refused v e z = rw (← e, ne_eqb v.number 0 z) refl

  fitting_wrote : accepted ≡ overflow (keys_of_both a b) (length out) → join_tabs_wrote a g b out page ≡ join_fitting a g b out page
  unfolding join_fitting
  fitting_wrote e = rw (← e) refl

  -- an outcome of the join alone, with a page beside it
  beside : JoinOutcome → List ℕ → JoinTabsOutcome
  beside o p = record { number = o.number; place = o.place; size = o.size; turns = o.turns; out = o.out; page = p }

  pub keeps_page : (r : Joined) (after : List ℕ) → join_outcome r after ≡ join_sound a b out → (r.number ≡ 0 → ⊥) → join_tabs_outcome r after page ≡ join_fitting a g b out page
  unfolding beside
  keeps_page r after e z = go (ℕ_discrete (overflow (keys_of_both a b) (length out)).number 0)
    where
      go : Dec ((overflow (keys_of_both a b) (length out)).number ≡ 0) → join_tabs_outcome r after page ≡ join_fitting a g b out page
      go (no n) = ap (λ (o : JoinOutcome). beside o page) (e ∙ sym (refuse_sound a b out _ refl n)) ∙ fitting_refused _ refl n
      go (yes n) =
          let f = never_over (keys_of_both a b) (length out) n in
          absurd (z (ap (λ (o : JoinOutcome). o.number) (e ∙ sym (joins_sound a b out f.0 f.1))))

  pub writes_page : (r : Joined) (after last : List ℕ) → join_outcome r after ≡ join_sound a b out → r.number ≡ 0 → last ≡ laid_over (forward_page a g b) page
      → join_tabs_outcome r after last ≡ join_fitting a g b out page
  unfolding beside
  writes_page r after last e z l =
      let k = joined_keys a b out r after e z in
      (λ i. beside (k.2 i) (l i)) ∙ fitting_wrote (over_none (keys_of_both a b) (length out) k.0 k.1)

-- a refusal of the join, with both outputs
pub refused_as : (r : Joined) (v : Verdict) → ((out : List ℕ) → join_outcome r out ≡ join_refused v out) → (out page : List ℕ) → join_tabs_outcome r out page ≡ join_tabs_refused v out page
refused_as r v e out page i = record { number = (e out i).number; place = (e out i).place; size = (e out i).size; turns = (e out i).turns; out = (e out i).out; page = page }
