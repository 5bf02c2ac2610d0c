-- Two outcomes that a contract allows are one; a refusal changes nothing; and with a page the join is the plain one. Assumes nothing.
use mathlib.Core.Path.{◌≡◌, refl, sym, ◌∙◌, ap}
use mathlib.Core.Bool.{Bool, true, false}
use mathlib.Core.Logic.{◌≢◌}
use mathlib.Core.List.{List}
use Prim.Native.Nat.{ℕ, ◌≤◌}
use native.Mathlib.Omega.{arith}
use native.Mathlib.Decide.{dec_le, ℕ_discrete}
use lib.ListN.{length}
use Rattle.book.specs.declared.Verdict.{Verdict}
use Rattle.book.specs.Book.{most_keys, size_of, header_at, calls_of}
use Rattle.book.specs.Check.{refused, accepted, check}
use Rattle.book.proofs.Judged.{zero_accepted}
use Rattle.pair.specs.Screening.{IsAccepted, both_sound, same_month, screen}
use Rattle.pair.proofs.Screening.{passed_both, screen_both, screen_month, screen_passes}
use Rattle.join.specs.declared.Joined.{Joined}
use Rattle.join.specs.Joining.{JoinOutcome, keys_of_both, joining}
use Rattle.join.proofs.WaysOut.{over_many, over_short, refuse_screened, refuse_over, joins_both}
use Rattle.tabs.specs.Tabs.{page_size, first_unfit}
use Rattle.tabs.specs.Outcome.{TabsOutcome, tabs_outcome, tabling, JoinTabsOutcome, join_tabs_outcome, join_tabs_refused, join_tabs_wrote, screen_tabs, joining_tabs}
use Rattle.tabs.proofs.WaysOut.{
  table_book,
  table_short,
  table_made,
  screen_books,
  screen_seven,
  screen_none,
  zero_screened,
  rooms_many,
  rooms_out,
  rooms_page,
  rooms_none,
  refuse_screen,
  refuse_rooms,
  writes_both,
}

-- the page of a book: number, place and every byte
pub tabs_determined : (book before : List ℕ) (r s : Verdict) (after again : List ℕ)
    → tabs_outcome r after ≡ tabling book before → tabs_outcome s again ≡ tabling book before → (r ≡ s) × (after ≡ again)
tabs_determined book before r s after again e f =
    let g = e ∙ sym f in
    (λ i. record { number = (g i).number; place = (g i).place }, ap (λ (x : TabsOutcome). x.page) g)

-- the join with a page: number, place, length and turns, and every byte of both outputs
pub join_tabs_determined : (first given second out page : List ℕ) (r s : Joined) (after again sheet other : List ℕ)
    → join_tabs_outcome r after sheet ≡ joining_tabs first given second out page → join_tabs_outcome s again other ≡ joining_tabs first given second out page
    → (r ≡ s) × (after ≡ again) × (sheet ≡ other)
join_tabs_determined first given second out page r s after again sheet other e f =
    let g = e ∙ sym f in (
      λ i. record { number = (g i).number; place = (g i).place; length = (g i).size; turns = (g i).turns },
      ap (λ (x : JoinTabsOutcome). x.out) g,
      ap (λ (x : JoinTabsOutcome). x.page) g,
    )

-- The ways out of a join with a page: one of them is the outcome

module _ (a g b out page : List ℕ) where
  pub data Way : Type 0 where
    screened : ((screen_tabs a g b).number ≡ 0 → ⊥) → join_tabs_refused (screen_tabs a g b) out page ≡ joining_tabs a g b out page → Way
    many : screen_tabs a g b ≡ accepted → join_tabs_refused (refused 8 0) out page ≡ joining_tabs a g b out page → Way
    short : screen_tabs a g b ≡ accepted → join_tabs_refused (refused 9 0) out page ≡ joining_tabs a g b out page → Way
    both : screen_tabs a g b ≡ accepted → keys_of_both a b ≤ most_keys → size_of (keys_of_both a b) ≤ length out → page_size ≤ length page
        → join_tabs_wrote a g b out page ≡ joining_tabs a g b out page → Way

  pub way : Way
  way = go (ℕ_discrete (screen_tabs a g b).number 0) (dec_le n most_keys) (dec_le (size_of n) (length out)) (dec_le page_size (length page))
    where
      n : ℕ
      n = keys_of_both a b

      go : Dec ((screen_tabs a g b).number ≡ 0) → Dec (n ≤ most_keys) → Dec (size_of n ≤ length out) → Dec (page_size ≤ length page) → Way
      go (no s) f r p = screened s (refuse_screen a g b out page (screen_tabs a g b) refl s)
      go (yes s) (no f) r p =
          let z = zero_screened a g b s in
          many z (refuse_rooms a g b out page z _ (rooms_many n (length out) (length page) (omega arith)) (λ y. omega arith))
      go (yes s) (yes f) (no r) p =
          let z = zero_screened a g b s in
          short z (refuse_rooms a g b out page z _ (rooms_out n (length out) (length page) f (omega arith)) (λ y. omega arith))
      go (yes s) (yes f) (yes r) (no p) =
          let z = zero_screened a g b s in
          short z (refuse_rooms a g b out page z _ (rooms_page n (length out) (length page) f (omega arith)) (λ y. omega arith))
      go (yes s) (yes f) (yes r) (yes p) =
          let z = zero_screened a g b s in
          both z f r p (writes_both a g b out page z (rooms_none n (length out) (length page) f r p))

-- A refusal changes nothing

pub tabs_kept : (book page : List ℕ) → (tabling book page).number ≢ 0 → (tabling book page).page ≡ page
tabs_kept book page n = go (ℕ_discrete (check book).number 0) (dec_le page_size (length page))
  where
    of : {v : Verdict} → tabs_outcome v page ≡ tabling book page → (tabling book page).page ≡ page
    of e = ap (λ (o : TabsOutcome). o.page) (sym e)

    go : Dec ((check book).number ≡ 0) → Dec (page_size ≤ length page) → (tabling book page).page ≡ page
    go (no z) h = of (table_book book page (check book) refl z)
    go (yes z) (no h) = of (table_short book page (zero_accepted book z) (omega arith))
    go (yes z) (yes h) = absurd (n (ap (λ (o : TabsOutcome). o.number) (sym (table_made book page (zero_accepted book z) h))))

-- no length and no turn is told, and both outputs are as they were
pub record Kept (before sheet : List ℕ) (o : JoinTabsOutcome) : Type 0 where
  pub size : o.size ≡ 0
  pub turns : o.turns ≡ 0
  pub out : o.out ≡ before
  pub page : o.page ≡ sheet

pub join_tabs_kept : (a g b out page : List ℕ) → (joining_tabs a g b out page).number ≢ 0 → Kept out page (joining_tabs a g b out page)
join_tabs_kept a g b out page n = go (way a g b out page)
  where
    of : {v : Verdict} → join_tabs_refused v out page ≡ joining_tabs a g b out page → Kept out page (joining_tabs a g b out page)
    of e =
        record {
          size = ap (λ (o : JoinTabsOutcome). o.size) (sym e);
          turns = ap (λ (o : JoinTabsOutcome). o.turns) (sym e);
          out = ap (λ (o : JoinTabsOutcome). o.out) (sym e);
          page = ap (λ (o : JoinTabsOutcome). o.page) (sym e);
        }

    go : Way a g b out page → Kept out page (joining_tabs a g b out page)
    go (screened s e) = of e
    go (many s e) = of e
    go (short s e) = of e
    go (both s f r p e) = absurd (n (ap (λ (o : JoinTabsOutcome). o.number) (sym e)))

-- The join with a page is the plain join

-- an outcome without its page
abbrev pub alone : JoinTabsOutcome → JoinOutcome
alone o = record { number = o.number; place = o.place; size = o.size; turns = o.turns; out = o.out }

-- With a page that fits and room for a page, number, place, length, turns and book are the plain join's.
pub join_tabs_joins : (a g b out page : List ℕ) → first_unfit g (calls_of a) ≡ 0 → page_size ≤ length page → alone (joining_tabs a g b out page) ≡ joining a b out
join_tabs_joins a g b out page f h = go (ℕ_discrete (both_sound a b).number 0)
  where
    n : ℕ
    n = keys_of_both a b

    left : {o : JoinTabsOutcome} → o ≡ joining_tabs a g b out page → alone (joining_tabs a g b out page) ≡ alone o
    left e = ap (λ (o : JoinTabsOutcome). alone o) (sym e)

    rooms : screen_tabs a g b ≡ accepted → screen a b ≡ accepted → Dec (n ≤ most_keys) → Dec (size_of n ≤ length out) → alone (joining_tabs a g b out page) ≡ joining a b out
    rooms s t (no k) r =
        left (refuse_rooms a g b out page s _ (rooms_many n (length out) (length page) (omega arith)) (λ y. omega arith))
        ∙ refuse_over a b out t _ (over_many n (length out) (omega arith)) (λ y. omega arith)
    rooms s t (yes k) (no r) =
        left (refuse_rooms a g b out page s _ (rooms_out n (length out) (length page) k (omega arith)) (λ y. omega arith))
        ∙ refuse_over a b out t _ (over_short n (length out) k (omega arith)) (λ y. omega arith)
    rooms s t (yes k) (yes r) = left (writes_both a g b out page s (rooms_none n (length out) (length page) k r h)) ∙ joins_both a b out t k r

    month : IsAccepted a → IsAccepted b → (t : Bool) → same_month (header_at a) (header_at b) ≡ t → alone (joining_tabs a g b out page) ≡ joining a b out
    month p q false e =
        left (refuse_screen a g b out page _ (screen_seven a g b p q f e) (λ y. omega arith)) ∙ refuse_screened a b out _ (screen_month a b p q e) (λ y. omega arith)
    month p q true e =
        rooms (sym (screen_none a g b p q f e)) (sym (screen_passes a b p q e)) (dec_le n most_keys) (dec_le (size_of n) (length out))

    go : Dec ((both_sound a b).number ≡ 0) → alone (joining_tabs a g b out page) ≡ joining a b out
    go (no z) =
        left (refuse_screen a g b out page (both_sound a b) (screen_books a g b (both_sound a b) refl z) z)
        ∙ refuse_screened a b out (both_sound a b) (screen_both a b (both_sound a b) refl z) z
    go (yes z) = let p = passed_both a b z in month p.0 p.1 (same_month (header_at a) (header_at b)) refl
