-- Over every tree of joins each node's page is its book's own. Assumes nothing.
use mathlib.Core.Path.{◌≡◌, refl, sym, ◌∙◌, ap}
use mathlib.Core.Bool.{Bool, true, false}
use mathlib.Core.Logic.{◌≢◌}
use mathlib.Core.List.{List, [], ◌++◌, append-nil}
use Prim.Native.Nat.{ℕ, ◌≤◌}
use native.Mathlib.Omega.{arith}
use native.Mathlib.Decide.{ℕ_discrete}
use lib.ListN.{length, take, length-append}
use lib.Seq.{take-length, take_all, take_at}
use borrow.Author.Tests.{eq-eqb, ne_eqb}
use Rattle.le.proofs.Tests.{holds_or_fails}
use Rattle.call.specs.declared.Call.{Call}
use Rattle.call.specs.Services.{most_participant}
use Rattle.book.specs.declared.Verdict.{Verdict}
use Rattle.book.specs.Book.{most_keys, header_at, calls_of}
use Rattle.book.specs.Check.{accepted, header_minutes}
use Rattle.book.specs.Sound.{Sound}
use Rattle.book.proofs.Exact.{sound_accepted}
use Rattle.rule.proofs.Bounds.{Calls}
use Rattle.pair.specs.Screening.{same_month}
use Rattle.join.specs.Joining.{JoinOutcome, joining}
use Rattle.join.specs.Trees.{written}
use Rattle.join.proofs.Trees.{sound_calls_lem}
use Rattle.join.proofs.Accepted.{one_header, joined_sound, reads_joined}
use Rattle.tabs.specs.Tabs.{page_size, tabs_of, own_page, fits_at, first_unfit}
use Rattle.tabs.specs.Outcome.{fitting, JoinTabsOutcome, join_tabs_refused, forward_page, screen_tabs, joining_tabs}
use Rattle.tabs.specs.Trees.{Plan, book, join, written_book, written_page, join_both, result, Sounds}
use Rattle.tabs.proofs.Pages.{length_tabs}
use Rattle.tabs.proofs.Bringing.{all_few}
use Rattle.tabs.proofs.Fits.{Fit, everywhere, lowest, fit_all, is_fits_lem}
use Rattle.tabs.proofs.Reading.{tabs_small, page_back}
use Rattle.tabs.proofs.Brought.{forward_own}
use Rattle.tabs.proofs.WaysOut.{fitting_none, screen_seven, screen_none, passed_screen}
use Rattle.tabs.proofs.Determined.{Way, screened, many, short, both, way, join_tabs_joins}

-- a sound book with its own page
pub record Paged (o : JoinTabsOutcome) : Type 0 where
  pub sound : Sound (written_book o)
  pub own : written_page o ≡ own_page (calls_of (written_book o))

pages_long : (b : List ℕ) → length (own_page (calls_of b)) ≡ page_size
pages_long b = length_tabs (tabs_of (calls_of b)) 64

pub lone_paged : (b : List ℕ) → Sound b → Paged (result (book b))
unfolding result
lone_paged b s =
    let e : take (length b) b ≡ b = take-length b in
    record { sound = rw e s; own = take_all page_size (own_page (calls_of b)) (omega (arith, pages_long b)) ∙ ap (λ (x : List ℕ). own_page (calls_of x)) (sym e) }

-- an accepted join of two sound books leaves a sound book with its own page, whatever page it was given
module _ (a g b out page : List ℕ) (p : Sound a) (q : Sound b) (z : (joining_tabs a g b out page).number ≡ 0) where
  never : {v : Verdict} → join_tabs_refused v out page ≡ joining_tabs a g b out page → v.number ≡ 0
  never e = ap (λ (o : JoinTabsOutcome). o.number) e ∙ z

  pub joined_paged : Paged (joining_tabs a g b out page)
  joined_paged = go (way a g b out page)
    where
      go : Way a g b out page → Paged (joining_tabs a g b out page)
      go (screened s e) = absurd (s (never e))
      go (many s e) = absurd (omega (arith, never e))
      go (short s e) = absurd (omega (arith, never e))
      go (both s f r h e) =
          let k = passed_screen a g b (ap (λ (v : Verdict). v.number) s) in
          let j = join_tabs_joins a g b out page k.fits h in
          let y : (joining a b out).number ≡ 0 = ap (λ (o : JoinOutcome). o.number) (sym j) ∙ z in
          let w : written (joining a b out) ≡ written_book (joining_tabs a g b out page) = ap written (sym j) in
          let m = one_header (header_at a) (header_at b) k.month in
          let c : Calls (header_minutes (header_at a)) (calls_of b) = rw m (sound_calls_lem b q) in
          let l : length (forward_page a g b) ≡ page_size = length_tabs _ 64 in
          record {
            sound = rw w at (joined_sound a b out p q y);
            own =
                ap written_page (sym e)
                ∙ take_at (forward_page a g b) _ page_size l
                ∙ forward_own (header_minutes (header_at a)) a b g (sound_calls_lem a p) c k.fits
                ∙ ap own_page (sym (reads_joined a b out p q y))
                ∙ ap (λ (x : List ℕ). own_page (calls_of x)) w;
          }

-- what two outcomes give: a refusal of either, or their join
module _ (l r : JoinTabsOutcome) (out page : List ℕ) where
  left_refused : l.number ≢ 0 → join_both l r out page ≡ l
  unfolding join_both
  left_refused h = rw (ne_eqb l.number 0 h) refl

  module _ (h : l.number ≡ 0) where
    right_refused : r.number ≢ 0 → join_both l r out page ≡ r
    unfolding join_both
    right_refused k = rw (eq-eqb l.number 0 h, ne_eqb r.number 0 k) refl

    both_join : r.number ≡ 0 → join_both l r out page ≡ joining_tabs (written_book l) (written_page l) (written_book r) out page
    unfolding join_both
    both_join k = rw (eq-eqb l.number 0 h, eq-eqb r.number 0 k) refl

  both_accepted : (join_both l r out page).number ≡ 0 → (l.number ≡ 0) × (r.number ≡ 0)
  both_accepted z = go (ℕ_discrete l.number 0) (ℕ_discrete r.number 0)
    where
      go : Dec (l.number ≡ 0) → Dec (r.number ≡ 0) → (l.number ≡ 0) × (r.number ≡ 0)
      go (no h) k = absurd (h (ap (λ (o : JoinTabsOutcome). o.number) (sym (left_refused h)) ∙ z))
      go (yes h) (no k) = absurd (k (ap (λ (o : JoinTabsOutcome). o.number) (sym (right_refused h k)) ∙ z))
      go (yes h) (yes k) = (h, k)

-- After every join the summary brought forward is the one of the result: over every tree of accepted joins, leaves with their own pages, the page is its book's own.
pub pages_of_a_tree : (p : Plan) → Sounds p → (result p).number ≡ 0 → Paged (result p)
unfolding result
pages_of_a_tree (book b) s z = lone_paged b s
pages_of_a_tree (join l r out page) s z =
    let k = both_accepted (result l) (result r) out page z in
    let x = pages_of_a_tree l s.0 k.0 in
    let y = pages_of_a_tree r s.1 k.1 in
    let e = both_join (result l) (result r) out page k.0 k.1 in
    rw e (joined_paged _ _ _ _ _ x.sound y.sound (ap (λ (o : JoinTabsOutcome). o.number) (sym e) ∙ z))

-- A book's own page fits it, whatever lies behind it
pub own_fits : (cs : List Call) (rest : List ℕ) → length cs ≤ most_keys → first_unfit (own_page cs ++ rest) cs ≡ 0
own_fits cs rest few = go (fit_all (own_page cs ++ rest) cs)
  where
    at : (m : ℕ) → 1 ≤ m → m ≤ most_participant → fits_at (own_page cs ++ rest) cs m ≡ true
    at m h l =
        is_fits_lem (own_page cs ++ rest) cs m (omega (arith, length-append (own_page cs) rest, length_tabs (tabs_of cs) 64))
        (page_back (tabs_of cs) rest m h l (tabs_small cs few m))

    go : Fit (own_page cs ++ rest) cs 1 most_participant (first_unfit (own_page cs ++ rest) cs) → first_unfit (own_page cs ++ rest) cs ≡ 0
    go (everywhere z f) = z
    go (lowest h l f n) = absurd (holds_or_fails (at (first_unfit (own_page cs ++ rest) cs) h (omega arith)) n)

-- so that it is accepted as the book's page,
pub fitting_own : (b rest : List ℕ) → Sound b → fitting b (own_page (calls_of b) ++ rest) ≡ accepted
fitting_own b rest s = sym (fitting_none b (own_page (calls_of b) ++ rest) (sound_accepted b s) (own_fits (calls_of b) rest (all_few b (sound_accepted b s))))

-- and that no join of two sound books is refused by the page that is the first one's own
no_ten : (a g b out page : List ℕ) → Sound a → Sound b → first_unfit g (calls_of a) ≡ 0 → (joining_tabs a g b out page).number ≢ 10
no_ten a g b out page p q f e = go (way a g b out page)
  where
    of : {v : Verdict} → join_tabs_refused v out page ≡ joining_tabs a g b out page → v.number ≡ 10
    of i = ap (λ (o : JoinTabsOutcome). o.number) i ∙ e

    month : (t : Bool) → same_month (header_at a) (header_at b) ≡ t → (screen_tabs a g b).number ≡ 10 → ⊥
    month false m n = omega (arith, ap (λ (v : Verdict). v.number) (screen_seven a g b (sound_accepted a p) (sound_accepted b q) f m))
    month true m n = omega (arith, ap (λ (v : Verdict). v.number) (screen_none a g b (sound_accepted a p) (sound_accepted b q) f m))

    go : Way a g b out page → ⊥
    go (screened s i) = month (same_month (header_at a) (header_at b)) refl (of i)
    go (many s i) = omega (arith, of i)
    go (short s i) = omega (arith, of i)
    go (both s k r h i) = let n : ◌≡◌ {A = ℕ} 0 10 = ap (λ (o : JoinTabsOutcome). o.number) i ∙ e in omega arith

-- In a tree whose leaves come with their own pages 10 never comes out.
pub never_ten : (p : Plan) → Sounds p → (result p).number ≢ 10
unfolding result
never_ten (book b) s e = omega arith
never_ten (join l r out page) s e = go (never_ten l s.0) (never_ten r s.1) (ℕ_discrete (result l).number 0) (ℕ_discrete (result r).number 0)
  where
    go : ((result l).number ≢ 10) → ((result r).number ≢ 10) → Dec ((result l).number ≡ 0) → Dec ((result r).number ≡ 0) → ⊥
    go i j (no h) k = i (ap (λ (o : JoinTabsOutcome). o.number) (sym (left_refused (result l) (result r) out page h)) ∙ e)
    go i j (yes h) (no k) = j (ap (λ (o : JoinTabsOutcome). o.number) (sym (right_refused (result l) (result r) out page h k)) ∙ e)
    go i j (yes h) (yes k) =
        let y = pages_of_a_tree l s.0 h in
        let z = pages_of_a_tree r s.1 k in
        let f : first_unfit (written_page (result l)) (calls_of (written_book (result l))) ≡ 0 =
        ap (λ (g : List ℕ). first_unfit g (calls_of (written_book (result l)))) (y.own ∙ sym (append-nil (own_page (calls_of (written_book (result l))))))
        ∙ own_fits (calls_of (written_book (result l))) [] (all_few (written_book (result l)) (sound_accepted _ y.sound)) in
        no_ten (written_book (result l)) (written_page (result l)) (written_book (result r)) out page y.sound z.sound f
        (ap (λ (o : JoinTabsOutcome). o.number) (sym (both_join (result l) (result r) out page h k)) ∙ e)
