-- Each outcome of the operations comes out exactly under its condition, in the paper's order. Assumes nothing.
use mathlib.Core.Path.{◌≡◌, refl, sym, ◌∙◌, ap}
use mathlib.Core.Bool.{Bool, true, false}
use mathlib.Core.Logic.{inl, inr, ◌↔◌, ◌≢◌}
use mathlib.Core.List.{List}
use Prim.Native.Nat.{ℕ, ◌≤◌, ◌<◌}
use native.Mathlib.Omega.{arith}
use native.Mathlib.Decide.{dec_le, dec_lt, ℕ_discrete}
use lib.ListN.{length}
use Rattle.le.specs.Le.{IsBytes}
use Rattle.le.proofs.Tests.{holds_or_fails}
use Rattle.call.specs.declared.Call.{Call}
use Rattle.call.specs.Services.{most_participant}
use Rattle.book.specs.declared.Header.{Header}
use Rattle.book.specs.declared.Verdict.{Verdict}
use Rattle.book.specs.Book.{most_keys, size_of, header_at, calls_of}
use Rattle.book.specs.Check.{refused, accepted, check}
use Rattle.book.specs.Sound.{Sound}
use Rattle.book.proofs.Exact.{accepted_exactly, sound_accepted}
use Rattle.book.proofs.Numbers.{refused_exactly}
use Rattle.book.proofs.Judged.{Judged, check_judged}
use Rattle.pair.specs.Screening.{same_month}
use Rattle.pair.proofs.Screening.{both_first, both_second}
use Rattle.join.specs.Joining.{keys_of_both}
use Rattle.join.proofs.Accepted.{one_header}
use Rattle.join.proofs.Exact.{one_month, differs, differ, not_zero}
use Rattle.tabs.specs.Tabs.{page_size, Fits, fits_at, first_unfit}
use Rattle.tabs.specs.Outcome.{TabsOutcome, tabling, fitting, JoinTabsOutcome, join_tabs_refused, screen_tabs, joining_tabs}
use Rattle.tabs.specs.Verdict.{
  TabsVerdict,
  book_refused,
  nine as page-short,
  made,
  FitsAll,
  LowestUnfit,
  FittingVerdict,
  unsound,
  ten_at,
  fits_all,
  Ready,
  JoinTabsVerdict,
  first_refused_lem,
  second_refused,
  ten,
  seven,
  eight,
  nine,
  joined,
}
use Rattle.tabs.proofs.Bringing.{all_few}
use Rattle.tabs.proofs.Fits.{Fit, everywhere, lowest, fit_all, fits_each}
use Rattle.tabs.proofs.Reading.{fits_exact}
use Rattle.tabs.proofs.WaysOut.{
  table_book,
  table_short,
  table_made,
  fitting_book,
  fitting_ten,
  fitting_none,
  screen_books,
  screen_ten,
  screen_seven,
  screen_none,
  rooms_many,
  rooms_out,
  rooms_page,
  rooms_none,
  refuse_screen,
  refuse_rooms,
  writes_both,
}

-- a verdict of the check that is not acceptance
bad : (v : Verdict) → 1 ≤ v.number → v ≢ accepted
bad v l f = let z : v.number ≡ 0 = ap (λ (x : Verdict). x.number) f in omega arith

-- The page of a book afresh

module _ (book page : List ℕ) (small : IsBytes book) where
  from_table : (o : TabsOutcome) → TabsVerdict book page o → tabling book page ≡ o
  from_table o (book_refused v r n e) =
      let c = (refused_exactly book small v).1 r in
      sym (table_book book page v (sym c) (not_zero book v c n)) ∙ sym e
  from_table o (page-short s h e) = sym (table_short book page (sound_accepted book s) h) ∙ sym e
  from_table o (made s h e) = sym (table_made book page (sound_accepted book s) h) ∙ sym e

  some_table : (o : TabsOutcome) × TabsVerdict book page o
  some_table = go (check_judged book) (dec_le page_size (length page))
    where
      go : Judged (check book) → Dec (page_size ≤ length page) → (o : TabsOutcome) × TabsVerdict book page o
      go (inr p) h = (_, book_refused (check book) ((refused_exactly book small (check book)).0 refl) (bad (check book) p.0) refl)
      go (inl p) (no h) = (_, page-short ((accepted_exactly book small).0 p) (omega arith) refl)
      go (inl p) (yes h) = (_, made ((accepted_exactly book small).0 p) h refl)

  -- Each refusal of making a page, with its place, and the page come out exactly under their row's condition.
  pub tabs_exact : (o : TabsOutcome) → (tabling book page ≡ o) ↔ TabsVerdict book page o
  tabs_exact o = ((λ e. let s = some_table in rw (sym (from_table s.0 s.1) ∙ e) at s.1), from_table o)

-- Where a page fits, as bytes

module _ (page : List ℕ) (cs : List Call) (small : IsBytes page) (few : length cs ≤ most_keys) where
  fit : (m : ℕ) → 1 ≤ m → fits_at page cs m ≡ true → Fits page cs m
  fit m h e = (fits_exact page cs m small few h).0 e

  unfit : (m : ℕ) → 1 ≤ m → fits_at page cs m ≡ false → Fits page cs m → ⊥
  unfit m h e f = holds_or_fails ((fits_exact page cs m small few h).1 f) e

  pub all_fit : (first_unfit page cs ≡ 0) ↔ FitsAll page cs
  all_fit = (λ z m h l. fit m h (fits_each page cs z m h l), from)
    where
      from : FitsAll page cs → first_unfit page cs ≡ 0
      from a = go (fit_all page cs)
        where
          go : Fit page cs 1 most_participant (first_unfit page cs) → first_unfit page cs ≡ 0
          go (everywhere z f) = z
          go (lowest h l f n) = absurd (unfit (first_unfit page cs) h n (a (first_unfit page cs) h (omega arith)))

  pub lowest_unfit : (m : ℕ) → ((first_unfit page cs ≡ m) × (m ≢ 0)) ↔ LowestUnfit page cs m
  lowest_unfit m = (λ p. to p.0 p.1 (fit_all page cs), from)
    where
      to : first_unfit page cs ≡ m → m ≢ 0 → Fit page cs 1 most_participant (first_unfit page cs) → LowestUnfit page cs m
      to e n (everywhere z f) = absurd (n (sym e ∙ z))
      to e n (lowest h l f u) =
          record {
            member = (omega arith, omega arith);
            below = λ j a b. fit j a (f j a (omega arith));
            unfit = unfit m (omega arith) (rw e at u);
          }

      from : LowestUnfit page cs m → (first_unfit page cs ≡ m) × (m ≢ 0)
      from g = let p = g.member in (go (fit_all page cs), λ z. omega arith)
        where
          go : Fit page cs 1 most_participant (first_unfit page cs) → first_unfit page cs ≡ m
          go (everywhere z f) = absurd (g.unfit (fit m g.member.0 (f m g.member.0 (let q = g.member.1 in omega arith))))
          go (lowest h l f u) = meet (dec_lt (first_unfit page cs) m) (dec_lt m (first_unfit page cs))
            where
              meet : Dec (first_unfit page cs < m) → Dec (m < first_unfit page cs) → first_unfit page cs ≡ m
              meet (yes a) b = absurd (unfit (first_unfit page cs) h u (g.below (first_unfit page cs) h a))
              meet (no a) (yes b) = absurd (g.unfit (fit m g.member.0 (f m g.member.0 b)))
              meet (no a) (no b) = omega arith

-- Whether a page fits

module _ (book page : List ℕ) (small : IsBytes book) (small-page : IsBytes page) where
  few_calls : Sound book → length (calls_of book) ≤ most_keys
  few_calls s = all_few book (sound_accepted book s)

  from_fit : (v : Verdict) → FittingVerdict book page v → fitting book page ≡ v
  from_fit v (unsound r n) =
      let c = (refused_exactly book small v).1 r in
      sym (fitting_book book page v (sym c) (not_zero book v c n))
  from_fit v (ten_at m s u e) =
      let f = (lowest_unfit page (calls_of book) small-page (few_calls s) m).1 u in
      sym (fitting_ten book page (sound_accepted book s) m (sym f.0) f.1) ∙ sym e
  from_fit v (fits_all s f e) =
      sym (fitting_none book page (sound_accepted book s) ((all_fit page (calls_of book) small-page (few_calls s)).1 f)) ∙ sym e

  some_fit : (v : Verdict) × FittingVerdict book page v
  some_fit = go (check_judged book) (ℕ_discrete (first_unfit page (calls_of book)) 0)
    where
      go : Judged (check book) → Dec (first_unfit page (calls_of book) ≡ 0) → (v : Verdict) × FittingVerdict book page v
      go (inr p) z = (check book, unsound ((refused_exactly book small (check book)).0 refl) (bad (check book) p.0))
      go (inl p) (no z) = (
        _,
        ten_at (first_unfit page (calls_of book)) ((accepted_exactly book small).0 p)
            ((lowest_unfit page (calls_of book) small-page (all_few book p) (first_unfit page (calls_of book))).0 (refl, z)) refl,
      )
      go (inl p) (yes z) = (_, fits_all ((accepted_exactly book small).0 p) ((all_fit page (calls_of book) small-page (all_few book p)).0 z) refl)

  -- Each refusal of a page, with its place, comes out exactly under its row's condition, and so does that it fits.
  pub fitting_exact : (v : Verdict) → (fitting book page ≡ v) ↔ FittingVerdict book page v
  fitting_exact v = ((λ e. let s = some_fit in rw (sym (from_fit s.0 s.1) ∙ e) at s.1), from_fit v)

-- The join with a page

module _ (a g b out page : List ℕ) (small_a : IsBytes a) (small-g : IsBytes g) (small_b : IsBytes b) where
  few : Sound a → length (calls_of a) ≤ most_keys
  few s = all_few a (sound_accepted a s)

  passes : Ready a g b → screen_tabs a g b ≡ accepted
  passes r =
      let l = r.alike in
      sym (screen_none a g b (sound_accepted a l.first_sound) (sound_accepted b l.second_sound)
      ((all_fit g (calls_of a) small-g (few l.first_sound)).1 r.fits)
      (one_month (header_at a) (header_at b) l.year l.month l.area))

  from_row : (o : JoinTabsOutcome) → JoinTabsVerdict a g b out page o → joining_tabs a g b out page ≡ o
  from_row o (first_refused_lem v r n e) =
      let c = (refused_exactly a small_a v).1 r in
      let z = not_zero a v c n in
      sym (refuse_screen a g b out page v (screen_books a g b v (both_first a b v (sym c) z) z) z) ∙ sym e
  from_row o (second_refused v s r n e) =
      let c = (refused_exactly b small_b v).1 r in
      let z = not_zero b v c n in
      sym (refuse_screen a g b out page _ (screen_books a g b _ (both_second a b (sound_accepted a s) v (sym c) z) (λ y. omega arith)) (λ y. omega arith)) ∙ sym e
  from_row o (ten m s t u e) =
      let f = (lowest_unfit g (calls_of a) small-g (few s) m).1 u in
      sym (refuse_screen a g b out page _ (screen_ten a g b (sound_accepted a s) (sound_accepted b t) m (sym f.0) f.1) (λ y. omega arith)) ∙ sym e
  from_row o (seven s t f d e) =
      sym (refuse_screen a g b out page _
      (screen_seven a g b (sound_accepted a s) (sound_accepted b t) ((all_fit g (calls_of a) small-g (few s)).1 f) (differs (header_at a) (header_at b) d)) (λ y. omega arith)) ∙ sym e
  from_row o (eight r f e) =
      sym (refuse_rooms a g b out page (passes r) _ (rooms_many (keys_of_both a b) (length out) (length page) f) (λ y. omega arith)) ∙ sym e
  from_row o (nine r f (inl h) e) =
      sym (refuse_rooms a g b out page (passes r) _ (rooms_out (keys_of_both a b) (length out) (length page) f h) (λ y. omega arith)) ∙ sym e
  from_row o (nine r f (inr h) e) =
      sym (refuse_rooms a g b out page (passes r) _ (rooms_page (keys_of_both a b) (length out) (length page) f h) (λ y. omega arith)) ∙ sym e
  from_row o (joined r f h p e) = sym (writes_both a g b out page (passes r) (rooms_none (keys_of_both a b) (length out) (length page) f h p)) ∙ sym e

  -- and some row holds
  some : (o : JoinTabsOutcome) × JoinTabsVerdict a g b out page o
  some = go (check_judged a) (check_judged b)
    where
      n : ℕ
      n = keys_of_both a b

      ready : (p : check a ≡ accepted) → check b ≡ accepted → first_unfit g (calls_of a) ≡ 0 → same_month (header_at a) (header_at b) ≡ true → Ready a g b
      ready p q z m =
          let e = one_header (header_at a) (header_at b) m in
          record {
            alike =
                record {
                  first_sound = (accepted_exactly a small_a).0 p;
                  second_sound = (accepted_exactly b small_b).0 q;
                  year = ap (λ (x : Header). x.year) e;
                  month = ap (λ (x : Header). x.month) e;
                  area = ap (λ (x : Header). x.area) e;
                };
            fits = (all_fit g (calls_of a) small-g (all_few a p)).0 z;
          }

      rooms : Ready a g b → Dec (n ≤ most_keys) → Dec (size_of n ≤ length out) → Dec (page_size ≤ length page) → (o : JoinTabsOutcome) × JoinTabsVerdict a g b out page o
      rooms r (no f) h p = (_, eight r (omega arith) refl)
      rooms r (yes f) (no h) p = (_, nine r f (inl (omega arith)) refl)
      rooms r (yes f) (yes h) (no p) = (_, nine r f (inr (omega arith)) refl)
      rooms r (yes f) (yes h) (yes p) = (_, joined r f h p refl)

      month : check a ≡ accepted → check b ≡ accepted → first_unfit g (calls_of a) ≡ 0 → (t : Bool) → same_month (header_at a) (header_at b) ≡ t
          → (o : JoinTabsOutcome) × JoinTabsVerdict a g b out page o
      month p q z false m =
          (_, seven ((accepted_exactly a small_a).0 p) ((accepted_exactly b small_b).0 q) ((all_fit g (calls_of a) small-g (all_few a p)).0 z) (differ (header_at a) (header_at b) m) refl)
      month p q z true m = rooms (ready p q z m) (dec_le n most_keys) (dec_le (size_of n) (length out)) (dec_le page_size (length page))

      unfits : check a ≡ accepted → check b ≡ accepted → Dec (first_unfit g (calls_of a) ≡ 0) → (o : JoinTabsOutcome) × JoinTabsVerdict a g b out page o
      unfits p q (no z) = (
        _,
        ten (first_unfit g (calls_of a)) ((accepted_exactly a small_a).0 p) ((accepted_exactly b small_b).0 q)
            ((lowest_unfit g (calls_of a) small-g (all_few a p) (first_unfit g (calls_of a))).0 (refl, z)) refl,
      )
      unfits p q (yes z) = month p q z (same_month (header_at a) (header_at b)) refl

      go : Judged (check a) → Judged (check b) → (o : JoinTabsOutcome) × JoinTabsVerdict a g b out page o
      go (inr p) q = (_, first_refused_lem (check a) ((refused_exactly a small_a (check a)).0 refl) (bad (check a) p.0) refl)
      go (inl p) (inr q) =
          (_, second_refused (check b) ((accepted_exactly a small_a).0 p) ((refused_exactly b small_b (check b)).0 refl) (bad (check b) q.0) refl)
      go (inl p) (inl q) = unfits p q (ℕ_discrete (first_unfit g (calls_of a)) 0)

  -- Each refusal of a join with a page, with its place, and the joined book with its page come out exactly under their row's condition.
  pub join_tabs_exact : (o : JoinTabsOutcome) → (joining_tabs a g b out page ≡ o) ↔ JoinTabsVerdict a g b out page o
  join_tabs_exact o = ((λ e. let s = some in rw (sym (from_row s.0 s.1) ∙ e) at s.1), from_row o)

  -- Of two sound books, 10 comes out at a member exactly where the page fits at every member below it and not there.
  pub ten_lowest : Sound a → Sound b → (m : ℕ) → (joining_tabs a g b out page ≡ join_tabs_refused (refused 10 m) out page) ↔ LowestUnfit g (calls_of a) m
  ten_lowest s t m = (λ e. go (some) e, λ u. from_row _ (ten m s t u refl))
    where
      row : (o : JoinTabsOutcome) → JoinTabsVerdict a g b out page o → o ≡ join_tabs_refused (refused 10 m) out page → LowestUnfit g (calls_of a) m
      row o (first_refused_lem v r n e) f = absurd (n (sym ((refused_exactly a small_a v).1 r) ∙ sound_accepted a s))
      row o (second_refused v x r n e) f = absurd (n (sym ((refused_exactly b small_b v).1 r) ∙ sound_accepted b t))
      row o (ten k x y u e) f = let p : k ≡ m = ap (λ (z : JoinTabsOutcome). z.place) (sym e ∙ f) in rw p at u
      row o (seven x y z d e) f = absurd (let p : 7 ≡ 10 = ap (λ (z : JoinTabsOutcome). z.number) (sym e ∙ f) in omega arith)
      row o (eight r x e) f = absurd (let p : 8 ≡ 10 = ap (λ (z : JoinTabsOutcome). z.number) (sym e ∙ f) in omega arith)
      row o (nine r x y e) f = absurd (let p : 9 ≡ 10 = ap (λ (z : JoinTabsOutcome). z.number) (sym e ∙ f) in omega arith)
      row o (joined r x y z e) f = absurd (let p : 0 ≡ 10 = ap (λ (z : JoinTabsOutcome). z.number) (sym e ∙ f) in omega arith)

      go : (o : JoinTabsOutcome) × JoinTabsVerdict a g b out page o → joining_tabs a g b out page ≡ join_tabs_refused (refused 10 m) out page → LowestUnfit g (calls_of a) m
      go r e = row r.0 r.1 (sym (from_row r.0 r.1) ∙ e)
