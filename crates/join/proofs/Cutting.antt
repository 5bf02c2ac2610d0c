-- A window is cut by revising it to the one part and entering the other, in either order. Assumes nothing.
use mathlib.Core.Path.{◌≡◌, refl, sym, ◌∙◌, ap}
use mathlib.Core.Bool.{false}
use mathlib.Core.Logic.{◌⊎◌, inl, inr, ⊎_elim, ◌↔◌, ◌≢◌}
use mathlib.Core.List.Memᴰ.{head as here}
use mathlib.Core.List.Memᴰ.{tail as there}
use mathlib.Core.List.{List, [], ◌∷◌, Memᴰ as In}
use mathlib.Core.Option.{Option, none, some}
use Prim.Native.Nat.{ℕ, suc, ◌≤◌, ◌<◌, zero-le}
use native.Mathlib.Nat.{le_refl}
use native.Mathlib.Decide.{ℕ_discrete}
use native.Mathlib.Omega.{arith}
use lib.ListN.{length}
use borrow.Author.Tests.{ne_eqb}
use Rattle.call.specs.declared.Call.{Call}
use Rattle.call.specs.Key.{call_key}
use Rattle.call.specs.Revising.{live, withdrawn}
use Rattle.call.specs.Service.{CallWithin}
use Rattle.book.specs.Book.{most_keys, size_of, header_at, count_at, calls_of}
use Rattle.book.specs.Check.{header_minutes}
use Rattle.book.specs.Sound.{Sound}
use Rattle.book.specs.Without.{without}
use Rattle.book.proofs.Writing.{Numbered}
use Rattle.book.proofs.Without.{without_miss, without_rises}
use Rattle.rule.specs.Standing.{is_withdrawn}
use Rattle.rule.specs.Keys.{record_of}
use Rattle.rule.proofs.Keyed.{in_find, find_in}
use Rattle.join.specs.Changing.{changing, record_after, had as had-before, new as new-key}
use Rattle.join.specs.Trees.{written}
use Rattle.join.proofs.Entering.{changed_sound, others_keep, enters, revises, change_accepted}
use Rattle.book.specs.Cut.{PartOf, NewNumber, Numbers, first_keeps, second_keeps, Cuttable, Cut}
use Rattle.book.proofs.Rising.{one_key, same_members, in_without, placed, in_placed, placed_rises, placed_length}
use Rattle.book.proofs.Parts.{calls_rise, first_within, second_within, keeps, new}
use Rattle.book.proofs.Cutting.{count_of_calls, others, whole_placed}

-- a key that no call has
none_of : (k : ℕ) (cs : List Call) → ((y : Call) → In y cs → call_key y ≡ k → ⊥) → record_of k cs ≡ none
none_of k cs h = go (record_of k cs) refl
  where
    go : (o : Option Call) → record_of k cs ≡ o → o ≡ none
    go none e = refl
    go (some y) e = let f = find_in k cs y e in absurd (h y f.0 f.1)

without_free : (k : ℕ) (cs : List Call) → ((y : Call) → In y cs → call_key y ≡ k → ⊥) → without k cs ≡ cs
unfolding without
without_free k [] h = refl
without_free k (c ∷ cs) h = without_miss k c cs (h c (here refl)) ∙ ap (λ (ds : List Call). c ∷ ds) (without_free k cs (λ y i. h y (there i)))

some_not_none : (x : Call) (o : Option Call) → o ≡ some x → o ≢ none
some_not_none x o e d = let z : ◌≡◌ {A = ℕ} 0 1 = cc in omega arith

-- a live call is not withdrawn
stands : (x : Call) → x.state ≡ live → is_withdrawn x ≡ false
stands x e = ne_eqb x.state withdrawn (λ d. omega arith)

-- A change after which its call stands: the book has that call, and its calls of other keys
module _ (a : List ℕ) (s : Sound a) (w : Call) (numbered : Numbered (w ∷ [])) (page out : List ℕ) (z : (changing a w page out).number ≡ 0)
    (e : record_after a w page out (call_key w) ≡ some w) where
  abbrev after : List ℕ
  after = written (changing a w page out)

  after-sound : Sound after
  after-sound = (changed_sound a s w numbered page out z).0

  changed-in : (y : Call) → In y (calls_of after) ↔ ((y ≡ w) ⊎ (In y (calls_of a) × (call_key y ≡ call_key w → ⊥)))
  changed-in y = (λ i. to i (ℕ_discrete (call_key y) (call_key w)), from)
    where
      to : In y (calls_of after) → Dec (call_key y ≡ call_key w) → (y ≡ w) ⊎ (In y (calls_of a) × (call_key y ≡ call_key w → ⊥))
      to i (yes k) = inl (one_key 0 (calls_of after) y w (calls_rise after after-sound) i (find_in (call_key w) (calls_of after) w e).0 k)
      to i (no k) = inr ((find_in (call_key y) (calls_of a) y (sym (others_keep a s w numbered page out z (call_key y) k) ∙ in_find 0 (calls_of after) y (calls_rise after after-sound) i)).0, k)

      from : (y ≡ w) ⊎ (In y (calls_of a) × (call_key y ≡ call_key w → ⊥)) → In y (calls_of after)
      from (inl d) = rw d (find_in (call_key w) (calls_of after) w e).0
      from (inr h) = (find_in (call_key y) (calls_of after) y (others_keep a s w numbered page out z (call_key y) h.1 ∙ in_find 0 (calls_of a) y (calls_rise a s) h.0)).0

  -- its calls, one by one
  changed-calls : calls_of after ≡ placed w (without (call_key w) (calls_of a))
  changed-calls =
      let rest = without (call_key w) (calls_of a) in
      same_members 0 0 (calls_of after) (placed w rest) (calls_rise after after-sound)
      (placed_rises w 0 rest zero-le (λ y i. ((in_without (call_key w) (calls_of a) y).0 i).1) (without_rises (call_key w) 0 0 (calls_of a) (le_refl 0) (calls_rise a s)))
      (λ y. (
        λ i. (in_placed w rest y).1 (⊎_elim inl (λ h. inr ((in_without (call_key w) (calls_of a) y).1 h)) ((changed-in y).0 i)),
        λ i. (changed-in y).1 (⊎_elim inl (λ j. inr ((in_without (call_key w) (calls_of a) y).0 j)) ((in_placed w rest y).0 i)),
      ))

  changed-count : count_at after ≡ suc (length (without (call_key w) (calls_of a)))
  changed-count = sym (count_of_calls after) ∙ ap length changed-calls ∙ placed_length w (without (call_key w) (calls_of a))

-- Two changes in turn, of two keys, each call standing after its own
module _ (b : List ℕ) (s : Sound b) (x y : Call) (nx : Numbered (x ∷ [])) (ny : Numbered (y ∷ [])) (page out page' out' : List ℕ)
    (z : (changing b x page out).number ≡ 0) (ex : record_after b x page out (call_key x) ≡ some x) where
  abbrev once : List ℕ
  once = written (changing b x page out)

  abbrev twice : List ℕ
  twice = written (changing once y page' out')

  once-sound : Sound once
  once-sound = (changed_sound b s x nx page out z).0

  once-header : header_at once ≡ header_at b
  once-header = (changed_sound b s x nx page out z).1

  -- what the second call finds is what the first book has
  still : (call_key y ≡ call_key x → ⊥) → (o : Option Call) → record_of (call_key y) (calls_of b) ≡ o → record_of (call_key y) (calls_of once) ≡ o
  still distinct o e = others_keep b s x nx page out z (call_key y) distinct ∙ e

  module _ (z' : (changing once y page' out').number ≡ 0) (ey : record_after once y page' out' (call_key y) ≡ some y) (distinct : call_key y ≡ call_key x → ⊥) where
    -- the calls of other keys
    abbrev Rest : Call → Type 0
    Rest c = In c (calls_of b) × (call_key c ≡ call_key x → ⊥) × (call_key c ≡ call_key y → ⊥)

    twice_in : (c : Call) → In c (calls_of twice) ↔ ((c ≡ x) ⊎ ((c ≡ y) ⊎ Rest c))
    twice_in c = (λ i. to (second-in.0 i), λ h. second-in.1 (from h))
      where
        first_in_lem : In c (calls_of once) ↔ ((c ≡ x) ⊎ (In c (calls_of b) × (call_key c ≡ call_key x → ⊥)))
        first_in_lem = changed-in b s x nx page out z ex c

        second-in : In c (calls_of twice) ↔ ((c ≡ y) ⊎ (In c (calls_of once) × (call_key c ≡ call_key y → ⊥)))
        second-in = changed-in once once-sound y ny page' out' z' ey c

        to : (c ≡ y) ⊎ (In c (calls_of once) × (call_key c ≡ call_key y → ⊥)) → (c ≡ x) ⊎ ((c ≡ y) ⊎ Rest c)
        to (inl e) = inr (inl e)
        to (inr h) = ⊎_elim inl (λ k. inr (inr (k.0, k.1, h.1))) (first_in_lem.0 h.0)

        from : (c ≡ x) ⊎ ((c ≡ y) ⊎ Rest c) → (c ≡ y) ⊎ (In c (calls_of once) × (call_key c ≡ call_key y → ⊥))
        from (inl e) = inr (first_in_lem.1 (inl e), λ d. distinct (sym d ∙ ap call_key e))
        from (inr (inl e)) = inl e
        from (inr (inr h)) = inr (first_in_lem.1 (inr (h.0, h.1)), h.2)

-- The part that keeps the number, at a higher revision, and the part that is new

record KeptAndNew (b : List ℕ) (whole kept other : Call) : Type 0 where
  has : In whole (calls_of b)
  live : whole.state ≡ live
  kept_part : PartOf whole kept
  other_part : PartOf whole other
  same : kept.number ≡ whole.number
  fresh : NewNumber b other
  higher : whole.revision < kept.revision
  kept_numbered : Numbered (kept ∷ [])
  other_numbered : Numbered (other ∷ [])

-- room for both changes: pages for a book of one, a free place among the most keys of any book, and outputs for one record more
pub record Room (b page out page' out' : List ℕ) : Type 0 where
  pub page_long : size_of 1 ≤ length page
  pub page_long' : size_of 1 ≤ length page'
  pub free : count_at b < most_keys
  pub out_long : size_of (suc (count_at b)) ≤ length out
  pub out_long' : size_of (suc (count_at b)) ≤ length out'

-- two calls joined into a book in turn, both accepted
pub record BothAccepted (b : List ℕ) (x y : Call) (page out page' out' : List ℕ) : Type 0 where
  pub once : (changing b x page out).number ≡ 0
  pub twice : (changing (written (changing b x page out)) y page' out').number ≡ 0

-- the book then
abbrev pub both_joined : List ℕ → Call → Call → List ℕ → List ℕ → List ℕ → List ℕ → List ℕ
both_joined b x y page out page' out' = written (changing (written (changing b x page out)) y page' out')

-- it is sound, of the same month and area, and has the two in the place of a third
record Replaced (b c : List ℕ) (whole x y : Call) : Type 0 where
  sound : Sound c
  header : header_at b ≡ header_at c
  calls : (d : Call) → In d (calls_of c) ↔ ((d ≡ x) ⊎ ((d ≡ y) ⊎ (In d (calls_of b) × (d ≡ whole → ⊥))))

module _ (b : List ℕ) (s : Sound b) (whole kept other : Call) (k : KeptAndNew b whole kept other) where
  own_key : call_key kept ≡ call_key whole
  own_key = keeps b s whole k.has kept k.kept_part k.same

  free : (c : Call) → In c (calls_of b) → call_key c ≡ call_key other → ⊥
  free = new b s whole k.has other k.other_part k.other_numbered.0.0 k.fresh

  distinct : call_key other ≡ call_key kept → ⊥
  distinct e = free whole k.has (sym own_key ∙ sym e)

  has_kept : record_of (call_key kept) (calls_of b) ≡ some whole
  has_kept = rw own_key (in_find 0 (calls_of b) whole (calls_rise b s) k.has)

  has_other : record_of (call_key other) (calls_of b) ≡ none
  has_other = none_of (call_key other) (calls_of b) free

  -- of neither key: not the whole
  rest : (c : Call) → (In c (calls_of b) × (c ≡ whole → ⊥)) ↔ (In c (calls_of b) × (call_key c ≡ call_key kept → ⊥) × (call_key c ≡ call_key other → ⊥))
  rest c = (
    λ h. (h.0, λ e. h.1 (one_key 0 (calls_of b) c whole (calls_rise b s) h.0 k.has (e ∙ own_key)), free c h.0),
    λ h. (h.0, λ e. h.1 (ap call_key e ∙ sym own_key)),
  )

  nk : Numbered (kept ∷ [])
  nk = k.kept_numbered

  numbered_other : Numbered (other ∷ [])
  numbered_other = k.other_numbered

  module _ (page out page' out' : List ℕ) where
    kept_stands : (z : (changing b kept page out).number ≡ 0) → record_after b kept page out (call_key kept) ≡ some kept
    kept_stands z = revises b s kept nk page out z whole has_kept (stands whole k.live) (stands kept k.kept_part.live) k.higher

    other_stands : (z : (changing b other page out).number ≡ 0) → record_after b other page out (call_key other) ≡ some other
    other_stands z = enters b s other numbered_other page out z has_other

    -- revised, then entered
    revised_entered : BothAccepted b kept other page out page' out' → Replaced b (both_joined b kept other page out page' out') whole kept other
    revised_entered both =
        let z = both.once in
        let ex = kept_stands z in
        let a = once-sound b s kept other nk numbered_other page out page' out' z ex in
        let ey = enters (written (changing b kept page out)) a other numbered_other page' out' both.twice (still b s kept other nk numbered_other page out page' out' z ex distinct none has_other) in
        let i = twice_in b s kept other nk numbered_other page out page' out' z ex both.twice ey distinct in
        let t = changed_sound (written (changing b kept page out)) a other numbered_other page' out' both.twice in
        record {
          sound = t.0;
          header = sym (t.1 ∙ once-header b s kept other nk numbered_other page out page' out' z ex);
          calls = λ d. (
            λ j. ⊎_elim inl (λ h. inr (⊎_elim inl (λ m. inr ((rest d).1 m)) h)) ((i d).0 j),
            λ h. (i d).1 (⊎_elim inl (λ m. inr (⊎_elim inl (λ n. inr ((rest d).0 n)) m)) h),
          );
        }

    -- entered, then revised
    entered_revised : BothAccepted b other kept page out page' out' → Replaced b (both_joined b other kept page out page' out') whole other kept
    entered_revised both =
        let z = both.once in
        let n : call_key kept ≡ call_key other → ⊥ = λ e. distinct (sym e) in
        let ex = other_stands z in
        let a = once-sound b s other kept numbered_other nk page out page' out' z ex in
        let ey =
        revises (written (changing b other page out)) a kept nk page' out' both.twice whole (still b s other kept numbered_other nk page out page' out' z ex n (some whole) has_kept)
        (stands whole k.live) (stands kept k.kept_part.live) k.higher in
        let i = twice_in b s other kept numbered_other nk page out page' out' z ex both.twice ey n in
        let t = changed_sound (written (changing b other page out)) a kept nk page' out' both.twice in
        record {
          sound = t.0;
          header = sym (t.1 ∙ once-header b s other kept numbered_other nk page out page' out' z ex);
          calls = λ d. (
            λ j. ⊎_elim inl (λ h. inr (⊎_elim inl (λ m. inr ((rest d).1 (m.0, m.2, m.1))) h)) ((i d).0 j),
            λ h. (i d).1 (⊎_elim inl (λ m. inr (⊎_elim inl (λ n. inr (let r = (rest d).0 n in (r.0, r.2, r.1))) m)) h),
          );
        }

    -- Where there is room both are accepted

    module _ (room : Room b page out page' out') (wk : CallWithin (header_minutes (header_at b)) kept) (wo : CallWithin (header_minutes (header_at b)) other) where
      within_once : (x y : Call) → (nx : Numbered (x ∷ [])) → (z : (changing b x page out).number ≡ 0)
          → CallWithin (header_minutes (header_at b)) y → CallWithin (header_minutes (header_at (written (changing b x page out)))) y
      within_once x y nx z w = rw (changed_sound b s x nx page out z).1 w

      accepted_revised : BothAccepted b kept other page out page' out'
      accepted_revised =
          let z =
          (change_accepted b s kept nk page out).1
          (record { within = wk; page_long = room.page_long; fits = had-before (some_not_none whole _ has_kept) (omega (arith, room.out_long)) }) in
          let ex = kept_stands z in
          let a = once-sound b s kept other nk numbered_other page out page' out' z ex in
          let n : count_at (written (changing b kept page out)) ≡ count_at b =
          changed-count b s kept nk page out z ex ∙ ap (λ (j : ℕ). suc (length (without j (calls_of b)))) own_key
          ∙ sym (sym (count_of_calls b) ∙ ap length (whole_placed b s whole k.has) ∙ placed_length whole (others b whole)) in
          record {
            once = z;
            twice =
                (change_accepted (written (changing b kept page out)) a other numbered_other page' out').1
                (record {
                  within = within_once kept other nk z wo;
                  page_long = room.page_long';
                  fits = new-key (still b s kept other nk numbered_other page out page' out' z ex distinct none has_other) (omega (arith, room.free)) (omega (arith, room.out_long'));
                });
          }

      accepted_entered : BothAccepted b other kept page out page' out'
      accepted_entered =
          let z = (change_accepted b s other numbered_other page out).1 (record { within = wo; page_long = room.page_long; fits = new-key has_other room.free room.out_long }) in
          let ex = other_stands z in
          let a = once-sound b s other kept numbered_other nk page out page' out' z ex in
          let n : count_at (written (changing b other page out)) ≡ suc (count_at b) =
          changed-count b s other numbered_other page out z ex ∙ ap (λ (cs : List Call). suc (length cs)) (without_free (call_key other) (calls_of b) free) ∙ ap suc (count_of_calls b) in
          record {
            once = z;
            twice =
                (change_accepted (written (changing b other page out)) a kept nk page' out').1
                (record {
                  within = within_once other kept numbered_other z wk;
                  page_long = room.page_long';
                  fits =
                      had-before (some_not_none whole _ (still b s other kept numbered_other nk page out page' out' z ex (λ e. distinct (sym e)) (some whole) has_kept))
                      (omega (arith, room.out_long'));
                });
          }

-- The theorem

-- the two parts, one after the other, whichever is first
pub data InTurn (first second : Call) : Call → Call → Type 0 where
  forward : InTurn first second first second
  backward : InTurn first second second first

swapped : {A B C : Type 0} → A ⊎ (B ⊎ C) → B ⊎ (A ⊎ C)
swapped (inl a) = inr (inl a)
swapped (inr (inl b)) = inl b
swapped (inr (inr c)) = inr (inr c)

-- the part that keeps the window's number, either one, is of a higher revision than the window
pub record KeptHigher (whole first second : Call) : Type 0 where
  pub first_higher : first.number ≡ whole.number → whole.revision < first.revision
  pub second_higher : second.number ≡ whole.number → whole.revision < second.revision

module _ (b : List ℕ) (s : Sound b) (whole first second : Call) (asked : Cuttable b whole first second) (numbered : Numbered (first ∷ second ∷ [])) (higher : KeptHigher whole first second) where
  by_first : first.number ≡ whole.number → NewNumber b second → KeptAndNew b whole first second
  by_first e n =
      record {
        has = asked.has;
        live = asked.live;
        kept_part = asked.first_part;
        other_part = asked.second_part;
        same = e;
        fresh = n;
        higher = higher.first_higher e;
        kept_numbered = (numbered.0, tt);
        other_numbered = numbered.1;
      }

  by_second : second.number ≡ whole.number → NewNumber b first → KeptAndNew b whole second first
  by_second e n =
      record {
        has = asked.has;
        live = asked.live;
        kept_part = asked.second_part;
        other_part = asked.first_part;
        same = e;
        fresh = n;
        higher = higher.second_higher e;
        kept_numbered = numbered.1;
        other_numbered = (numbered.0, tt);
      }

  module _ (page out page' out' : List ℕ) where
    cut_of : {c : List ℕ} → Replaced b c whole first second → Sound c × Cut b c whole first second
    cut_of r = (r.sound, record { cuttable = asked; header = r.header; calls = r.calls })

    cut_back : {c : List ℕ} → Replaced b c whole second first → Sound c × Cut b c whole first second
    cut_back r = (r.sound, record { cuttable = asked; header = r.header; calls = λ d. (λ i. swapped ((r.calls d).0 i), λ h. (r.calls d).1 (swapped h)) })

    -- THE CLERK'S WAY IS A CUT: the part that keeps the number is joined into a sound book at a higher revision than the window's, and the other part under its new number, in either order.
    -- Where both are accepted, the book that is left is sound, and a cut of the first one;
    pub cut_entered : (x y : Call) → InTurn first second x y → BothAccepted b x y page out page' out'
        → Sound (both_joined b x y page out page' out') × Cut b (both_joined b x y page out page' out') whole first second
    cut_entered x y t both = go asked.numbers t both
      where
        go : {x y : Call} → Numbers b whole first second → InTurn first second x y → BothAccepted b x y page out page' out'
            → Sound (both_joined b x y page out page' out') × Cut b (both_joined b x y page out page' out') whole first second
        go (first_keeps e n) forward both = cut_of (revised_entered b s whole first second (by_first e n) page out page' out' both)
        go (first_keeps e n) backward both = cut_back (entered_revised b s whole first second (by_first e n) page out page' out' both)
        go (second_keeps e n) forward both = cut_of (entered_revised b s whole second first (by_second e n) page out page' out' both)
        go (second_keeps e n) backward both = cut_back (revised_entered b s whole second first (by_second e n) page out page' out' both)

    -- and both are accepted wherever there is room.
    pub cut_accepted : (x y : Call) → InTurn first second x y → Room b page out page' out' → BothAccepted b x y page out page' out'
    cut_accepted x y t room = go asked.numbers t
      where
        wf : CallWithin (header_minutes (header_at b)) first
        wf = first_within b s whole first second asked numbered.0.0 numbered.0.1

        ws : CallWithin (header_minutes (header_at b)) second
        ws = second_within b s whole first second asked numbered.1.0.0 numbered.1.0.1

        go : {x y : Call} → Numbers b whole first second → InTurn first second x y → BothAccepted b x y page out page' out'
        go (first_keeps e n) forward = accepted_revised b s whole first second (by_first e n) page out page' out' room wf ws
        go (first_keeps e n) backward = accepted_entered b s whole first second (by_first e n) page out page' out' room wf ws
        go (second_keeps e n) forward = accepted_entered b s whole second first (by_second e n) page out page' out' room ws wf
        go (second_keeps e n) backward = accepted_revised b s whole second first (by_second e n) page out page' out' room ws wf
