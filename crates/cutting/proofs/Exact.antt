-- What a cut comes to is what the table says, both ways; and the two parts that are found cut the book. Assumes nothing.
use mathlib.Core.Path.{◌≡◌, refl, sym, ◌∙◌, ap}
use mathlib.Core.Bool.{Bool, true, false, ◌||◌, true≢false}
use mathlib.Core.Logic.{◌⊎◌, inl, inr, ◌↔◌}
use mathlib.Core.List.{List, Memᴰ as In}
use Prim.Native.Nat.{ℕ, ◌+◌, ◌%◌, ◌<◌}
use native.Mathlib.Decide.{dec_lt}
use native.Mathlib.Omega.{arith}
use lib.Dec.{eqb}
use borrow.Author.Tests.{eq-eqb, lt-ltb, eqb-true, eqb-false}
use Rattle.units.specs.Month.{minutes_per_quarter}
use Rattle.call.specs.declared.Call.{Call}
use Rattle.call.specs.Revising.{live}
use Rattle.call.specs.Services.{deep_peak, reserve}
use Rattle.call.specs.Key.{key_of, call_key}
use Rattle.call.specs.Service.{Stated, is_live, is_contested_lem as state-contested, is_withdrawn_lem as state-withdrawn}
use Rattle.book.specs.Book.{header_at, calls_of}
use Rattle.book.specs.Check.{header_minutes}
use Rattle.book.specs.Sound.{Sound}
use Rattle.book.specs.Cut.{NewNumber, Cut as IsCut}
use Rattle.book.proofs.Parts.{call_within}
use Rattle.rule.specs.Standing.{is_contested, is_withdrawn}
use Rattle.join.proofs.Cutting.{Room, BothAccepted, both_joined}
use Rattle.std.specs.Prelude.{Some, None, Ok}
use Rattle.wish.specs.Wish.{old_in}
use Rattle.wish.proofs.Olds.{OldIs, has_none, has_one, in_old, old_is}
use Rattle.cutting.specs.Parts.{first_part_of, second_part_of}
use Rattle.cutting.specs.Cutting.{Cut, highest, is_window, is_inside, cut_new, cut_window, cut_call, cutting}
use Rattle.cutting.specs.Outcomes.{Has, LiveWindow, Inside, CutOutcome, no_such_call, is_withdrawn_lem, is_contested_lem, is_no_window, is_at_highest, is_not_inside, is_in_use, is_cut}
use Rattle.cutting.proofs.Cases.{of_withdrawn, of_contested, of_other, of_window, of_highest, of_outside, of_inside, of_free, of_used, of_none, of_call_lem, inside_is}
use Rattle.cutting.proofs.Desk.{desk_cuts}

-- The tests, and what they say

one_of : (t u : Bool) → (t || u) ≡ true → (t ≡ true) ⊎ (u ≡ true)
one_of true u h = inl refl
one_of false u h = inr h

module _ (x : Call) where
  pub window_is : is_window x ≡ true → (x.service ≡ deep_peak) ⊎ (x.service ≡ reserve)
  unfolding is_window
  window_is h = go (one_of (eqb x.service deep_peak) (eqb x.service reserve) h)
    where
      go : (eqb x.service deep_peak ≡ true) ⊎ (eqb x.service reserve ≡ true) → (x.service ≡ deep_peak) ⊎ (x.service ≡ reserve)
      go (inl e) = inl (eqb-true _ _ e)
      go (inr e) = inr (eqb-true _ _ e)

  is_window_lem : (x.service ≡ deep_peak) ⊎ (x.service ≡ reserve) → is_window x ≡ true
  unfolding is_window
  is_window_lem (inl e) = rw e refl
  is_window_lem (inr e) = rw e refl

  module _ (at : ℕ) where
    is_inside_lem : Inside x at → is_inside x at ≡ true
    unfolding is_inside
    is_inside_lem i = rw (eq-eqb (at % minutes_per_quarter) 0 i.quarter, lt-ltb x.start at i.behind, lt-ltb at (x.start + x.length) i.before) refl

  -- of a live call neither test of the state holds
  module _ (l : x.state ≡ live) where
    not_withdrawn : is_withdrawn x ≡ false
    not_withdrawn = rw l refl

    not_contested : is_contested x ≡ false
    not_contested = rw l refl

-- a test that does not say true says false
not_so : (t : Bool) → (t ≡ true → ⊥) → t ≡ false
not_so true n = absurd (n refl)
not_so false n = refl

module _ (b : List ℕ) (s : Sound b) (member number at new : ℕ) (small : number < 4294967296) (small-new : new < 4294967296) where
  abbrev Outcome : Cut → Type 0
  Outcome r = CutOutcome b member number at new r

  -- a key is a member and a number
  has_of : (n : ℕ) → n < 4294967296 → (x : Call) → In x (calls_of b) → call_key x ≡ key_of member n → Has b member n x
  has_of n h x i e = let k = (call_within b s x i).number in record { there = i; whose = omega (arith, k, h, e); under = omega (arith, k, h, e) }

  key_of_lem : (n : ℕ) (x : Call) → Has b member n x → call_key x ≡ key_of member n
  key_of_lem n x h = let p = h.whose in let q = h.under in omega (arith, p, q)

  old_of : (n : ℕ) (x : Call) → Has b member n x → old_in b member n ≡ Some x
  old_of n x h = in_old b s member n x h.there (key_of_lem n x h)

  no_old : (n : ℕ) → n < 4294967296 → ((x : Call) → Has b member n x → ⊥) → old_in b member n ≡ None
  no_old n l h = go (old_is b s member n)
    where
      go : OldIs b member n → old_in b member n ≡ None
      go (has_none e z) = e
      go (has_one x e i k) = absurd (h x (has_of n l x i k))

  fresh_of : (x : Call) → Has b member number x → ((y : Call) → Has b member new y → ⊥) → NewNumber b (second_part_of x at new)
  fresh_of x h n y i p q = n y (record { there = i; whose = p ∙ h.whose; under = q })

  live_of : (x : Call) → Has b member number x → is_withdrawn x ≡ false → is_contested x ≡ false → x.state ≡ live
  live_of x h p q = go (call_within b s x h.there).content
    where
      go : Stated (header_minutes (header_at b)) x → x.state ≡ live
      go (is_live e m r) = e
      go (state-contested e z) = absurd (eqb-false _ _ q e)
      go (state-withdrawn e z) = absurd (eqb-false _ _ p e)

  -- What is found is in the table

  to_number : (x : Call) → Has b member number x → LiveWindow x → x.revision < highest → Inside x at → (r : Cut) → r ≡ cut_new x at new (old_in b member new) → Outcome r
  to_number x h w l i r e = go (old_is b s member new)
    where
      go : OldIs b member new → Outcome r
      go (has_none f z) =
          is_cut x (e ∙ ap (cut_new x at new) f ∙ of_free x at new) h
          (record {
            has = h.there;
            live = w.live;
            window = w.window;
            not_last = omega (arith, l);
            quarter = i.quarter;
            inside = (i.behind, i.before);
            fresh = fresh_of x h (λ y k. z y k.there (key_of_lem new y k));
            small = small-new;
          })
      go (has_one y f j k) = is_in_use x y (e ∙ ap (cut_new x at new) f ∙ of_used x at new y) h w l i (has_of new small-new y j k)

  to_minute : (x : Call) → Has b member number x → LiveWindow x → x.revision < highest → (r : Cut) → r ≡ cut_window x at new (old_in b member new) → Outcome r
  to_minute x h w l r e = go (is_inside x at) refl
    where
      go : (t : Bool) → is_inside x at ≡ t → Outcome r
      go true i = to_number x h w l (inside_is x at i) r (e ∙ of_inside x at new (old_in b member new) l i)
      go false i = is_not_inside x (e ∙ of_outside x at new (old_in b member new) l i) h w l (λ k. true≢false (sym (is_inside_lem x at k) ∙ i))

  to_window : (x : Call) → Has b member number x → LiveWindow x → (r : Cut) → r ≡ cut_window x at new (old_in b member new) → Outcome r
  to_window x h w r e = go (dec_lt x.revision highest)
    where
      go : Dec (x.revision < highest) → Outcome r
      go (yes l) = to_minute x h w l r e
      go (no n) =
          let m = (call_within b s x h.there).revision.1 in
          is_at_highest x (e ∙ of_highest x at new (old_in b member new) (omega arith)) h w (omega arith)

  to_call : (x : Call) → Has b member number x → (r : Cut) → r ≡ cut_call x at new (old_in b member new) → Outcome r
  to_call x h r e = go (is_withdrawn x) refl (is_contested x) refl (is_window x) refl
    where
      go : (t : Bool) → is_withdrawn x ≡ t → (u : Bool) → is_contested x ≡ u → (v : Bool) → is_window x ≡ v → Outcome r
      go true p u q v w = is_withdrawn_lem x (e ∙ of_withdrawn x at new (old_in b member new) p) h (eqb-true _ _ p)
      go false p true q v w = is_contested_lem x (e ∙ of_contested x at new (old_in b member new) p q) h (eqb-true _ _ q)
      go false p false q false w =
          is_no_window x (e ∙ of_other x at new (old_in b member new) p q w) h (live_of x h p q) (λ k. true≢false (sym (is_window_lem x k.window) ∙ w))
      go false p false q true w =
          to_window x h (record { live = live_of x h p q; window = window_is x w }) r (e ∙ of_window x at new (old_in b member new) p q w)

  told : Outcome (cutting b member number at new)
  told = go (old_is b s member number)
    where
      go : OldIs b member number → Outcome (cutting b member number at new)
      go (has_none e z) = no_such_call (of_none b member number at new e) (λ x h. z x h.there (key_of_lem number x h))
      go (has_one x e i k) = to_call x (has_of number small x i k) (cutting b member number at new) (of_call_lem b member number at new x e)

  -- What is in the table is found

  by_call : (x : Call) → Has b member number x → cutting b member number at new ≡ cut_call x at new (old_in b member new)
  by_call x h = of_call_lem b member number at new x (old_of number x h)

  by_window : (x : Call) → Has b member number x → LiveWindow x → cutting b member number at new ≡ cut_window x at new (old_in b member new)
  by_window x h w = by_call x h ∙ of_window x at new (old_in b member new) (not_withdrawn x w.live) (not_contested x w.live) (is_window_lem x w.window)

  by_minute : (x : Call) → Has b member number x → LiveWindow x → x.revision < highest → Inside x at → cutting b member number at new ≡ cut_new x at new (old_in b member new)
  by_minute x h w l i = by_window x h w ∙ of_inside x at new (old_in b member new) l (is_inside_lem x at i)

  found_as_told : (r : Cut) → Outcome r → r ≡ cutting b member number at new
  found_as_told r (no_such_call e z) = e ∙ sym (of_none b member number at new (no_old number small z))
  found_as_told r (is_withdrawn_lem x e h p) = e ∙ sym (by_call x h ∙ of_withdrawn x at new (old_in b member new) (eq-eqb _ _ p))
  found_as_told r (is_contested_lem x e h p) =
      e ∙ sym (by_call x h ∙ of_contested x at new (old_in b member new) (rw p refl) (eq-eqb _ _ p))
  found_as_told r (is_no_window x e h l z) =
      let n : is_window x ≡ false = not_so (is_window x) (λ t. z (record { live = l; window = window_is x t })) in
      e ∙ sym (by_call x h ∙ of_other x at new (old_in b member new) (not_withdrawn x l) (not_contested x l) n)
  found_as_told r (is_at_highest x e h w l) = e ∙ sym (by_window x h w ∙ of_highest x at new (old_in b member new) (omega arith))
  found_as_told r (is_not_inside x e h w l z) =
      let n : is_inside x at ≡ false = not_so (is_inside x at) (λ t. z (inside_is x at t)) in
      e ∙ sym (by_window x h w ∙ of_outside x at new (old_in b member new) l n)
  found_as_told r (is_in_use x y e h w l i k) = e ∙ sym (by_minute x h w l i ∙ ap (cut_new x at new) (old_of new y k) ∙ of_used x at new y)
  found_as_told r (is_cut x e h m) =
      let n : (y : Call) → Has b member new y → ⊥ = λ y k. m.fresh y k.there (k.whose ∙ sym h.whose) k.under in
      let w : LiveWindow x = record { live = m.live; window = m.window } in
      let i : Inside x at = record { quarter = m.quarter; behind = m.inside.0; before = m.inside.1 } in
      let z = m.not_last in
      e ∙ sym (by_minute x h w (omega arith) i ∙ ap (cut_new x at new) (no_old new small-new n) ∙ of_free x at new)

  -- THE ANSWER IS WHAT THE TABLE SAYS, both ways: so each thing that stands in the way is told exactly where it does and nothing before it does, and two parts are found exactly where
  -- the book may be cut so.
  pub cut_exact : (r : Cut) → (r ≡ cutting b member number at new) ↔ Outcome r
  cut_exact r = (λ e. rw e told, found_as_told r)

  -- two parts, joined in turn, cut a call of the member's under the number: both are accepted, and the book that is left is sound, and a cut of the first one
  abbrev pub CutInTurn : Call → Call → List ℕ → List ℕ → List ℕ → List ℕ → Type 0
  CutInTurn x y page out page' out' =
      (whole : Call) × Has b member number whole × BothAccepted b x y page out page' out' × Sound (both_joined b x y page out page' out')
      × IsCut b (both_joined b x y page out page' out') whole x y

  -- THE TWO PARTS THAT ARE FOUND CUT THE BOOK, where there is room.
  pub found_cuts : (x y : Call) → cutting b member number at new ≡ Ok (x, y) → (page out page' out' : List ℕ) → Room b page out page' out' → CutInTurn x y page out page' out'
  found_cuts x y e page out page' out' room = go told
    where
      go : Outcome (cutting b member number at new) → CutInTurn x y page out page' out'
      go (no_such_call f z) = absurd cc
      go (is_withdrawn_lem w f h p) = absurd cc
      go (is_contested_lem w f h p) = absurd cc
      go (is_no_window w f h l z) = absurd cc
      go (is_at_highest w f h v l) = absurd cc
      go (is_not_inside w f h v l z) = absurd cc
      go (is_in_use w z f h v l i k) = absurd cc
      go (is_cut w f h m) =
          let both : ◌≡◌ {A = Call × Call} (x, y) (first_part_of w at, second_part_of w at new) = cc in
          let p : x ≡ first_part_of w at = ap (λ (t : Call × Call). t.0) both in
          let q : y ≡ second_part_of w at new = ap (λ (t : Call × Call). t.1) both in
          let d = desk_cuts b s w at new m page out page' out' room in
          (w, h, rw (p, q) d.0, rw (p, q) d.1, rw (p, q) d.2)
