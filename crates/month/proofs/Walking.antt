-- The members in turn: what is earned so far, and what is left. Assumes nothing.
use mathlib.Core.Path.{◌≡◌, refl, sym, ap, ◌∙◌}
use mathlib.Core.Bool.{Bool, true, false, true≢false}
use mathlib.Core.List.{List, [], ◌∷◌, map}
use Prim.Native.Nat.{ℕ, suc, ◌+◌, ◌-◌, ◌≤◌, ◌<◌, min}
use native.Mathlib.Numerals.{add-one}
use native.Mathlib.Nat.{min-eq_left, min-eq_right}
use native.Mathlib.Decide.{dec_le}
use native.Mathlib.Omega.{arith}
use borrow.Author.Tests.{eq-eqb, ne_eqb}
use lib.ListN.{length, get_or, take, drop, set, length-drop, length-map, drop_of_length-le}
use lib.Seq.{drop-cons, get_or-drop, drop-drop, take_all, take-suc, take-suc-set}
use Rattle.units.specs.declared.Grains.{Grains}
use Rattle.units.specs.declared.Fen.{Fen}
use Rattle.units.specs.Money.{grains_plus, grains_to_fen}
use Rattle.score.specs.declared.answer.Earned.TheVariants.{Accepted, Refused}
use Rattle.score.specs.Scoring.{grains_earned}
use Rattle.share.proofs.Lists.{get_d_mapped}
use Rattle.register.specs.declared.Entry.{Entry}
use Rattle.register.specs.Register.{blank_entry}
use Rattle.month.specs.declared.Ramped.{Ramped}
use Rattle.month.specs.declared.members.MemberEarned.{MemberEarned}
use Rattle.month.specs.declared.members.MemberEarned.TheVariants.{ScoreAndHours, NotScored, NotRamped}
use Rattle.month.specs.Settling.{no_ramping, earned_with, earnings, first_refused_member, member_fault, earned_grains}

abbrev pub no_grains : Grains
no_grains = record { 0 = 0 }

abbrev pub no_fen : Fen
no_fen = record { 0 = 0 }

-- the fen of grains
abbrev pub fen_of : Grains → Fen
fen_of g = record { 0 = grains_to_fen g.0 }

-- a member's turn, by its cases

module _ (g : Grains) (x : Ramped) where
  pub turn_ramping : (x.number ≡ 0 → ⊥) → NotRamped x.number x.place ≡ earned_with (Accepted g) x
  unfolding earned_with
  turn_ramping some = rw (ne_eqb x.number 0 some) refl

  pub turn_both : (s : ℕ) → x.number ≡ 0 → s ≡ grains_plus g.0 x.grains.0 → ScoreAndHours (record { 0 = s }) ≡ earned_with (Accepted g) x
  unfolding earned_with
  turn_both s z e = rw (eq-eqb x.number 0 z, e) refl

pub turn_score : (number place : ℕ) (x : Ramped) → NotScored number place ≡ earned_with (Refused number place) x
unfolding earned_with
turn_score number place x = refl

-- one refused, or none

abbrev pub is_both : MemberEarned → Bool
is_both (ScoreAndHours g) = true
is_both (NotScored number place) = false
is_both (NotRamped number place) = false

refused_here : (x : MemberEarned) (es : List MemberEarned) → is_both x ≡ false → first_refused_member (x ∷ es) ≡ 0
unfolding first_refused_member
refused_here (ScoreAndHours g) es e = absurd (true≢false e)
refused_here (NotScored number place) es e = refl
refused_here (NotRamped number place) es e = refl

refused_later : (g : Grains) (es : List MemberEarned) → first_refused_member (ScoreAndHours g ∷ es) ≡ suc (first_refused_member es)
unfolding first_refused_member
refused_later g es = refl

refused_none : first_refused_member [] ≡ 0
unfolding first_refused_member
refused_none = refl

grains_of_lem : (g : Grains) → earned_grains (ScoreAndHours g) ≡ g
unfolding earned_grains
grains_of_lem g = refl

head_of : {A : Type 0} (i : ℕ) (xs : List A) (d : A) → get_or (drop i xs) 0 d ≡ get_or xs i d
head_of i xs d = get_or-drop i xs 0 d ∙ ap (λ (n : ℕ). get_or xs n d) (omega arith)

-- a part of the series, cut at its end

module _ {A : Type 0} (xs : List A) (at v end : ℕ) (h : at ≤ length xs) (is : end ≡ at + min v (length xs - at)) where
  pub cut_take : take (end - at) (drop at xs) ≡ take v (drop at xs)
  cut_take = go (dec_le v (length xs - at))
    where
      go : Dec (v ≤ length xs - at) → take (end - at) (drop at xs) ≡ take v (drop at xs)
      go (yes l) =
          let m = min-eq_left l in
          let e : end - at ≡ v = omega arith in
          rw e refl
      go (no f) =
          let m : min v (length xs - at) ≡ length xs - at = min-eq_right (omega arith) in
          let d = length-drop at xs in
          take_all (end - at) (drop at xs) (omega arith) ∙ sym (take_all v (drop at xs) (omega arith))

  pub cut_drop : drop v (drop at xs) ≡ drop end xs
  cut_drop = drop-drop v at xs ∙ go (dec_le v (length xs - at))
    where
      go : Dec (v ≤ length xs - at) → drop (at + v) xs ≡ drop end xs
      go (yes l) =
          let m = min-eq_left l in
          let e : end ≡ at + v = omega arith in
          rw e refl
      go (no f) =
          let m : min v (length xs - at) ≡ length xs - at = min-eq_right (omega arith) in
          drop_of_length-le xs {i = at + v} (omega arith) ∙ sym (drop_of_length-le xs {i = end} (omega arith))

pub length_earnings : (es : List Entry) (book series lengths : List ℕ) (ramped : List Ramped) → length (earnings es book series lengths ramped) ≡ length es
unfolding earnings
length_earnings [] book series lengths ramped = refl
length_earnings (e ∷ es) book series lengths ramped = ap suc (length_earnings es book _ _ _)

-- the first line, with its number of values, its ramping file, and what is left of both
opens : (e : Entry) (es : List Entry) (book series lengths : List ℕ) (ramped : List Ramped) (v : ℕ) (a : Ramped) (ls : List ℕ) (rest : List Ramped)
    → get_or lengths 0 0 ≡ v → get_or ramped 0 no_ramping ≡ a → drop 1 lengths ≡ ls → drop 1 ramped ≡ rest
    → earnings (e ∷ es) book series lengths ramped ≡ earned_with (grains_earned e.member book (take v series)) a ∷ earnings es book (drop v series) ls rest
unfolding earnings
opens e es book series lengths ramped v a ls rest ev ea el er = λ j. earned_with (grains_earned e.member book (take (ev j) series)) (ea j) ∷ earnings es book (drop (ev j) series) (el j) (er j)

module _ (es : List Entry) (book series lengths : List ℕ) (ramped : List Ramped) where
  abbrev all : List MemberEarned
  all = earnings es book series lengths ramped

  -- what the member of line i earns, over values that begin at `at`
  abbrev pub turn_of : ℕ → ℕ → MemberEarned
  turn_of at i = earned_with (grains_earned (get_or es i blank_entry).member book (take (get_or lengths i 0) (drop at series))) (get_or ramped i no_ramping)

  -- the same, over a part that is those values
  pub turn_is : (at i : ℕ) (part : List ℕ) (x : MemberEarned) → part ≡ take (get_or lengths i 0) (drop at series)
      → x ≡ earned_with (grains_earned (get_or es i blank_entry).member book part) (get_or ramped i no_ramping) → turn_of at i ≡ x
  turn_is at i part x p is = sym (is ∙ rw p refl)

  -- the walk before line i, whose values begin at `at`
  pub record Walk (grains : List Grains) (at i : ℕ) : Type 0 where
    pub within : at ≤ length series
    pub left : drop i all ≡ earnings (drop i es) book (drop at series) (drop i lengths) (drop i ramped)
    pub none : i + first_refused_member (drop i all) ≡ first_refused_member all
    pub done : take i grains ≡ take i (map earned_grains all)

  pub walk_start : (grains : List Grains) → Walk grains 0 0
  walk_start grains = record { within = omega arith; left = refl; none = omega arith; done = refl }

  next : (at i : ℕ) → i < length es
      → earnings (drop i es) book (drop at series) (drop i lengths) (drop i ramped)
      ≡ turn_of at i ∷ earnings (drop (i + 1) es) book (drop (get_or lengths i 0) (drop at series)) (drop (i + 1) lengths) (drop (i + 1) ramped)
  next at i h =
      let cons : drop i es ≡ get_or es i blank_entry ∷ drop (i + 1) es = rw add-one (drop-cons es i blank_entry h) in
      ap (λ (xs : List Entry). earnings xs book (drop at series) (drop i lengths) (drop i ramped)) cons
      ∙ opens (get_or es i blank_entry) (drop (i + 1) es) book (drop at series) (drop i lengths) (drop i ramped)
      (get_or lengths i 0) (get_or ramped i no_ramping) (drop (i + 1) lengths) (drop (i + 1) ramped) (head_of i lengths 0) (head_of i ramped no_ramping)
      (drop-drop 1 i lengths) (drop-drop 1 i ramped)

  module _ (grains : List Grains) (at i : ℕ) (w : Walk grains at i) (h : i < length es) where
    here : drop i all ≡ turn_of at i ∷ drop (i + 1) all
    here =
        let e = w.left ∙ next at i h in
        e ∙ ap (λ (t : List MemberEarned). turn_of at i ∷ t) (sym (ap (drop 1) e) ∙ drop-drop 1 i all)

    at_i : (d : MemberEarned) → get_or all i d ≡ turn_of at i
    at_i d = sym (head_of i all d) ∙ ap (λ (l : List MemberEarned). get_or l 0 d) here

    pub walk_stop : (x : MemberEarned) → turn_of at i ≡ x → is_both x ≡ false
        → (first_refused_member all < length all) × (member_fault i x ≡ member_fault (first_refused_member all) (get_or all (first_refused_member all) (NotScored 0 0)))
    walk_stop x e refused =
        let z : first_refused_member (drop i all) ≡ 0 = ap first_refused_member (here ∙ ap (λ (y : MemberEarned). y ∷ drop (i + 1) all) e) ∙ refused_here x _ refused in
        let f : first_refused_member all ≡ i = omega (arith, w.none) in
        (omega (arith, length_earnings es book series lengths ramped), sym (rw (f, at_i (NotScored 0 0), e) refl))

    pub walk_on : (v end : ℕ) (g : Grains) → v ≡ get_or lengths i 0 → end ≡ at + min v (length series - at) → end ≤ length series → i < length grains
        → turn_of at i ≡ ScoreAndHours g → Walk (set grains i g) end (i + 1)
    walk_on v end g ev is most room e =
        let z : first_refused_member (drop i all) ≡ suc (first_refused_member (drop (i + 1) all)) = ap first_refused_member (here ∙ ap (λ (x : MemberEarned). x ∷ drop (i + 1) all) e) ∙
        refused_later g _ in
        let long = length-map all earned_grains in
        let count = length_earnings es book series lengths ramped in
        let m : get_or (map earned_grains all) i no_grains ≡ g =
        get_d_mapped earned_grains all i (NotScored 0 0) no_grains (omega arith) ∙ ap earned_grains (at_i (NotScored 0 0) ∙ e) ∙ grains_of_lem g in
        let ts = take-suc (map earned_grains all) i no_grains (omega arith) in
        let rest = w.left ∙ next at i h in
        let tail = sym (drop-drop 1 i all) ∙ ap (drop 1) rest in
        let cut = ap (λ (n : ℕ). drop n (drop at series)) (sym ev) ∙ cut_drop series at v end w.within is in
        record {
          within = most;
          left = tail ∙ ap (λ (s : List ℕ). earnings (drop (i + 1) es) book s (drop (i + 1) lengths) (drop (i + 1) ramped)) cut;
          none = omega (arith, w.none);
          done = rw (add-one, take-suc-set grains i g room, ts, w.done, m) refl;
        }

  pub walk_end : (grains : List Grains) (at i : ℕ) → Walk grains at i → i ≡ length es → (first_refused_member all ≡ length all) × (take i grains ≡ map earned_grains all)
  walk_end grains at i w e =
      let long = length_earnings es book series lengths ramped in
      let long₂ = length-map all earned_grains in
      let z : first_refused_member (drop i all) ≡ 0 = ap first_refused_member (drop_of_length-le all {i = i} (omega arith)) ∙ refused_none in
      (omega (arith, w.none), w.done ∙ take_all i (map earned_grains all) (omega arith))
