-- Lines judged as they come are judged as the whole text is, whatever a line says. Assumes nothing.
use mathlib.Core.Path.{◌≡◌, refl, ap, sym, ◌∙◌}
use mathlib.Core.Bool.{Bool, true, false, cond, ◌&&◌, true≢false}
use mathlib.Core.List.{List, [], ◌∷◌, ◌++◌, map, append-nil}
use Prim.Native.Nat.{ℕ, zero, suc, min, ◌+◌, ◌-◌, ◌≤◌, ◌<◌}
use native.Mathlib.Decide.{dec_lt}
use native.Mathlib.Omega.{arith}
use lib.Dec.{ltb}
use lib.ListN.{length, set, take, replicate, length-append}
use lib.Seq.{append_snoc}
use borrow.Author.Tests.{ltb-true, ltb-false, lt-ltb, le-ltb}
use Rattle.le.proofs.Tests.{each}
use Rattle.row.specs.Judging.{Judge, filled_up, refused_at, all_taken, first_unsound, first_bad, judged}
use Rattle.row.specs.Inner.{fair_by, judge_from, SoFar, judged_on}
use Rattle.row.proofs.Texts.{and_false}

-- a line is sound after a number where it is within its limits and its own number is above that; a blank line has number 0
pub record Lawful {A R : Type 0} (j : Judge A R) : Type 0 where
  pub within : A → Bool
  pub splits : (b : ℕ) (a : A) → j.sound b a ≡ (within a && ltb b (j.number a))
  pub few : (a : A) → within a ≡ true → j.number a ≤ j.most
  pub none : j.number j.blank ≡ 0

module _ {A R : Type 0} (j : Judge A R) (law : Lawful j) where
  -- Fair lines

  -- a sound line has a number above the one before, and at most the highest
  pub sound_number : (b : ℕ) (a : A) → j.sound b a ≡ true → (b < j.number a) × (j.number a ≤ j.most)
  sound_number b a h =
      let p = each (law.within a) (ltb b (j.number a) ∷ []) (sym (law.splits b a) ∙ h) in
      (ltb-true b (j.number a) p.1.0, law.few a p.0)

  -- a line that is sound after a number is sound by itself,
  sound_alone : (b : ℕ) (a : A) → j.sound b a ≡ true → j.sound 0 a ≡ true
  sound_alone b a h =
      let p = each (law.within a) (ltb b (j.number a) ∷ []) (sym (law.splits b a) ∙ h) in
      law.splits 0 a ∙ rw (p.0, lt-ltb 0 (j.number a) (omega (arith, ltb-true b (j.number a) p.1.0)))

  -- and one that is not is never sound
  never : (b : ℕ) (a : A) → j.sound 0 a ≡ false → j.sound b a ≡ false
  never b a h = go (j.sound b a) refl
    where
      go : (t : Bool) → j.sound b a ≡ t → t ≡ false
      go true e = absurd (true≢false (sym (sound_alone b a e) ∙ h))
      go false e = refl

  pub blank_bad : (b : ℕ) → j.sound b j.blank ≡ false
  blank_bad b =
      law.splits b j.blank ∙ rw (law.none, le-ltb b 0 (omega arith)) (and_false (law.within j.blank))

  pub fair_is : (b : ℕ) (a : A) → j.sound b a ≡ true → fair_by j a ≡ a
  unfolding fair_by
  fair_is b a h = rw (sound_alone b a h)

  pub fair_sound : (b : ℕ) (a : A) → j.sound b (fair_by j a) ≡ j.sound b a
  unfolding fair_by
  fair_sound b a = go (j.sound 0 a) refl
    where
      go : (t : Bool) → j.sound 0 a ≡ t → j.sound b (cond t a j.blank) ≡ j.sound b a
      go true e = refl
      go false e = blank_bad b ∙ sym (never b a e)

  -- THE NUMBER DECIDES of a fair line: it is within its limits, or blank.
  pub fair_rises : (b : ℕ) (a : A) → j.sound b a ≡ ltb b (j.number (fair_by j a))
  unfolding fair_by
  fair_rises b a = go (j.sound 0 a) refl
    where
      go : (t : Bool) → j.sound 0 a ≡ t → j.sound b a ≡ ltb b (j.number (cond t a j.blank))
      go true e =
          let p = each (law.within a) (ltb 0 (j.number a) ∷ []) (sym (law.splits 0 a) ∙ e) in
          law.splits b a ∙ rw p.0
      go false e = never b a e ∙ sym (rw law.none (le-ltb b 0 (omega arith)))

  -- One line more

  module _ (s : SoFar A) (a : A) where
    -- a refusal stays, whatever follows
    pub with_refused : s.refused ≡ true → (xs : List A) → judged_on j s xs ≡ judged_on j s (a ∷ xs)
    unfolding judged_on
    with_refused h xs = rw h

    module _ (on : s.refused ≡ false) where
      pub with_full : (r : SoFar A) → (r.refused ≡ true) × (r.count ≡ s.count) → j.most ≤ s.count → (xs : List A) → judged_on j r xs ≡ judged_on j s (a ∷ xs)
      unfolding judged_on
      with_full r e h xs = rw (on, e.0, e.1, le-ltb s.count j.most h, and_false (j.sound s.before a))

      -- `read` is the line as it was read: fair
      module _ (read : A) (fair : read ≡ fair_by j a) where
        decides : (t : Bool) → ltb s.before (j.number read) ≡ t → j.sound s.before a ≡ t
        decides t h = fair_rises s.before a ∙ ap (λ (x : A). ltb s.before (j.number x)) (sym fair) ∙ h

        pub with_bad : (r : SoFar A) → (r.refused ≡ true) × (r.count ≡ s.count) → j.number read ≤ s.before → (xs : List A) → judged_on j r xs ≡ judged_on j s (a ∷ xs)
        unfolding judged_on
        with_bad r e h xs = rw (on, e.0, e.1, decides false (le-ltb s.before (j.number read) h))

        pub with_sound : s.before < j.number read → s.count < j.most → (xs : List A)
            → judged_on j (record { refused = false; before = j.number read; count = s.count + 1; all = set s.all s.count read }) xs ≡ judged_on j s (a ∷ xs)
        unfolding judged_on
        with_sound h k xs =
            let sound = decides true (lt-ltb s.before (j.number read) h) in
            let same : read ≡ a = fair ∙ fair_is s.before a sound in
            rw (on, sound, lt-ltb s.count j.most k, same)

  -- The answer, where no line is left

  pub answer_no : (s : SoFar A) (none : List A) → none ≡ filled_up j [] → s.refused ≡ true → j.answer 10 s.count 0 none ≡ judged_on j s []
  unfolding judged_on
  answer_no s none e h = rw (h, e)

  pub answer_yes : (s : SoFar A) → s.refused ≡ false → j.answer 0 0 s.count s.all ≡ judged_on j s []
  unfolding judged_on
  answer_yes s h = rw h

  -- lines that are alike but for what makes them bad are judged alike
  judge_alike : {X : Type 0} (f g : X → A) → ((x : X) → fair_by j (f x) ≡ fair_by j (g x)) → (b : ℕ) (all : List A) (n : ℕ) (xs : List X)
      → judge_from j b all n (map f xs) ≡ judge_from j b all n (map g xs)
  judge_alike f g same b all n [] = refl
  judge_alike f g same b all n (x ∷ xs) = go (j.sound b (g x)) refl (judge_alike f g same (j.number (g x)) (set all n (g x)) (n + 1) xs)
    where
      alike : j.sound b (f x) ≡ j.sound b (g x)
      alike = sym (fair_sound b (f x)) ∙ ap (j.sound b) (same x) ∙ fair_sound b (g x)

      go : (t : Bool) → j.sound b (g x) ≡ t
          → judge_from j (j.number (g x)) (set all n (g x)) (n + 1) (map f xs) ≡ judge_from j (j.number (g x)) (set all n (g x)) (n + 1) (map g xs)
          → judge_from j b all n (f x ∷ map f xs) ≡ judge_from j b all n (g x ∷ map g xs)
      go false e rec = rw (alike, e)
      go true e rec =
          let one : f x ≡ g x = sym (fair_is b (f x) (alike ∙ e)) ∙ same x ∙ fair_is b (g x) e in
          rw (one, rec)

-- In turn

ltb_suc : (m n : ℕ) → ltb (suc m) (suc n) ≡ ltb m n
ltb_suc m n = go (ltb m n) refl
  where
    go : (t : Bool) → ltb m n ≡ t → ltb (suc m) (suc n) ≡ t
    go true e = lt-ltb (suc m) (suc n) (omega (arith, ltb-true m n e))
    go false e = le-ltb (suc m) (suc n) (omega (arith, ltb-false m n e))

module _ {A R : Type 0} (j : Judge A R) where
  set_next : (done : List A) (k : ℕ) (a : A) → set (done ++ replicate (suc k) j.blank) (length done) a ≡ (done ++ a ∷ []) ++ replicate k j.blank
  set_next [] k a = refl
  set_next (x ∷ done) k a = ap (λ (xs : List A). x ∷ xs) (set_next done k a)

  length_next : (done : List A) (a : A) → length (done ++ a ∷ []) ≡ suc (length done)
  length_next done a = length-append done (a ∷ []) ∙ omega arith

  array_next : (done : List A) (a : A) → length done < j.most → set (filled_up j done) (length done) a ≡ filled_up j (done ++ a ∷ [])
  unfolding filled_up
  array_next done a h =
      let k : j.most - length done ≡ suc (j.most - length (done ++ a ∷ [])) = omega (arith, length_next done a) in
      rw k (set_next done (j.most - length (done ++ a ∷ [])) a)

  -- the place of the first bad line behind those that are done
  bad_from : ℕ → List A → List A → ℕ
  bad_from b done xs = min (first_unsound j b xs) (j.most - length done)

  ends : ℕ → List A → List A → R
  ends b done xs = cond (ltb (bad_from b done xs) (length xs)) (refused_at j (length done + bad_from b done xs)) (all_taken j (done ++ xs))

  ends_none : (done : List A) (b : ℕ) → j.answer 0 0 (length done) (filled_up j done) ≡ ends b done []
  unfolding ends bad_from
  ends_none done b =
      let none : min 0 (j.most - length done) ≡ 0 = omega arith in
      rw none (ap (λ (xs : List A). all_taken j xs) (sym (append-nil done)))

  module _ (done : List A) (b : ℕ) (a : A) (xs : List A) where
    ends_here : bad_from b done (a ∷ xs) ≡ 0 → refused_at j (length done) ≡ ends b done (a ∷ xs)
    unfolding ends
    ends_here h =
        let z : length done ≡ length done + 0 = omega arith in
        rw (h, lt-ltb 0 (suc (length xs)) (omega arith)) (ap (λ (n : ℕ). refused_at j n) z)

    ends_on : length done < j.most → j.sound b a ≡ true → ends (j.number a) (done ++ a ∷ []) xs ≡ ends b done (a ∷ xs)
    unfolding ends bad_from
    ends_on room h =
        let k = first_unsound j (j.number a) xs in
        let l = length_next done a in
        let m : min (suc k) (j.most - length done) ≡ suc (min k (j.most - length (done ++ a ∷ []))) = omega (arith, l, room) in
        let n = min k (j.most - length (done ++ a ∷ [])) in
        let e : length (done ++ a ∷ []) + n ≡ length done + suc n = omega (arith, l) in
        rw (h, m, ltb_suc n (length xs), e, append_snoc done a xs)

  judge : (done : List A) (b : ℕ) (xs : List A) → length done ≤ j.most → judge_from j b (filled_up j done) (length done) xs ≡ ends b done xs
  unfolding bad_from
  judge done b [] h = ends_none done b
  judge done b (a ∷ xs) h = go (j.sound b a) (dec_lt (length done) j.most) refl (judge (done ++ a ∷ []) (j.number a) xs)
    where
      Rec : Type 0
      Rec = length (done ++ a ∷ []) ≤ j.most
          → judge_from j (j.number a) (filled_up j (done ++ a ∷ [])) (length (done ++ a ∷ [])) xs ≡ ends (j.number a) (done ++ a ∷ []) xs

      go : (t : Bool) → Dec (length done < j.most) → j.sound b a ≡ t → Rec
          → judge_from j b (filled_up j done) (length done) (a ∷ xs) ≡ ends b done (a ∷ xs)
      go false d e rec = rw e (ends_here done b a xs (rw e (omega arith)))
      go true (no k) e rec = rw (e, le-ltb (length done) j.most (omega arith)) (ends_here done b a xs (omega arith))
      go true (yes k) e rec =
          let next : length done + 1 ≡ length (done ++ a ∷ []) = omega (arith, length_next done a) in
          rw (e, lt-ltb (length done) j.most k, array_next done a k, next)
          (rec (omega (arith, k, length_next done a)) ∙ ends_on done b a xs k e)

  -- LINES JUDGED AS THEY COME, from the first on, are judged as the whole text is.
  pub judged_in_turn : (xs : List A) → judge_from j 0 (filled_up j []) 0 xs ≡ judged j xs
  unfolding ends bad_from judged
  judged_in_turn xs =
      let here : bad_from 0 [] xs ≡ first_bad j xs = omega arith in
      let place : 0 + bad_from 0 [] xs ≡ first_bad j xs = omega arith in
      judge [] 0 xs (omega arith) ∙ (λ i. cond (ltb (here i) (length xs)) (refused_at j (place i)) (all_taken j xs))

  pub judged_start : (none : List A) → none ≡ filled_up j [] → (xs : List A) → judged_on j (record { refused = false; before = 0; count = 0; all = none }) xs ≡ judged j xs
  unfolding judged_on
  judged_start none e xs = rw e (judged_in_turn xs)

  -- Of more lines than there may be one is refused: the first that is not sound of those that there may be, or the one behind them.
  pub after_most : (xs : List A) → j.most < length xs → (judged j xs ≡ refused_at j (first_unsound j 0 (take j.most xs))) × (first_unsound j 0 (take j.most xs) ≤ j.most)
  unfolding judged
  after_most xs h =
      let m = unsound_take j.most 0 xs in
      let low : first_bad j xs < length xs = omega arith in
      (rw (lt-ltb (first_bad j xs) (length xs) low) (ap (λ (n : ℕ). refused_at j n) (sym m)), omega (arith, m))
    where
      unsound_take : (n b : ℕ) (ys : List A) → first_unsound j b (take n ys) ≡ min (first_unsound j b ys) n
      unsound_take zero b ys = omega arith
      unsound_take (suc n) b [] = omega arith
      unsound_take (suc n) b (a ∷ ys) = go (j.sound b a) (unsound_take n (j.number a) ys)
        where
          go : (t : Bool) → first_unsound j (j.number a) (take n ys) ≡ min (first_unsound j (j.number a) ys) n
              → cond t (suc (first_unsound j (j.number a) (take n ys))) 0 ≡ min (cond t (suc (first_unsound j (j.number a) ys)) 0) (suc n)
          go true e = omega arith
          go false e = omega arith

-- Where numbers rise up to the most that there may be of lines, so many are never sound and one more

module _ {A R : Type 0} (j : Judge A R) (law : Lawful j) where
  few_sound : (b : ℕ) (xs : List A) → b ≤ j.most → b + first_unsound j b xs ≤ j.most
  few_sound b [] h = omega arith
  few_sound b (a ∷ xs) h = go (j.sound b a) refl (few_sound (j.number a) xs)
    where
      go : (t : Bool) → j.sound b a ≡ t → (j.number a ≤ j.most → j.number a + first_unsound j (j.number a) xs ≤ j.most)
          → b + cond t (suc (first_unsound j (j.number a) xs)) 0 ≤ j.most
      go false e rec = omega arith
      go true e rec = let n = sound_number j law b a e in omega (arith, n.0, rec n.1)

  -- the first that is not sound is then the first bad one
  first_bad_lem : (xs : List A) → first_bad j xs ≡ first_unsound j 0 xs
  first_bad_lem xs = omega (arith, few_sound 0 xs (omega arith))

  -- The lowest line that is not sound is refused, with 10.
  pub lowest_unsound : (xs : List A) → first_unsound j 0 xs < length xs → judged j xs ≡ refused_at j (first_unsound j 0 xs)
  unfolding judged
  lowest_unsound xs h = rw (first_bad_lem xs, lt-ltb (first_unsound j 0 xs) (length xs) h)

  -- Where every line is sound, all are taken.
  pub every_sound : (xs : List A) → length xs ≤ first_unsound j 0 xs → judged j xs ≡ all_taken j xs
  unfolding judged
  every_sound xs h = rw (first_bad_lem xs, le-ltb (first_unsound j 0 xs) (length xs) h)

  -- Lines that are alike but for what makes them bad are judged alike.
  pub judged_alike : {X : Type 0} (f g : X → A) → ((x : X) → fair_by j (f x) ≡ fair_by j (g x)) → (xs : List X) → judged j (map f xs) ≡ judged j (map g xs)
  judged_alike f g same xs =
      sym (judged_in_turn j (map f xs)) ∙ judge_alike j law f g same 0 (filled_up j []) 0 xs ∙ judged_in_turn j (map g xs)
