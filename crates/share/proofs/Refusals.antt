-- Each refusal is given exactly under its condition.
use mathlib.Core.Path.{◌≡◌, refl, sym, ap, ◌∙◌}
use mathlib.Core.Bool.{Bool, true, false, cond, true≢false}
use mathlib.Core.List.{List, [], ◌∷◌}
use mathlib.Core.Logic.{inl, inr, ◌≢◌}
use Prim.Native.Nat.{ℕ, zero, suc, ◌≤◌, ◌<◌}
use native.Mathlib.Nat.{not-suc-le-zero}
use native.Mathlib.Decide.{dec_lt, dec_le, ℕ_discrete}
use native.Mathlib.Omega.{arith}
use lib.IntN.{pos}
use lib.ListN.{length, get_or}
use Rattle.share.specs.declared.Line.{Line}
use Rattle.share.specs.Sharing.{most_number, most_compensation, most_part, compensated, below, generators_amount, generators_gap, all_weights, line_is_sound, first_bad_line}
use Rattle.share.specs.Sharing.{SharingOutcome, sharing_refused, sharing, signed}
use Rattle.share.specs.Forms.{blank_line}
use Rattle.share.specs.Verdict.{number_before, SoundAt, AllSound, FirstBad, SharingVerdict, above, ten, more, fifteen, sixteen, shared}
use Rattle.share.proofs.Signs.{signed_none, none_signed}
use Rattle.share.proofs.Bounds.{sound_from, sound_to}
use Rattle.share.proofs.Cases.{settled_15, settled_16, settled_on, bad_of_64, sharing_part, sharing_10, sharing_on}

number_step : (first : ℕ) (l : Line) (ls : List Line) (k : ℕ) → number_before l.number ls k ≡ number_before first (l ∷ ls) (suc k)
unfolding number_before
number_step first l ls zero = refl
number_step first l ls (suc k) = refl

-- the lines before the first bad one are sound, and it is not
sound_upto : (first : ℕ) (ls : List Line) (k : ℕ) → k < first_bad_line first ls → line_is_sound (number_before first ls k) (get_or ls k blank_line) ≡ true
unfolding number_before
sound_upto first [] k h = absurd (not-suc-le-zero h)
sound_upto first (l ∷ ls) zero h = go (line_is_sound first l) refl h
  where
    go : (b : Bool) → line_is_sound first l ≡ b → 0 < cond b (suc (first_bad_line l.number ls)) 0 → line_is_sound first l ≡ true
    go true e k = e
    go false e k = absurd (not-suc-le-zero k)
sound_upto first (l ∷ ls) (suc k) h = go (line_is_sound first l) h (sound_upto l.number ls k)
  where
    go : (b : Bool) → suc k < cond b (suc (first_bad_line l.number ls)) 0
        → (k < first_bad_line l.number ls → line_is_sound (number_before l.number ls k) (get_or ls k blank_line) ≡ true)
        → line_is_sound (number_before first (l ∷ ls) (suc k)) (get_or ls k blank_line) ≡ true
    go true i rec = ap (λ (n : ℕ). line_is_sound n (get_or ls k blank_line)) (sym (number_step first l ls k)) ∙ rec (omega arith)
    go false i rec = absurd (not-suc-le-zero i)

bad_at : (first : ℕ) (ls : List Line) → first_bad_line first ls < length ls → line_is_sound (number_before first ls (first_bad_line first ls)) (get_or ls (first_bad_line first ls) blank_line) ≡ false
unfolding number_before
bad_at first [] h = absurd (not-suc-le-zero h)
bad_at first (l ∷ ls) h = go (line_is_sound first l) refl h (bad_at l.number ls)
  where
    go : (b : Bool) → line_is_sound first l ≡ b → cond b (suc (first_bad_line l.number ls)) 0 < suc (length ls)
        → (first_bad_line l.number ls < length ls → line_is_sound (number_before l.number ls (first_bad_line l.number ls)) (get_or ls (first_bad_line l.number ls) blank_line) ≡ false)
        → line_is_sound (number_before first (l ∷ ls) (cond b (suc (first_bad_line l.number ls)) 0)) (get_or (l ∷ ls) (cond b (suc (first_bad_line l.number ls)) 0) blank_line) ≡ false
    go true e k rec = ap (λ (n : ℕ). line_is_sound n (get_or ls (first_bad_line l.number ls) blank_line)) (sym (number_step first l ls (first_bad_line l.number ls))) ∙ rec (omega arith)
    go false e k rec = e

-- the place that is computed is the place of the first bad line
pub first_bad_lem : (ls : List Line) → first_bad_line 0 ls < length ls → FirstBad ls (first_bad_line 0 ls)
first_bad_lem ls h =
    record {
      within = h;
      before = λ k i. sound_from _ _ (sound_upto 0 ls k i);
      bad = λ s. true≢false (sym (sound_to _ _ s) ∙ bad_at 0 ls h);
    }

pub only_bad : (ls : List Line) (p : ℕ) → FirstBad ls p → first_bad_line 0 ls ≡ p
only_bad ls p f = go (dec_lt (first_bad_line 0 ls) p) (dec_lt p (first_bad_line 0 ls))
  where
    go : Dec (first_bad_line 0 ls < p) → Dec (p < first_bad_line 0 ls) → first_bad_line 0 ls ≡ p
    go (yes h) d = absurd (true≢false (sym (sound_to _ _ (f.before (first_bad_line 0 ls) h)) ∙ bad_at 0 ls (omega (arith, f.within))))
    go (no g) (yes h) = absurd (f.bad (sound_from _ _ (sound_upto 0 ls p h)))
    go (no g) (no i) = omega arith

pub all_sound : (ls : List Line) → length ls ≤ first_bad_line 0 ls → AllSound ls
all_sound ls h k i = sound_from _ _ (sound_upto 0 ls k (omega arith))

none_before : (ls : List Line) (n : ℕ) → ((k : ℕ) → k < n → SoundAt ls k) → n ≤ length ls → n ≤ first_bad_line 0 ls
none_before ls n a l = go (dec_le n (first_bad_line 0 ls))
  where
    go : Dec (n ≤ first_bad_line 0 ls) → n ≤ first_bad_line 0 ls
    go (yes h) = h
    go (no f) =
        let h : first_bad_line 0 ls < n = omega arith in
        absurd (true≢false (sym (sound_to _ _ (a (first_bad_line 0 ls) h)) ∙ bad_at 0 ls (omega arith)))

pub none_bad : (ls : List Line) → AllSound ls → length ls ≤ first_bad_line 0 ls
none_bad ls a = none_before ls (length ls) a (omega arith)

-- the generators' R is 0 exactly where it is without its sign
no_gap : (part : ℕ) (ls : List Line) → generators_amount part ls ≡ 0 → generators_gap part ls ≡ pos 0
no_gap part ls e = ap (signed (below ls)) e ∙ signed_none (below ls)

some_gap : (part : ℕ) (ls : List Line) → generators_gap part ls ≢ pos 0 → 0 < generators_amount part ls
some_gap part ls f = go (ℕ_discrete (generators_amount part ls) 0)
  where
    go : Dec (generators_amount part ls ≡ 0) → 0 < generators_amount part ls
    go (yes e) = absurd (f (no_gap part ls e))
    go (no g) = omega arith

module _ (part : ℕ) (ls : List Line) where
  -- THE TABLE: sharing gives one of its verdicts ..
  pub verdict : SharingVerdict part ls (sharing part ls)
  verdict =
      go (dec_le part most_part) (dec_lt (first_bad_line 0 ls) (length ls)) (dec_le (compensated ls) most_compensation) (ℕ_discrete (generators_amount part ls) 0) (ℕ_discrete (all_weights ls) 0)
    where
      go : Dec (part ≤ most_part) → Dec (first_bad_line 0 ls < length ls) → Dec (compensated ls ≤ most_compensation) → Dec (generators_amount part ls ≡ 0) → Dec (all_weights ls ≡ 0)
          → SharingVerdict part ls (sharing part ls)
      go (no f) l c g w = let over : most_part < part = omega arith in above over (sym (sharing_part part ls over))
      go (yes q) (yes h) c g w = ten_or_more (dec_lt (first_bad_line 0 ls) most_number)
        where
          few : first_bad_line 0 ls ≤ most_number
          few = (bad_of_64 ls).1

          ten_or_more : Dec (first_bad_line 0 ls < most_number) → SharingVerdict part ls (sharing part ls)
          ten_or_more (yes i) = ten q (first_bad_line 0 ls) i (first_bad_lem ls h) (sym (sharing_10 part ls q h))
          ten_or_more (no f) =
              let last : first_bad_line 0 ls ≡ most_number = omega (arith, few) in
              more q (omega arith) (λ k i. (first_bad_lem ls h).before k (omega arith)) (sym (sharing_10 part ls q h) ∙ ap (λ (p : ℕ). sharing_refused 10 p) last)
      go (yes q) (no f) (no c) g w =
          let s : length ls ≤ first_bad_line 0 ls = omega arith in
          let over : most_compensation < compensated ls = omega arith in
          fifteen q (all_sound ls s) over (sym (settled_15 part ls over ∙ sharing_on part ls q s))
      go (yes q) (no f) (yes c) (no g) (yes w) =
          let s : length ls ≤ first_bad_line 0 ls = omega arith in
          sixteen q (all_sound ls s) c (λ e. g (none_signed (below ls) _ e)) w (sym (settled_16 part ls c (omega arith) w ∙ sharing_on part ls q s))
      go (yes q) (no f) (yes c) (no g) (no w) =
          let s : length ls ≤ first_bad_line 0 ls = omega arith in
          shared q (all_sound ls s) c (inr (omega arith)) (sym (settled_on part ls c (λ _. omega arith) ∙ sharing_on part ls q s))
      go (yes q) (no f) (yes c) (yes g) w =
          let s : length ls ≤ first_bad_line 0 ls = omega arith in
          shared q (all_sound ls s) c (inl (no_gap part ls g)) (sym (settled_on part ls c (λ h. absurd (omega arith)) ∙ sharing_on part ls q s))

  -- .. and where the condition of one holds, that is the one: each number is given exactly under its condition.
  pub exact : (o : SharingOutcome) → SharingVerdict part ls o → o ≡ sharing part ls
  exact o (above h e) = e ∙ sharing_part part ls h
  exact o (ten q p few f e) =
      let b = only_bad ls p f in
      e ∙ ap (λ (q : ℕ). sharing_refused 10 q) (sym b) ∙ sharing_10 part ls q (omega (arith, f.within))
  exact o (more q m s e) =
      let few = (bad_of_64 ls).1 in
      let last : first_bad_line 0 ls ≡ most_number = omega (arith, few, none_before ls most_number s (omega arith)) in
      e ∙ ap (λ (q : ℕ). sharing_refused 10 q) (sym last) ∙ sharing_10 part ls q (omega arith)
  exact o (fifteen q a c e) = e ∙ settled_15 part ls c ∙ sharing_on part ls q (none_bad ls a)
  exact o (sixteen q a c g w e) = e ∙ settled_16 part ls c (some_gap part ls g) w ∙ sharing_on part ls q (none_bad ls a)
  exact o (shared q a c (inl g) e) = e ∙ settled_on part ls c (λ h. absurd (omega (arith, none_signed (below ls) _ g))) ∙ sharing_on part ls q (none_bad ls a)
  exact o (shared q a c (inr w) e) = e ∙ settled_on part ls c (λ h. w) ∙ sharing_on part ls q (none_bad ls a)
