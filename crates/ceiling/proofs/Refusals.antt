-- Each refusal of sharing with limits is given exactly under its condition.
use mathlib.Core.Path.{◌≡◌, refl, sym, ap, ◌∙◌, subst}
use mathlib.Core.Bool.{Bool, true, false, cond, ◌||◌, true≢false}
use mathlib.Core.List.{List, [], ◌∷◌}
use mathlib.Core.Logic.{inl, inr, ◌≢◌}
use Prim.Native.Nat.{ℕ, zero, suc, ◌≤◌, ◌<◌}
use native.Mathlib.Nat.{not-suc-le-zero}
use native.Mathlib.Decide.{dec_lt, dec_le}
use native.Mathlib.Omega.{arith}
use borrow.Author.Tests.{leb-true, le-leb}
use lib.Dec.{leb}
use lib.IntN.{pos}
use lib.ListN.{length, get_or, take, length-map}
use lib.Seq.{length-take-le}
use Rattle.le.proofs.Tests.{each, all}
use Rattle.apportion.specs.Apportion.{total}
use Rattle.share.specs.Sharing.{
  most_number,
  most_part,
  part_place,
  most_compensation,
  compensated,
  generators_gap,
  all_weights,
  line_is_sound,
  parts,
  SharingOutcome,
  sharing_refused,
  sharing_accepted,
  sharing,
}
use Rattle.share.specs.Forms.{blank_line}
use Rattle.share.specs.Verdict.{SoundLine, number_before}
use Rattle.share.specs.Verdict as plain
use Rattle.share.proofs.Bounds.{sound_from, sound_to}
use Rattle.share.proofs.Lists.{get_d_mapped}
use Rattle.share.proofs.Refusals as Plain
use Rattle.ceiling.specs.declared.Limit.{Limit}
use Rattle.ceiling.specs.declared.LimitedLine.{LimitedLine}
use Rattle.ceiling.specs.Ceiling.{most_limit, limit_is_sound, limited_is_sound, first_bad_limited, plain_lines, positives, uncollected_sum, CeilingOutcome, ceiling_refused}
use Rattle.ceiling.specs.Ceiling.{second_sharing, both_sharings, ceiling_in_turn, ceiling}
use Rattle.ceiling.specs.Inner.{blank_limited}
use Rattle.ceiling.specs.Verdict.{SoundLimit, SoundAt, AllSound, FirstBad, FirstShared, Exceeds, CeilingVerdict, above, ten, more, fifteen, sixteen, seventeen, shared}
use Rattle.ceiling.proofs.Turns.{bad_few, turn_part, turn_10, turn_on, both_refused, both_on, second_17, second_on}

-- A limit passes the test exactly where it is sound

limit_from : (l : Limit) → limit_is_sound l ≡ true → SoundLimit l
unfolding limit_is_sound
limit_from l h = go l.none refl h
  where
    go : (b : Bool) → l.none ≡ b → (b || leb l.fen.0 most_limit) ≡ true → SoundLimit l
    go true e k = inl e
    go false e k = inr (leb-true l.fen.0 most_limit k)

limit_to : (l : Limit) → SoundLimit l → limit_is_sound l ≡ true
unfolding limit_is_sound
limit_to l (inl e) = rw e
limit_to l (inr h) = rw (le-leb l.fen.0 most_limit h) (go l.none)
  where
    go : (b : Bool) → (b || true) ≡ true
    go true = refl
    go false = refl

both_from : (before : ℕ) (l : LimitedLine) → limited_is_sound before l ≡ true → SoundLine before l.line × SoundLimit l.limit
unfolding limited_is_sound
both_from before l h =
    let p = each (line_is_sound before l.line) (limit_is_sound l.limit ∷ []) h in
    (sound_from before l.line p.0, limit_from l.limit p.1.0)

both_to : (before : ℕ) (l : LimitedLine) → SoundLine before l.line × SoundLimit l.limit → limited_is_sound before l ≡ true
unfolding limited_is_sound
both_to before l s = all (line_is_sound before l.line) (limit_is_sound l.limit ∷ []) (sound_to before l.line s.0, (limit_to l.limit s.1, tt))

-- The first line that is not sound

number_step : (first : ℕ) (l : LimitedLine) (ls : List LimitedLine) (k : ℕ) → number_before l.line.number (plain_lines ls) k ≡ number_before first (plain_lines (l ∷ ls)) (suc k)
unfolding number_before
number_step first l ls zero = refl
number_step first l ls (suc k) = refl

sound_upto : (first : ℕ) (ls : List LimitedLine) (k : ℕ) → k < first_bad_limited first ls → limited_is_sound (number_before first (plain_lines ls) k) (get_or ls k blank_limited) ≡ true
unfolding number_before
sound_upto first [] k h = absurd (not-suc-le-zero h)
sound_upto first (l ∷ ls) zero h = go (limited_is_sound first l) refl h
  where
    go : (b : Bool) → limited_is_sound first l ≡ b → 0 < cond b (suc (first_bad_limited l.line.number ls)) 0 → limited_is_sound first l ≡ true
    go true e k = e
    go false e k = absurd (not-suc-le-zero k)
sound_upto first (l ∷ ls) (suc k) h = go (limited_is_sound first l) h (sound_upto l.line.number ls k)
  where
    go : (b : Bool) → suc k < cond b (suc (first_bad_limited l.line.number ls)) 0
        → (k < first_bad_limited l.line.number ls → limited_is_sound (number_before l.line.number (plain_lines ls) k) (get_or ls k blank_limited) ≡ true)
        → limited_is_sound (number_before first (plain_lines (l ∷ ls)) (suc k)) (get_or ls k blank_limited) ≡ true
    go true i rec = ap (λ (n : ℕ). limited_is_sound n (get_or ls k blank_limited)) (sym (number_step first l ls k)) ∙ rec (omega arith)
    go false i rec = absurd (not-suc-le-zero i)

bad_at : (first : ℕ) (ls : List LimitedLine) → first_bad_limited first ls < length ls
    → limited_is_sound (number_before first (plain_lines ls) (first_bad_limited first ls)) (get_or ls (first_bad_limited first ls) blank_limited) ≡ false
unfolding number_before
bad_at first [] h = absurd (not-suc-le-zero h)
bad_at first (l ∷ ls) h = go (limited_is_sound first l) refl h (bad_at l.line.number ls)
  where
    go : (b : Bool) → limited_is_sound first l ≡ b → cond b (suc (first_bad_limited l.line.number ls)) 0 < suc (length ls)
        → (first_bad_limited l.line.number ls < length ls
        → limited_is_sound (number_before l.line.number (plain_lines ls) (first_bad_limited l.line.number ls)) (get_or ls (first_bad_limited l.line.number ls) blank_limited) ≡ false)
        → limited_is_sound (number_before first (plain_lines (l ∷ ls)) (cond b (suc (first_bad_limited l.line.number ls)) 0))
        (get_or (l ∷ ls) (cond b (suc (first_bad_limited l.line.number ls)) 0) blank_limited) ≡ false
    go true e k rec =
        ap (λ (n : ℕ). limited_is_sound n (get_or ls (first_bad_limited l.line.number ls) blank_limited)) (sym (number_step first l ls (first_bad_limited l.line.number ls))) ∙ rec (omega arith)
    go false e k rec = e

pub first_bad_lem : (ls : List LimitedLine) → first_bad_limited 0 ls < length ls → FirstBad ls (first_bad_limited 0 ls)
first_bad_lem ls h =
    record {
      within = h;
      before = λ k i. both_from _ _ (sound_upto 0 ls k i);
      bad = λ s. true≢false (sym (both_to _ _ s) ∙ bad_at 0 ls h);
    }

pub only_bad : (ls : List LimitedLine) (p : ℕ) → FirstBad ls p → first_bad_limited 0 ls ≡ p
only_bad ls p f = go (dec_lt (first_bad_limited 0 ls) p) (dec_lt p (first_bad_limited 0 ls))
  where
    go : Dec (first_bad_limited 0 ls < p) → Dec (p < first_bad_limited 0 ls) → first_bad_limited 0 ls ≡ p
    go (yes h) d = absurd (true≢false (sym (both_to _ _ (f.before (first_bad_limited 0 ls) h)) ∙ bad_at 0 ls (omega (arith, f.within))))
    go (no g) (yes h) = absurd (f.bad (both_from _ _ (sound_upto 0 ls p h)))
    go (no g) (no i) = omega arith

all_sound : (ls : List LimitedLine) → length ls ≤ first_bad_limited 0 ls → AllSound ls
all_sound ls h k i = both_from _ _ (sound_upto 0 ls k (omega arith))

none_before : (ls : List LimitedLine) (n : ℕ) → ((k : ℕ) → k < n → SoundAt ls k) → n ≤ length ls → n ≤ first_bad_limited 0 ls
none_before ls n a l = go (dec_le n (first_bad_limited 0 ls))
  where
    go : Dec (n ≤ first_bad_limited 0 ls) → n ≤ first_bad_limited 0 ls
    go (yes h) = h
    go (no f) =
        let h : first_bad_limited 0 ls < n = omega arith in
        absurd (true≢false (sym (both_to _ _ (a (first_bad_limited 0 ls) h)) ∙ bad_at 0 ls (omega arith)))

none_bad : (ls : List LimitedLine) → AllSound ls → length ls ≤ first_bad_limited 0 ls
none_bad ls a = none_before ls (length ls) a (omega arith)

-- of a list the first bad line is one of the first 65
bad_take : (before n : ℕ) (ls : List LimitedLine) → first_bad_limited before ls ≤ n → first_bad_limited before (take n ls) ≡ first_bad_limited before ls
bad_take before zero ls h = omega arith
bad_take before (suc n) [] h = refl
bad_take before (suc n) (l ∷ ls) h = go (limited_is_sound before l) h (bad_take l.line.number n ls)
  where
    go : (b : Bool) → cond b (suc (first_bad_limited l.line.number ls)) 0 ≤ suc n
        → (first_bad_limited l.line.number ls ≤ n → first_bad_limited l.line.number (take n ls) ≡ first_bad_limited l.line.number ls)
        → cond b (suc (first_bad_limited l.line.number (take n ls))) 0 ≡ cond b (suc (first_bad_limited l.line.number ls)) 0
    go true k rec = ap suc (rec (omega arith))
    go false k rec = refl

bad_of_64 : (ls : List LimitedLine) → first_bad_limited 0 (take most_number ls) ≡ first_bad_limited 0 ls
bad_of_64 ls = bad_take 0 most_number ls (bad_few ls)

-- no more lines are counted than there are
pub few_counted : (part : ℕ) (lines : List LimitedLine) (count : ℕ) → count ≤ length lines
    → ceiling_in_turn part (first_bad_limited 0 (take count lines)) count (take count lines) ≡ ceiling part (take count lines)
unfolding ceiling
few_counted part lines count h = rw (length-take-le count lines h, bad_of_64 (take count lines))

-- The outcome, by what is found

module _ (part : ℕ) (ls : List LimitedLine) where
  pub on_part : most_part < part → ceiling_refused 10 part_place ≡ ceiling part ls
  unfolding ceiling
  on_part h = turn_part part _ _ ls h

  pub on_10 : part ≤ most_part → first_bad_limited 0 ls < length ls → ceiling_refused 10 (first_bad_limited 0 ls) ≡ ceiling part ls
  unfolding ceiling
  on_10 fair h = rw (bad_of_64 ls) (turn_10 part (first_bad_limited 0 ls) (length ls) ls fair (bad_few ls) h)

  pub on_both : part ≤ most_part → length ls ≤ first_bad_limited 0 ls → both_sharings ls (sharing part (plain_lines ls)) ≡ ceiling part ls
  unfolding ceiling
  on_both fair h = rw (bad_of_64 ls) (turn_on part (first_bad_limited 0 ls) (length ls) ls fair (omega (arith, bad_few ls)) h)

  -- lines that are sound with their limits are sound without them
  plain_sound : AllSound ls → plain.AllSound (plain_lines ls)
  plain_sound a k h =
      let i : k < length ls = omega (arith, h, length-map ls (λ (l : LimitedLine). l.line)) in
      subst (SoundLine (number_before 0 (plain_lines ls) k)) (sym (get_d_mapped (λ (l : LimitedLine). l.line) ls k blank_limited blank_line i)) (a k i).0

  on_15 : part ≤ most_part → AllSound ls → most_compensation < compensated (plain_lines ls) → ceiling_refused 15 0 ≡ ceiling part ls
  on_15 q a c =
      let o : sharing_refused 15 0 ≡ sharing part (plain_lines ls) = Plain.exact part (plain_lines ls) (sharing_refused 15 0) (plain.fifteen q (plain_sound a) c refl) in
      both_refused ls (sharing_refused 15 0) (λ z. absurd (omega arith)) ∙ ap (both_sharings ls) o ∙ on_both q (none_bad ls a)

  on_16 : part ≤ most_part → AllSound ls → compensated (plain_lines ls) ≤ most_compensation → generators_gap part (plain_lines ls) ≢ pos 0 → all_weights (plain_lines ls) ≡ 0
      → ceiling_refused 16 0 ≡ ceiling part ls
  on_16 q a c g w =
      let o : sharing_refused 16 0 ≡ sharing part (plain_lines ls) = Plain.exact part (plain_lines ls) (sharing_refused 16 0) (plain.sixteen q (plain_sound a) c g w refl) in
      both_refused ls (sharing_refused 16 0) (λ z. absurd (omega arith)) ∙ ap (both_sharings ls) o ∙ on_both q (none_bad ls a)

  abbrev done : SharingOutcome
  done = sharing_accepted part (plain_lines ls)

  -- the first sharing is done exactly where nothing of it is refused
  pub first_done : FirstShared part ls → done ≡ sharing part (plain_lines ls)
  first_done f = Plain.exact part (plain_lines ls) done (plain.shared f.fair (plain_sound f.sound) f.within f.way refl)

  on_second : FirstShared part ls → second_sharing ls done ≡ ceiling part ls
  on_second f = both_on ls done refl ∙ ap (both_sharings ls) (first_done f) ∙ on_both f.fair (none_bad ls f.sound)

  -- THE TABLE: sharing with limits gives one of its verdicts ..
  pub verdict : CeilingVerdict part ls (ceiling part ls)
  verdict = go (dec_le part most_part) (dec_lt (first_bad_limited 0 ls) (length ls))
    where
      behind : part ≤ most_part → AllSound ls → plain.SharingVerdict part (plain_lines ls) (sharing part (plain_lines ls)) → CeilingVerdict part ls (ceiling part ls)
      behind q a (plain.above h e) = absurd (omega arith)
      behind q a (plain.ten r p few f e) = absurd (f.bad (plain_sound a p f.within))
      behind q a (plain.more r m s e) = absurd (omega (arith, none_bad ls a, bad_few ls, length-map ls (λ (l : LimitedLine). l.line)))
      behind q a (plain.fifteen r b c e) = fifteen q a c (sym (on_15 q a c))
      behind q a (plain.sixteen r b c g w e) = sixteen q a c g w (sym (on_16 q a c g w))
      behind q a (plain.shared r b c w e) = last (dec_lt (total (positives (parts part (plain_lines ls)))) (uncollected_sum ls (parts part (plain_lines ls))))
        where
          f : FirstShared part ls
          f = record { fair = q; sound = a; within = c; way = w }

          last : Dec (Exceeds part ls) → CeilingVerdict part ls (ceiling part ls)
          last (yes h) = seventeen f h (sym (second_17 ls done h ∙ on_second f))
          last (no h) = shared f h (sym (second_on ls done (omega arith) ∙ on_second f))

      go : Dec (part ≤ most_part) → Dec (first_bad_limited 0 ls < length ls) → CeilingVerdict part ls (ceiling part ls)
      go (no f) l = let over : most_part < part = omega arith in above over (sym (on_part over))
      go (yes q) (yes h) = ten_or_more (dec_lt (first_bad_limited 0 ls) most_number)
        where
          ten_or_more : Dec (first_bad_limited 0 ls < most_number) → CeilingVerdict part ls (ceiling part ls)
          ten_or_more (yes i) = ten q (first_bad_limited 0 ls) i (first_bad_lem ls h) (sym (on_10 q h))
          ten_or_more (no f) =
              let last : first_bad_limited 0 ls ≡ most_number = omega (arith, bad_few ls) in
              more q (omega arith) (λ k i. (first_bad_lem ls h).before k (omega arith)) (sym (on_10 q h) ∙ ap (λ (p : ℕ). ceiling_refused 10 p) last)
      go (yes q) (no f) = behind q (all_sound ls (omega arith)) (Plain.verdict part (plain_lines ls))

  -- .. and where the condition of one holds, that is the one: each number is given exactly under its condition.
  pub exact : (o : CeilingOutcome) → CeilingVerdict part ls o → o ≡ ceiling part ls
  exact o (above h e) = e ∙ on_part h
  exact o (ten q p few f e) =
      let b = only_bad ls p f in
      e ∙ ap (λ (q : ℕ). ceiling_refused 10 q) (sym b) ∙ on_10 q (omega (arith, f.within))
  exact o (more q m s e) =
      let last : first_bad_limited 0 ls ≡ most_number = omega (arith, bad_few ls, none_before ls most_number s (omega arith)) in
      e ∙ ap (λ (q : ℕ). ceiling_refused 10 q) (sym last) ∙ on_10 q (omega arith)
  exact o (fifteen q a c e) = e ∙ on_15 q a c
  exact o (sixteen q a c g w e) = e ∙ on_16 q a c g w
  exact o (seventeen f h e) = e ∙ second_17 ls done h ∙ on_second f
  exact o (shared f h e) = e ∙ second_on ls done (omega arith) ∙ on_second f

  -- 17 IS GIVEN exactly where the first sharing is done and the uncollected sum exceeds all positive amounts together.
  pub seventeen_only : (ceiling part ls).number ≡ 17 → FirstShared part ls × Exceeds part ls
  seventeen_only n = go verdict
    where
      other : (k p : ℕ) → ceiling part ls ≡ ceiling_refused k p → k ≡ 17
      other k p e = sym (ap (λ (o : CeilingOutcome). o.number) e) ∙ n

      go : CeilingVerdict part ls (ceiling part ls) → FirstShared part ls × Exceeds part ls
      go (above h e) = absurd (omega (arith, other 10 part_place e))
      go (ten q p few f e) = absurd (omega (arith, other 10 p e))
      go (more q m s e) = absurd (omega (arith, other 10 most_number e))
      go (fifteen q a c e) = absurd (omega (arith, other 15 0 e))
      go (sixteen q a c g w e) = absurd (omega (arith, other 16 0 e))
      go (seventeen f h e) = (f, h)
      go (shared f h e) = absurd (omega (arith, n, ap (λ (o : CeilingOutcome). o.number) e))

  pub seventeen_given : FirstShared part ls → Exceeds part ls → ceiling part ls ≡ ceiling_refused 17 0
  seventeen_given f h = sym (exact (ceiling_refused 17 0) (seventeen f h refl))
