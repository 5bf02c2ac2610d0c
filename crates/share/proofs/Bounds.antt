-- What soundness leaves: the limits of each line, and of the sums. Assumes nothing.
use mathlib.Core.Path.{◌≡◌, refl}
use mathlib.Core.Bool.{Bool, true, false, cond}
use mathlib.Core.List.{List, [], ◌∷◌, map}
use Prim.Native.Nat.{ℕ, zero, suc, ◌+◌, ◌*◌, ◌≤◌, ◌<◌}
use native.Mathlib.Nat.{not-suc-le-zero, mul-le-mul}
use native.Mathlib.Omega.{arith}
use borrow.Author.Tests.{leb-true, ltb-true, le-leb, lt-ltb}
use lib.Dec.{eqb, ltb, leb}
use lib.ListN.{length, get_or}
use Rattle.apportion.specs.Apportion.{total}
use Rattle.units.specs.Money.{fen_per_thousandth}
use Rattle.le.proofs.Tests.{each, all}
use Rattle.share.specs.declared.Line.{Line}
use Rattle.share.specs.Sharing.{assessment_fen, factor_of, weight_of, weights_of, line_is_sound, first_bad_line, compensated, assessed, most_number, most_status, most_energy}
use Rattle.share.specs.Sharing.{most_compensation, most_assessment}
use Rattle.share.specs.Verdict.{SoundLine}
use Rattle.share.specs.Limits.{LineWithin, LinesWithin}

-- a line passes the test exactly where it is sound
pub sound_from : (before : ℕ) (l : Line) → line_is_sound before l ≡ true → SoundLine before l
unfolding line_is_sound
sound_from before l h =
    let p = each (ltb before l.number) (leb l.number most_number ∷ leb l.status most_status ∷ leb l.energy.0 most_energy
    ∷ leb l.compensation.0 most_compensation ∷ leb l.assessment.0 most_assessment ∷ []) h in
    record {
      rises = ltb-true _ _ p.0;
      number = leb-true _ _ p.1.0;
      status = leb-true _ _ p.1.1.0;
      energy = leb-true _ _ p.1.1.1.0;
      compensation = leb-true _ _ p.1.1.1.1.0;
      assessment = leb-true _ _ p.1.1.1.1.1.0;
    }

pub sound_to : (before : ℕ) (l : Line) → SoundLine before l → line_is_sound before l ≡ true
unfolding line_is_sound
sound_to before l s =
    all (ltb before l.number) (leb l.number most_number ∷ leb l.status most_status ∷ leb l.energy.0 most_energy
    ∷ leb l.compensation.0 most_compensation ∷ leb l.assessment.0 most_assessment ∷ [])
    (lt-ltb _ _ s.rises, (le-leb _ _ s.number, (le-leb _ _ s.status, (le-leb _ _ s.energy, (le-leb _ _ s.compensation, (le-leb _ _ s.assessment, tt))))))

within_of : {before : ℕ} {l : Line} → SoundLine before l → LineWithin l
within_of s = record { energy = s.energy; compensation = s.compensation; assessment = s.assessment }

pub all_within : (before : ℕ) (ls : List Line) → length ls ≤ first_bad_line before ls → LinesWithin ls
all_within before [] h = λ i d k. absurd (not-suc-le-zero k)
all_within before (l ∷ ls) h = go (line_is_sound before l) refl h (all_within l.number ls)
  where
    go : (b : Bool) → line_is_sound before l ≡ b → suc (length ls) ≤ cond b (suc (first_bad_line l.number ls)) 0
        → (length ls ≤ first_bad_line l.number ls → LinesWithin ls) → LinesWithin (l ∷ ls)
    go true e k rec zero d i = within_of (sound_from before l e)
    go true e k rec (suc n) d i = rec (omega arith) n d (omega arith)
    go false e k rec n d i = absurd (not-suc-le-zero k)

-- Numbers rise strictly up to 64, so there is a bad line within the first 65.
pub few_sound : (before : ℕ) (ls : List Line) → before ≤ most_number → before + first_bad_line before ls ≤ most_number
few_sound before [] h = omega arith
few_sound before (l ∷ ls) h = go (line_is_sound before l) refl (few_sound l.number ls)
  where
    go : (b : Bool) → line_is_sound before l ≡ b → (l.number ≤ most_number → l.number + first_bad_line l.number ls ≤ most_number)
        → before + cond b (suc (first_bad_line l.number ls)) 0 ≤ most_number
    go true e rec = let s = sound_from before l e in omega (arith, s.rises, s.number, rec s.number)
    go false e rec = omega arith

sum_le : (f : Line → ℕ) (m : ℕ) (ls : List Line) → ((i : ℕ) (d : Line) → i < length ls → f (get_or ls i d) ≤ m) → total (map f ls) ≤ length ls * m
sum_le f m [] h = omega arith
sum_le f m (l ∷ ls) h = omega (arith, h 0 l (omega arith), sum_le f m ls (λ i d k. h (suc i) d (omega arith)))

pub compensated_le : (ls : List Line) → LinesWithin ls → compensated ls ≤ length ls * 100000000000
compensated_le ls h = sum_le (λ l. l.compensation.0) 100000000000 ls (λ i d k. (h i d k).compensation)

pub fen_le : (l : Line) → LineWithin l → assessment_fen l ≤ 1000000000
unfolding fen_per_thousandth
fen_le l h = omega (arith, h.assessment)

pub assessed_le : (ls : List Line) → LinesWithin ls → assessed ls ≤ length ls * 1000000000
assessed_le ls h = sum_le (λ l. assessment_fen l) 1000000000 ls (λ i d k. fen_le (get_or ls i d) (h i d k))

factor_le : (is_below : Bool) (s : ℕ) → factor_of is_below s ≤ 12
factor_le is_below s = go (eqb s 0) (eqb s 1) is_below
  where
    go : (a b c : Bool) → cond a 10 (cond b 5 (cond c 12 10)) ≤ 12
    go true b c = omega arith
    go false true c = omega arith
    go false false true = omega arith
    go false false false = omega arith

pub weight_le : (is_below : Bool) (l : Line) → LineWithin l → weight_of is_below l ≤ 60000000
weight_le is_below l h = omega (arith, mul-le-mul h.energy (factor_le is_below l.status))

pub weights_le : (is_below : Bool) (ls : List Line) → LinesWithin ls → total (weights_of is_below ls) ≤ length ls * 60000000
weights_le is_below ls h = sum_le (λ l. weight_of is_below l) 60000000 ls (λ i d k. weight_le is_below (get_or ls i d) (h i d k))
