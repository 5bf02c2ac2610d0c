-- Rows in turn, as a loop finds them. Assumes nothing.
use mathlib.Core.Path.{◌≡◌, refl, sym, ap, ◌∙◌}
use mathlib.Core.Bool.{Bool, true, false}
use mathlib.Core.List.{List, [], ◌∷◌}
use Prim.Native.Nat.{ℕ, zero, suc, ◌+◌, ◌≤◌, ◌<◌}
use native.Mathlib.Nat.{not-suc-le-zero}
use native.Mathlib.Omega.{arith}
use native.Mathlib.Numerals.{add-one}
use lib.ListN.{length, get_or, take, drop, drop_of_length-le}
use lib.Seq.{length-take-le, get_or-take, drop-cons}
use Rattle.share.proofs.Lists.{part_step, part_end}
use Rattle.share.specs.declared.Line.{Line}
use Rattle.share.specs.Sharing.{Part}
use Rattle.share.specs.Forms.{blank_line}
use Rattle.ceiling.specs.declared.LimitedLine.{LimitedLine}
use Rattle.ceiling.specs.Ceiling.{CeiledPart}
use Rattle.ceiling.specs.Inner.{part_in, parts_in}
use Rattle.ceiling.proofs.Places.{length_parts, part_in_lem}
use Rattle.month.specs.declared.Row.{Row}
use Rattle.month.specs.Inner.{got_in}
use Rattle.fitting.specs.Fitting.{Judged, Fits, is_fits, or_else, own_apart, first_own, own_limited, own_limits, part_apart, first_part_of}
use Rattle.fitting.specs.Inner.{got_of}
use Rattle.fitting.proofs.Findings.{or_fits, or_not}

own_cons : (b : Bool) (n : ℕ) (r : Row) (rs : List Row) → first_own b n (r ∷ rs) ≡ or_else (own_apart b n r) (first_own b (suc n) rs)
unfolding first_own
own_cons b n r rs = refl

own_none : (b : Bool) (n : ℕ) (rs : List Row) → rs ≡ [] → first_own b n rs ≡ Fits
unfolding first_own
own_none b n rs e = ap (first_own b n) e

part_cons : (n : ℕ) (r : Row) (p : CeiledPart) (rs : List Row) (ps : List CeiledPart) → first_part_of n (r ∷ rs) (p ∷ ps) ≡ or_else (part_apart n r p) (first_part_of (suc n) rs ps)
unfolding first_part_of
part_cons n r p rs ps = refl

part_none : (n : ℕ) (rs : List Row) (ps : List CeiledPart) → rs ≡ [] → first_part_of n rs ps ≡ Fits
unfolding first_part_of
part_none n rs ps e = ap (λ (xs : List Row). first_part_of n xs ps) e

module _ (b : Bool) (rows : List Row) where
  abbrev all : Judged
  all = first_own b 1 rows

  -- the rows that are left at a place
  abbrev from : ℕ → Judged
  from i = first_own b (1 + i) (drop i rows)

  module _ (i : ℕ) (more : i < length rows) (d : Row) where
    abbrev next : Judged
    next = first_own b (suc (1 + i)) (drop (i + 1) rows)

    opens : drop i rows ≡ get_or rows i d ∷ drop (i + 1) rows
    opens = rw add-one (drop-cons rows i d more)

    step : from i ≡ or_else (own_apart b (1 + i) (get_or rows i d)) next
    step = ap (first_own b (1 + i)) opens ∙ own_cons b (1 + i) (get_or rows i d) (drop (i + 1) rows)

    pub own_on : (f : Judged) → f ≡ own_apart b (1 + i) (get_or rows i d) → is_fits f ≡ true → from i ≡ all → from (i + 1) ≡ all
    own_on f is e k =
        let one : 1 + (i + 1) ≡ suc (1 + i) = omega arith in
        ap (λ (n : ℕ). first_own b n (drop (i + 1) rows)) one
        ∙ sym (step ∙ or_fits (own_apart b (1 + i) (get_or rows i d)) next (ap is_fits (sym is) ∙ e)) ∙ k

    pub own_off : (f : Judged) → f ≡ own_apart b (1 + i) (get_or rows i d) → is_fits f ≡ false → from i ≡ all → f ≡ all
    own_off f is e k = is ∙ sym (step ∙ or_not (own_apart b (1 + i) (get_or rows i d)) next (ap is_fits (sym is) ∙ e)) ∙ k

  pub own_end : (i : ℕ) → length rows ≤ i → from i ≡ all → Fits ≡ all
  own_end i h k = sym (own_none b (1 + i) (drop i rows) (drop_of_length-le rows {i = i} h)) ∙ k

module _ (rows : List Row) (lines : List LimitedLine) (count : ℕ) (few : count ≤ length rows) (few₂ : count ≤ length lines) where
  abbrev all_parts : Judged
  all_parts = first_part_of 1 (take count rows) (got_of (take count lines))

  abbrev parts_from : ℕ → Judged
  parts_from i = first_part_of (1 + i) (drop i (take count rows)) (got_of (drop i (take count lines)))

  module _ (i : ℕ) (more : i < count) (d : Row) (z : LimitedLine) where
    abbrev next_parts : Judged
    next_parts = first_part_of (suc (1 + i)) (drop (i + 1) (take count rows)) (got_of (drop (i + 1) (take count lines)))

    abbrev here : Judged
    here = part_apart (1 + i) (get_or rows i d) (got_in (get_or lines i z))

    step_parts : parts_from i ≡ or_else here next_parts
    step_parts =
        ap (λ (xs : List Row). first_part_of (1 + i) xs (got_of (drop i (take count lines)))) (part_step rows count i d more few)
        ∙ ap (λ (xs : List LimitedLine). first_part_of (1 + i) (get_or rows i d ∷ drop (i + 1) (take count rows)) (got_of xs)) (part_step lines count i z more few₂)
        ∙ part_cons (1 + i) (get_or rows i d) (got_in (get_or lines i z)) (drop (i + 1) (take count rows)) (got_of (drop (i + 1) (take count lines)))

    pub part_on : (f : Judged) → f ≡ here → is_fits f ≡ true → parts_from i ≡ all_parts → parts_from (i + 1) ≡ all_parts
    part_on f is e k =
        let one : 1 + (i + 1) ≡ suc (1 + i) = omega arith in
        ap (λ (n : ℕ). first_part_of n (drop (i + 1) (take count rows)) (got_of (drop (i + 1) (take count lines)))) one
        ∙ sym (step_parts ∙ or_fits here next_parts (ap is_fits (sym is) ∙ e)) ∙ k

    pub part_off : (f : Judged) → f ≡ here → is_fits f ≡ false → parts_from i ≡ all_parts → f ≡ all_parts
    part_off f is e k = is ∙ sym (step_parts ∙ or_not here next_parts (ap is_fits (sym is) ∙ e)) ∙ k

  pub parts_end : (i : ℕ) → count ≤ i → parts_from i ≡ all_parts → Fits ≡ all_parts
  parts_end i h k = sym (part_none (1 + i) (drop i (take count rows)) (got_of (drop i (take count lines))) (part_end rows count i h few)) ∙ k

-- Lines with their limits, place by place

pub length_limits : (b : Bool) (rs : List Row) (ps : List Part) → length ps ≡ length rs → length (own_limits b rs ps) ≡ length rs
unfolding own_limits
length_limits b [] ps h = refl
length_limits b (r ∷ rs) [] h = absurd (omega arith)
length_limits b (r ∷ rs) (p ∷ ps) h = ap suc (length_limits b rs ps (omega arith))

limit_at : (b : Bool) (rs : List Row) (ps : List Part) (i : ℕ) (d : Row) (p : Part) (z : LimitedLine) → length ps ≡ length rs → i < length rs
    → get_or (own_limits b rs ps) i z ≡ own_limited b (get_or rs i d) (get_or ps i p)
unfolding own_limits
limit_at b [] ps i d p z e h = absurd (not-suc-le-zero h)
limit_at b (r ∷ rs) [] i d p z e h = absurd (omega arith)
limit_at b (r ∷ rs) (q ∷ ps) zero d p z e h = refl
limit_at b (r ∷ rs) (q ∷ ps) (suc i) d p z e h = limit_at b rs ps i d p z (omega arith) (omega arith)

module _ (b : Bool) (xs : List Row) (ys : List Line) (n : ℕ) (k : n ≤ length xs) (m : n ≤ length ys) where
  even : length (parts_in (take n ys)) ≡ length (take n xs)
  even = length_parts ys n m ∙ sym (length-take-le n xs k)

  pub length_limits_of : length (own_limits b (take n xs) (parts_in (take n ys))) ≡ n
  length_limits_of = length_limits b (take n xs) (parts_in (take n ys)) even ∙ length-take-le n xs k

  pub limit_of : (i : ℕ) (d : Row) (z : LimitedLine) → i < n → get_or (own_limits b (take n xs) (parts_in (take n ys))) i z ≡ own_limited b (get_or xs i d) (part_in (get_or ys i blank_line))
  limit_of i d z h =
      limit_at b (take n xs) (parts_in (take n ys)) i d (part_in blank_line) z even (rw (length-take-le n xs k) h)
      ∙ ap (λ (r : Row). own_limited b r (get_or (parts_in (take n ys)) i (part_in blank_line))) (get_or-take n xs i d h)
      ∙ ap (own_limited b (get_or xs i d)) (part_in_lem ys n i (part_in blank_line) h m)
