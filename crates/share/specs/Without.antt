-- Sharing without a part, as it stood before request 2, its text letter for letter under names of its own. No code cites it: it is what sharing
-- with the whole part is compared with (`whole_part`, proofs/WholePart.antt). Assumes nothing.
use Rattle.std.specs.Prelude.{Bool, cond, ◌&&◌, List, [], ℕ, min, ltb, eqb, ℤ, pos, nat_abs, length, take}
use Rattle.apportion.specs.Apportion.{apportion}
use Rattle.share.specs.declared.Line.{Line}
use Rattle.share.specs.Sharing.{compensated, below, gap, weights, all_weights, Part, parts_by, first_bad_line, most_number, most_compensation}

-- the shares are |R| apportioned by the weights, with the sign of R
unfoldable pub parts_without : List Line → List Part
parts_without ls = parts_by (below ls) ls (apportion (nat_abs (gap ls)) (weights ls))

-- R is not 0 and all weights are 0
abbrev pub weightless_without : List Line → Bool
weightless_without ls = ltb 0 (nat_abs (gap ls)) && eqb (all_weights ls) 0

-- number and place of a refusal, or zeros; R; and what each line gets
pub record OutcomeWithout : Type 0 where
  pub number : ℕ
  pub place : ℕ
  pub gap : ℤ
  pub parts : List Part

-- a refusal gives number and place, otherwise zeros
abbrev pub refused_without : ℕ → ℕ → OutcomeWithout
refused_without number place = record { number = number; place = place; gap = pos 0; parts = [] }

-- accepted, number and place are 0; sharing gives R
abbrev pub accepted_without : List Line → OutcomeWithout
accepted_without ls = record { number = 0; place = 0; gap = gap ls; parts = parts_without ls }

-- where every line is sound: 15 where C is above 10^11, 16 where R is not 0 and all weights are 0
unfoldable pub settled_without : List Line → OutcomeWithout
settled_without ls =
    cond (ltb most_compensation (compensated ls)) (refused_without 15 0)
    (cond (weightless_without ls) (refused_without 16 0) (accepted_without ls))

-- Sharing of so many lines, of whose first 64 the first bad one is at the place `bad`: 10 in turn, 15, 16. A bad line of the first 64 is
-- refused at its place; where these are sound, more than 64 lines are refused at 64.
unfoldable pub in_turn_without : ℕ → ℕ → List Line → OutcomeWithout
in_turn_without bad count ls =
    cond (ltb bad (min count most_number)) (refused_without 10 bad)
    (cond (ltb most_number count) (refused_without 10 most_number) (settled_without ls))

-- Sharing of a list of lines
abbrev pub sharing_without : List Line → OutcomeWithout
sharing_without ls = in_turn_without (first_bad_line 0 (take most_number ls)) (length ls) ls

-- the sharing of the first `count` of 64 lines: a count above 64 is 10 at the first bad of the 64, or at 64 where these are sound
abbrev pub counted_without : List Line → ℕ → OutcomeWithout
counted_without lines count = in_turn_without (first_bad_line 0 (take count lines)) count (take count lines)
