-- The ceiling on a bad month (article 31), over a list of lines with limits: what a member pays beyond its limit is not collected, and the members
-- with positive amounts give it up. Assumes nothing.
use Rattle.std.specs.Prelude.{Bool, cond, ◌&&◌, ◌||◌, List, [], ◌∷◌, map, ℕ, suc, ◌-◌, min, leb, ltb, eqb, ℤ, pos, nat_abs, ◌+ℤ◌, ◌-ℤ◌, length, take}
use Rattle.std.specs.Int.Signed.{lt_z}
use Rattle.apportion.specs.Apportion.{total, apportion}
use Rattle.share.specs.declared.Line.{Line}
use Rattle.share.specs.Sharing.{most_number, most_part, part_place, line_is_sound, Part, SharingOutcome, sharing}
use Rattle.ceiling.specs.declared.Limit.{Limit}
use Rattle.ceiling.specs.declared.LimitedLine.{LimitedLine}

-- Limits

-- a limit is 0 to 10^11 fen
abbrev pub most_limit : ℕ
most_limit = 100000000000

-- a limit is sound: none, or within its own bound; beside the mark for none the number is not looked at
unfoldable pub limit_is_sound : Limit → Bool
limit_is_sound l = l.none || leb l.fen.0 most_limit

-- a line is sound after the number `before`: by sharing's limits, and its limit is
unfoldable pub limited_is_sound : ℕ → LimitedLine → Bool
limited_is_sound before l = line_is_sound before l.line && limit_is_sound l.limit

-- the place of the first line that is not sound, or the number of lines where all are
abbrev pub first_bad_limited : ℕ → List LimitedLine → ℕ
first_bad_limited before [] = 0
first_bad_limited before (l ∷ ls) = cond (limited_is_sound before l) (suc (first_bad_limited l.line.number ls)) 0

-- the lines without their limits
abbrev pub plain_lines : List LimitedLine → List Line
plain_lines ls = map (λ l. l.line) ls

-- What is not collected, and who gives it up

-- what a member with such an amount pays: nothing where it gets something
unfoldable pub paid : ℤ → ℕ
paid amount = cond (lt_z amount (pos 0)) (nat_abs amount) 0

-- what of it lies beyond the limit, and is not collected; nothing where there is no limit
unfoldable pub beyond : Limit → ℤ → ℕ
beyond l amount = cond l.none 0 (paid amount - l.fen.0)

-- what a member with such an amount gets: nothing where it pays
unfoldable pub positive : ℤ → ℕ
positive amount = cond (lt_z (pos 0) amount) (nat_abs amount) 0

-- what is not collected of each line, from its amount in the first sharing
abbrev pub uncollected_of : List LimitedLine → List Part → List ℕ
uncollected_of [] ps = []
uncollected_of (l ∷ ls) [] = []
uncollected_of (l ∷ ls) (p ∷ ps) = beyond l.limit p.amount ∷ uncollected_of ls ps

-- the positive amounts
abbrev pub positives : List Part → List ℕ
positives ps = map (λ p. positive p.amount) ps

-- the sum that is not collected
abbrev pub uncollected_sum : List LimitedLine → List Part → ℕ
uncollected_sum ls ps = total (uncollected_of ls ps)

-- each gives up of it in proportion to its positive amount, by the largest remainder rule
unfoldable pub given_up : List LimitedLine → List Part → List ℕ
given_up ls ps = apportion (uncollected_sum ls ps) (positives ps)

-- what a line gets: its share stays the first sharing's
pub record CeiledPart : Type 0 where
  pub share : ℤ
  pub amount : ℤ
  pub uncollected : ℕ
  pub given : ℕ

-- amount = compensation − assessment + share + what is not collected of it − what it gives up
abbrev pub ceiled_part : Part → ℕ → ℕ → CeiledPart
ceiled_part p uncollected given =
    record { share = p.share; amount = p.amount +ℤ pos uncollected -ℤ pos given; uncollected = uncollected; given = given }

abbrev pub ceiled_by : List Part → List ℕ → List ℕ → List CeiledPart
ceiled_by [] us gs = []
ceiled_by (p ∷ ps) [] gs = []
ceiled_by (p ∷ ps) (u ∷ us) [] = []
ceiled_by (p ∷ ps) (u ∷ us) (g ∷ gs) = ceiled_part p u g ∷ ceiled_by ps us gs

-- what each line gets
unfoldable pub ceiled_parts : List LimitedLine → List Part → List CeiledPart
ceiled_parts ls ps = ceiled_by ps (uncollected_of ls ps) (given_up ls ps)

-- Refusals

-- number and place of a refusal, or zeros; R; the user's amount, which is not touched; and what each line gets
pub record CeilingOutcome : Type 0 where
  pub number : ℕ
  pub place : ℕ
  pub gap : ℤ
  pub user : ℤ
  pub parts : List CeiledPart

-- a refusal gives number and place, otherwise zeros
abbrev pub ceiling_refused : ℕ → ℕ → CeilingOutcome
ceiling_refused number place = record { number = number; place = place; gap = pos 0; user = pos 0; parts = [] }

-- accepted, number and place are 0; R and the user's amount are the first sharing's
abbrev pub ceiling_accepted : List LimitedLine → SharingOutcome → CeilingOutcome
ceiling_accepted ls o = record { number = 0; place = 0; gap = o.gap; user = o.user; parts = ceiled_parts ls o.parts }

-- the second sharing, behind a first that was accepted: 17 where the uncollected sum exceeds all positive amounts together
unfoldable pub second_sharing : List LimitedLine → SharingOutcome → CeilingOutcome
second_sharing ls o = cond (ltb (total (positives o.parts)) (uncollected_sum ls o.parts)) (ceiling_refused 17 0) (ceiling_accepted ls o)

-- the first sharing's refusal, or the second sharing
unfoldable pub both_sharings : List LimitedLine → SharingOutcome → CeilingOutcome
both_sharings ls o = cond (eqb o.number 0) (second_sharing ls o) (ceiling_refused o.number o.place)

-- Sharing of so many lines with limits, of whose first 64 the first bad one is at the place `bad`: 10 at 65 for the part, 10 in turn, then the two sharings: 15, 16, 17
unfoldable pub ceiling_in_turn : ℕ → ℕ → ℕ → List LimitedLine → CeilingOutcome
ceiling_in_turn part bad count ls =
    cond (ltb most_part part) (ceiling_refused 10 part_place)
    (cond (ltb bad (min count most_number)) (ceiling_refused 10 bad)
    (cond (ltb most_number count) (ceiling_refused 10 most_number)
    (both_sharings ls (sharing part (plain_lines ls)))))

-- SHARING OF A LIST OF LINES WITH LIMITS
unfoldable pub ceiling : ℕ → List LimitedLine → CeilingOutcome
ceiling part ls = ceiling_in_turn part (first_bad_limited 0 (take most_number ls)) (length ls) ls
