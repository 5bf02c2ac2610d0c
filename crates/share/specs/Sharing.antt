-- Sharing, as the paper has it, over a list of lines, with the generators' part of the gap and the user's, as request 2 has it. Assumes nothing.
use Rattle.std.specs.Prelude.{Bool, true, false, cond, ◌&&◌, List, [], ◌∷◌, map, ℕ, suc, ◌*◌, ◌/◌, min, leb, ltb, eqb, ℤ, pos, neg_ℤ, nat_abs, ◌+ℤ◌, ◌-ℤ◌, length, take}
use Rattle.apportion.specs.Apportion.{total, apportion}
use Rattle.units.specs.Money.{fen_per_thousandth}
use Rattle.share.specs.declared.Line.{Line}

-- Limits

-- numbers are 1 to 64, so there are at most 64 lines
abbrev pub most_number : ℕ
most_number = 64

-- status is 0 commercial, 1 semi-coke tail gas, 2 commissioning or retired
abbrev pub most_status : ℕ
most_status = 2

-- energy is 0 to 5,000,000 MWh
abbrev pub most_energy : ℕ
most_energy = 5000000

-- compensation is 0 to 10^11 fen, of a line and (C) of all lines
abbrev pub most_compensation : ℕ
most_compensation = 100000000000

-- assessment is 0 to 10,000,000 thousandths of a point
abbrev pub most_assessment : ℕ
most_assessment = 10000000

-- the generator part is 0 to 10,000 hundredths of a percent
abbrev pub most_part : ℕ
most_part = 10000

-- the place at which a generator part above that is refused
abbrev pub part_place : ℕ
part_place = 65

-- The gap

-- an assessment in fen: 100 fen each thousandth of a point
abbrev pub assessment_fen : Line → ℕ
assessment_fen l = l.assessment.0 * fen_per_thousandth

-- C, the sum of the compensations in fen
abbrev pub compensated : List Line → ℕ
compensated ls = total (map (λ l. l.compensation.0) ls)

-- A, the sum of the assessments in fen
abbrev pub assessed : List Line → ℕ
assessed ls = total (map (λ l. assessment_fen l) ls)

-- A < C: R is below zero
abbrev pub below : List Line → Bool
below ls = ltb (assessed ls) (compensated ls)

-- R = A − C
unfoldable pub gap : List Line → ℤ
gap ls = pos (assessed ls) -ℤ pos (compensated ls)

-- Weights

-- 10 for status 0, 5 for 1, and for 2 12 if A < C, else 10
abbrev pub factor_of : Bool → ℕ → ℕ
factor_of is_below status = cond (eqb status 0) 10 (cond (eqb status 1) 5 (cond is_below 12 10))

-- weight is energy times the factor of the status
abbrev pub weight_of : Bool → Line → ℕ
weight_of is_below l = l.energy.0 * factor_of is_below l.status

-- the weights of the lines, where it is known whether A < C
abbrev pub weights_of : Bool → List Line → List ℕ
weights_of is_below ls = map (λ l. weight_of is_below l) ls

-- the weights of the lines
abbrev pub weights : List Line → List ℕ
weights ls = weights_of (below ls) ls

-- the sum of the weights
abbrev pub all_weights : List Line → ℕ
all_weights ls = total (weights ls)

-- The generators' R and the user's amount

-- the sign of R is put on
abbrev pub signed : Bool → ℕ → ℤ
signed false amount = pos amount
signed true amount = neg_ℤ (pos amount)

-- the generators' R without its sign: the whole R times the part, divided by 10,000 and cut toward zero
unfoldable pub generators_amount : ℕ → List Line → ℕ
generators_amount part ls = nat_abs (gap ls) * part / most_part

-- the generators' R
abbrev pub generators_gap : ℕ → List Line → ℤ
generators_gap part ls = signed (below ls) (generators_amount part ls)

-- the rest of R is the user's amount
unfoldable pub user_amount : ℕ → List Line → ℤ
user_amount part ls = gap ls -ℤ generators_gap part ls

-- Shares and amounts

-- what a line gets
pub record Part : Type 0 where
  pub share : ℤ
  pub amount : ℤ

-- amount = compensation − assessment + share
abbrev pub part_of : Bool → Line → ℕ → Part
part_of is_below l share =
    record {
      share = signed is_below share;
      amount = pos l.compensation.0 -ℤ pos (assessment_fen l) +ℤ signed is_below share;
    }

-- what each line gets, from the shares without their sign
abbrev pub parts_by : Bool → List Line → List ℕ → List Part
parts_by is_below [] shares = []
parts_by is_below (l ∷ ls) [] = []
parts_by is_below (l ∷ ls) (share ∷ shares) = part_of is_below l share ∷ parts_by is_below ls shares

-- the shares are the generators' R apportioned by the weights, with the sign of R
unfoldable pub parts : ℕ → List Line → List Part
parts part ls = parts_by (below ls) ls (apportion (generators_amount part ls) (weights ls))

-- Refusals

-- the five numbers of a line are sound after the number `before`: numbers rise strictly, and each is within its limit
abbrev pub numbers_are_sound : ℕ → ℕ → ℕ → ℕ → ℕ → ℕ → Bool
numbers_are_sound before number status energy compensation assessment =
    ltb before number && leb number most_number && leb status most_status && leb energy most_energy
    && leb compensation most_compensation && leb assessment most_assessment

-- a line is sound after the number `before`
unfoldable pub line_is_sound : ℕ → Line → Bool
line_is_sound before l = numbers_are_sound before l.number l.status l.energy.0 l.compensation.0 l.assessment.0

-- the place of the first line that is not sound, or the number of lines where all are
abbrev pub first_bad_line : ℕ → List Line → ℕ
first_bad_line before [] = 0
first_bad_line before (l ∷ ls) = cond (line_is_sound before l) (suc (first_bad_line l.number ls)) 0

-- the generators' R is not 0 and all weights are 0
abbrev pub weightless : ℕ → List Line → Bool
weightless part ls = ltb 0 (generators_amount part ls) && eqb (all_weights ls) 0

-- number and place of a refusal, or zeros; R; the user's amount; and what each line gets
pub record SharingOutcome : Type 0 where
  pub number : ℕ
  pub place : ℕ
  pub gap : ℤ
  pub user : ℤ
  pub parts : List Part

-- a refusal gives number and place, otherwise zeros
abbrev pub sharing_refused : ℕ → ℕ → SharingOutcome
sharing_refused number place = record { number = number; place = place; gap = pos 0; user = pos 0; parts = [] }

-- accepted, number and place are 0; sharing gives the whole R, and the user's amount
abbrev pub sharing_accepted : ℕ → List Line → SharingOutcome
sharing_accepted part ls = record { number = 0; place = 0; gap = gap ls; user = user_amount part ls; parts = parts part ls }

-- where the part and every line are sound: 15 where C is above 10^11, 16 where the generators' R is not 0 and all weights are 0
unfoldable pub settled : ℕ → List Line → SharingOutcome
settled part ls =
    cond (ltb most_compensation (compensated ls)) (sharing_refused 15 0)
    (cond (weightless part ls) (sharing_refused 16 0) (sharing_accepted part ls))

-- Sharing of so many lines, of whose first 64 the first bad one is at the place `bad`: 10 at 65 for the part, 10 in turn, 15, 16. A bad line
-- of the first 64 is refused at its place; where these are sound, more than 64 lines are refused at 64.
unfoldable pub sharing_in_turn : ℕ → ℕ → ℕ → List Line → SharingOutcome
sharing_in_turn part bad count ls =
    cond (ltb most_part part) (sharing_refused 10 part_place)
    (cond (ltb bad (min count most_number)) (sharing_refused 10 bad)
    (cond (ltb most_number count) (sharing_refused 10 most_number) (settled part ls)))

-- Sharing of a list of lines
abbrev pub sharing : ℕ → List Line → SharingOutcome
sharing part ls = sharing_in_turn part (first_bad_line 0 (take most_number ls)) (length ls) ls
