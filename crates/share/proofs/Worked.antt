-- Sums of the paper and of request 2, worked through, and the promises met by them.
use mathlib.Core.Path.{◌≡◌, refl}
use mathlib.Core.List.{List, [], ◌∷◌}
use Prim.Native.Nat.{ℕ, ◌<◌}
use lib.Dec.{lit≤, lit<}
use lib.IntN.{ℤ, pos, negsuc, nat_abs, ◌+ℤ◌, ◌-ℤ◌, ◌*ℤ◌}
use Rattle.apportion.specs.Apportion.{apportion}
use Rattle.units.specs.Money.{fen_per_thousandth}
use Rattle.share.specs.declared.Line.{Line}
use Rattle.share.specs.Sharing.{gap, weights, generators_amount, user_amount, line_is_sound, Part, parts, SharingOutcome, sharing_refused, settled, sharing_in_turn, sharing}
use Rattle.share.specs.Forms.{blank_line}
use Rattle.share.proofs.Promises.{sumℤ, shares, all_amounts, SignOf, signs_of_gap, adds_to_gap, adds_to_zero_lem, one_fen}

abbrev pub line : ℕ → ℕ → ℕ → ℕ → ℕ → Line
line n s e c a =
    record {
      number = n;
      status = s;
      energy = record { 0 = e };
      compensation = record { 0 = c };
      assessment = record { 0 = a };
      share = record { 0 = pos 0 };
      amount = record { 0 = pos 0 };
    }

abbrev pub part : ℤ → ℤ → Part
part s a = record { share = s; amount = a }

-- an accepted sharing
abbrev pub accepted : ℤ → ℤ → List Part → SharingOutcome
accepted gap user ps = record { number = 0; place = 0; gap = gap; user = user; parts = ps }

-- compensation 100 fen, no assessment, three equal energies above zero at status 0
abbrev pub equals : List Line
equals = line 1 0 5 100 0 ∷ line 2 0 5 0 0 ∷ line 3 0 5 0 0 ∷ []

-- shares −34, −33, −33
pub equal_energies : sharing 10000 equals ≡ accepted (negsuc 99) (pos 0) (part (negsuc 33) (pos 66) ∷ part (negsuc 32) (negsuc 32) ∷ part (negsuc 32) (negsuc 32) ∷ [])
unfolding sharing_in_turn settled parts user_amount generators_amount gap line_is_sound apportion fen_per_thousandth
equal_energies = refl

-- the lines that the program `statement` reads in the paper
abbrev pub sample : List Line
sample = line 1 0 100 300000 0 ∷ line 2 0 200 0 1000 ∷ line 3 2 50 0 0 ∷ []

-- total −200000; shares and amounts as printed
pub statement_sample : sharing 10000 sample
    ≡ accepted (negsuc 199999) (pos 0) (part (negsuc 55555) (pos 244444) ∷ part (negsuc 111110) (negsuc 211110) ∷ part (negsuc 33332) (negsuc 33332) ∷ [])
unfolding sharing_in_turn settled parts user_amount generators_amount gap line_is_sound apportion fen_per_thousandth
statement_sample = refl

-- Each status on each side of R: lines of 100 MWh, commercial, semi-coke tail gas, commissioning or retired; the first has all of C and A
abbrev pub each_status : ℕ → ℕ → List Line
each_status c a = line 1 0 100 c a ∷ line 2 1 100 0 0 ∷ line 3 2 100 0 0 ∷ []

-- A < C, R −2,700: ten, five and twelve times 100 are 2,700, so the shares are −1,000, −500 and −1,200
pub statuses_below : sharing 10000 (each_status 2700 0)
    ≡ accepted (negsuc 2699) (pos 0) (part (negsuc 999) (pos 1700) ∷ part (negsuc 499) (negsuc 499) ∷ part (negsuc 1199) (negsuc 1199) ∷ [])
unfolding sharing_in_turn settled parts user_amount generators_amount gap line_is_sound apportion fen_per_thousandth
statuses_below = refl

-- A > C, R 2,500: ten, five and ten times 100 are 2,500, so the shares are 1,000, 500 and 1,000
pub statuses_above : sharing 10000 (each_status 0 25) ≡ accepted (pos 2500) (pos 0) (part (pos 1000) (negsuc 1499) ∷ part (pos 500) (pos 500) ∷ part (pos 1000) (pos 1000) ∷ [])
unfolding sharing_in_turn settled parts user_amount generators_amount gap line_is_sound apportion fen_per_thousandth
statuses_above = refl

-- their weights, below zero, at zero and above it: A of 26, 27 and 28 thousandths of a point against C of 2,700 fen
pub weights_below : weights (each_status 2700 26) ≡ 1000 ∷ 500 ∷ 1200 ∷ []
unfolding fen_per_thousandth
weights_below = refl

pub weights_level : weights (each_status 2700 27) ≡ 1000 ∷ 500 ∷ 1000 ∷ []
unfolding fen_per_thousandth
weights_level = refl

pub weights_above : weights (each_status 2700 28) ≡ 1000 ∷ 500 ∷ 1000 ∷ []
unfolding fen_per_thousandth
weights_above = refl

-- half of it for the generators: shares −27778, −55555, −16667, and −100000 for the user
pub sample_half : sharing 5000 sample
    ≡ accepted (negsuc 199999) (negsuc 99999) (part (negsuc 27777) (pos 272222) ∷ part (negsuc 55554) (negsuc 155554) ∷ part (negsuc 16666) (negsuc 16666) ∷ [])
unfolding sharing_in_turn settled parts user_amount generators_amount gap line_is_sound apportion fen_per_thousandth
sample_half = refl

-- 33.33%: shares −18517, −37033, −11110, and −133340 for the user
pub sample_third : sharing 3333 sample
    ≡ accepted (negsuc 199999) (negsuc 133339) (part (negsuc 18516) (pos 281483) ∷ part (negsuc 37032) (negsuc 137032) ∷ part (negsuc 11109) (negsuc 11109) ∷ [])
unfolding sharing_in_turn settled parts user_amount generators_amount gap line_is_sound apportion fen_per_thousandth
sample_third = refl

-- nothing for the generators: all of it is the user's
pub sample_none : sharing 0 sample ≡ accepted (negsuc 199999) (negsuc 199999) (part (pos 0) (pos 300000) ∷ part (pos 0) (negsuc 99999) ∷ part (pos 0) (pos 0) ∷ [])
unfolding sharing_in_turn settled parts user_amount generators_amount gap line_is_sound apportion fen_per_thousandth
sample_none = refl

-- more than the whole is refused, whatever the lines are
pub more_than_whole : (ls : List Line) → sharing 10001 ls ≡ sharing_refused 10 65
unfolding sharing_in_turn
more_than_whole ls = refl

-- R −200001: −100000 for the generators, cut toward zero, and −100001 for the user
abbrev pub odd : List Line
odd = line 1 0 100 200001 0 ∷ []

pub odd_half : sharing 5000 odd ≡ accepted (negsuc 200000) (negsuc 100000) (part (negsuc 99999) (pos 100001) ∷ [])
unfolding sharing_in_turn settled parts user_amount generators_amount gap line_is_sound apportion fen_per_thousandth
odd_half = refl

-- each has the sign of R
pub odd_signs : SignOf (negsuc 200000) (negsuc 99999) × SignOf (negsuc 200000) (negsuc 100000)
unfolding user_amount generators_amount gap fen_per_thousandth
odd_signs = signs_of_gap 5000 odd (lit≤ tt)

-- The promises hold of the sample: their conditions can be met.
sample_taken : (sharing 5000 sample).number ≡ 0
unfolding sharing_in_turn settled parts generators_amount gap line_is_sound fen_per_thousandth
sample_taken = refl

pub sample_to_gap : sumℤ (shares (sharing 5000 sample)) +ℤ (sharing 5000 sample).user ≡ gap sample
sample_to_gap = adds_to_gap 5000 sample sample_taken

pub sample_to_zero : sumℤ (all_amounts (sharing 5000 sample)) ≡ pos 0
sample_to_zero = adds_to_zero_lem 5000 sample sample_taken

-- the weights of the sample are 1,000, 2,000 and 600 with A < C
pub sample_one_fen : nat_abs (negsuc 27777 *ℤ pos 3600 -ℤ negsuc 99999 *ℤ pos 1000) < 3600
unfolding sharing_in_turn settled parts generators_amount gap line_is_sound apportion fen_per_thousandth
sample_one_fen = one_fen 5000 sample sample_taken 0 blank_line (part (pos 0) (pos 0)) (lit< tt) (lit< tt)

-- No lines are accepted, with R 0 and nothing for the user.
pub no_lines : sharing 5000 [] ≡ accepted (pos 0) (pos 0) []
unfolding sharing_in_turn settled parts user_amount generators_amount gap apportion
no_lines = refl

-- a second line of the same number is refused at its place
pub twice : sharing 10000 (line 7 0 5 0 0 ∷ line 7 0 5 0 0 ∷ []) ≡ sharing_refused 10 1
unfolding sharing_in_turn settled gap line_is_sound
twice = refl

-- a gap and no weight: of 9,999 fen a hundredth of a percent is cut to zero, of 10,000 it is not
pub no_weight_none : sharing 1 (line 1 0 0 9999 0 ∷ []) ≡ accepted (negsuc 9998) (negsuc 9998) (part (pos 0) (pos 9999) ∷ [])
unfolding sharing_in_turn settled parts user_amount generators_amount gap line_is_sound apportion fen_per_thousandth
no_weight_none = refl

pub no_weight : sharing 1 (line 1 0 0 10000 0 ∷ []) ≡ sharing_refused 16 0
unfolding sharing_in_turn settled generators_amount gap line_is_sound fen_per_thousandth
no_weight = refl
