-- The sums of request 8, worked through.
use mathlib.Core.Path.{◌≡◌, refl}
use mathlib.Core.Bool.{true, false}
use mathlib.Core.List.{List, [], ◌∷◌}
use Prim.Native.Nat.{ℕ, ◌≤◌, ◌<◌}
use lib.Dec.{lit<}
use lib.IntN.{ℤ, pos, negsuc}
use Rattle.apportion.specs.Apportion.{apportion}
use Rattle.units.specs.Money.{fen_per_thousandth}
use Rattle.share.specs.Sharing.{gap, generators_amount, user_amount, line_is_sound, parts, settled, sharing_in_turn}
use Rattle.share.proofs.Worked.{line}
use Rattle.share.proofs.Promises.{sumℤ}
use Rattle.ceiling.specs.declared.Limit.{Limit}
use Rattle.ceiling.specs.declared.LimitedLine.{LimitedLine}
use Rattle.ceiling.specs.Ceiling.{limit_is_sound, limited_is_sound, paid, beyond, positive, given_up, CeiledPart, ceiled_parts}
use Rattle.ceiling.specs.Ceiling.{CeilingOutcome, ceiling_refused, second_sharing, both_sharings, ceiling_in_turn, ceiling}
use Rattle.ceiling.proofs.Promises.{all_ceiled, adds_to_zero_lem, within_limit, limit_paid}
use Rattle.ceiling.proofs.WholePart.{seventeen_by_the_user}

abbrev pub up_to : ℕ → Limit
up_to fen = record { none = false; fen = record { 0 = fen } }

-- no limit, with a number beside the mark that would be none's
abbrev pub none_beside : ℕ → Limit
none_beside fen = record { none = true; fen = record { 0 = fen } }

abbrev pub unlimited : Limit
unlimited = none_beside 0

-- number, status, energy, compensation, assessment, limit
abbrev pub limited : ℕ → ℕ → ℕ → ℕ → ℕ → Limit → LimitedLine
limited n s e c a limit = record { line = line n s e c a; limit = limit; uncollected = record { 0 = 0 }; given = record { 0 = 0 } }

-- share, amount, what is not collected, what is given up
abbrev pub got : ℤ → ℤ → ℕ → ℕ → CeiledPart
got s a u g = record { share = s; amount = a; uncollected = u; given = g }

abbrev pub accepted : ℤ → ℤ → List CeiledPart → CeilingOutcome
accepted gap user ps = record { number = 0; place = 0; gap = gap; user = user; parts = ps }

-- the paper's three lines
abbrev pub three : Limit → Limit → Limit → List LimitedLine
three a b c = limited 1 0 100 300000 0 a ∷ limited 2 0 200 0 1000 b ∷ limited 3 2 50 0 0 c ∷ []

-- so much is due to three, and the energy is the payer's alone
abbrev pub due : ℕ → ℕ → ℕ → Limit → List LimitedLine
due a b c limit = limited 1 0 0 a 0 unlimited ∷ limited 2 0 0 b 0 unlimited ∷ limited 3 0 0 c 0 unlimited ∷ limited 4 0 5 0 0 limit ∷ []

-- with half of R for the generators: amounts −75250 and 25750, and 49500 for the user
abbrev pub two : Limit → List LimitedLine
two limit = limited 1 0 10 0 1000 limit ∷ limited 2 0 10 1000 0 unlimited ∷ []

-- a part, lines, and what is said of them
pub record Case : Type 0 where
  pub part : ℕ
  pub lines : List LimitedLine
  pub says : CeilingOutcome

abbrev case : ℕ → List LimitedLine → CeilingOutcome → Case
case part lines says = record { part = part; lines = lines; says = says }

abbrev pub Holds : List Case → Type 0
Holds [] = Unit {0}
Holds (c ∷ cs) = (ceiling c.part c.lines ≡ c.says) × Holds cs

abbrev pub cases : List Case
cases =
    -- the second pays no more than 50000: 161111 are not collected, and the first gives them up
    case 10000 (three unlimited (up_to 50000) unlimited)
    (accepted (negsuc 199999) (pos 0) (got (negsuc 55555) (pos 83333) 0 161111 ∷ got (negsuc 111110) (negsuc 49999) 161111 0 ∷ got (negsuc 33332) (negsuc 33332) 0 0 ∷ []))
    -- neither of the two that pay pays anything: all amounts are 0
    ∷ case 10000 (three unlimited (up_to 0) (up_to 0))
    (accepted (negsuc 199999) (pos 0) (got (negsuc 55555) (pos 0) 0 244444 ∷ got (negsuc 111110) (pos 0) 211111 0 ∷ got (negsuc 33332) (pos 0) 33333 0 ∷ []))
    -- 10, 10, 10 against −30 with the limit 29: the lowest number gives up the one fen
    ∷ case 10000 (due 10 10 10 (up_to 29))
    (accepted (negsuc 29) (pos 0) (got (pos 0) (pos 9) 0 1 ∷ got (pos 0) (pos 10) 0 0 ∷ got (pos 0) (pos 10) 0 0 ∷ got (negsuc 29) (negsuc 28) 1 0 ∷ []))
    -- 10, 20, 10 against −40 with the limit 33: 2, 3 and 2 are given up
    ∷ case 10000 (due 10 20 10 (up_to 33))
    (accepted (negsuc 39) (pos 0) (got (pos 0) (pos 8) 0 2 ∷ got (pos 0) (pos 17) 0 3 ∷ got (pos 0) (pos 8) 0 2 ∷ got (negsuc 39) (negsuc 32) 7 0 ∷ []))
    -- no limit, and one that is just reached
    ∷ case 5000 (two unlimited) (accepted (pos 99000) (pos 49500) (got (pos 24750) (negsuc 75249) 0 0 ∷ got (pos 24750) (pos 25750) 0 0 ∷ []))
    ∷ case 5000 (two (up_to 75250)) (accepted (pos 99000) (pos 49500) (got (pos 24750) (negsuc 75249) 0 0 ∷ got (pos 24750) (pos 25750) 0 0 ∷ []))
    -- 25250 are given up
    ∷ case 5000 (two (up_to 50000)) (accepted (pos 99000) (pos 49500) (got (pos 24750) (negsuc 49999) 25250 0 ∷ got (pos 24750) (pos 500) 0 25250 ∷ []))
    -- as much as the positive amounts come to can be given up, and one fen more is refused
    ∷ case 5000 (two (up_to 49500)) (accepted (pos 99000) (pos 49500) (got (pos 24750) (negsuc 49499) 25750 0 ∷ got (pos 24750) (pos 0) 0 25750 ∷ []))
    ∷ case 5000 (two (up_to 49499)) (ceiling_refused 17 0)
    -- a limit of 10^11 is sound, one above is refused at its line, and beside the mark for none it is not looked at
    ∷ case 5000 (two (up_to 100000000000)) (accepted (pos 99000) (pos 49500) (got (pos 24750) (negsuc 75249) 0 0 ∷ got (pos 24750) (pos 25750) 0 0 ∷ []))
    ∷ case 10000 (three unlimited (up_to 100000000001) unlimited) (ceiling_refused 10 1)
    ∷ case 5000 (two (none_beside 100000000001)) (accepted (pos 99000) (pos 49500) (got (pos 24750) (negsuc 75249) 0 0 ∷ got (pos 24750) (pos 25750) 0 0 ∷ []))
    -- a limit is judged in turn with the lines' other numbers: a bad limit before a line with a bad status, and behind it
    ∷ case 10000 (limited 1 0 1 0 0 (up_to 100000000001) ∷ limited 2 3 1 0 0 unlimited ∷ []) (ceiling_refused 10 0)
    ∷ case 10000 (limited 1 0 1 0 0 unlimited ∷ limited 2 3 1 0 0 unlimited ∷ limited 3 0 1 0 0 (up_to 100000000001) ∷ []) (ceiling_refused 10 1)
    -- 15, and a limit's 10 before it
    ∷ case 10000 (limited 1 0 1 60000000000 0 unlimited ∷ limited 2 0 1 60000000000 0 unlimited ∷ []) (ceiling_refused 15 0)
    ∷ case 10000 (limited 1 0 1 60000000000 0 unlimited ∷ limited 2 0 1 60000000000 0 (up_to 100000000001) ∷ []) (ceiling_refused 10 1)
    -- 16 comes before 17: without a share the line would pay 100000 beyond its limit, and nobody gets anything
    ∷ case 10000 (limited 1 0 0 0 1000 (up_to 0) ∷ []) (ceiling_refused 16 0)
    ∷ []

pub worked : Holds cases
unfolding
    ceiling ceiling_in_turn both_sharings second_sharing ceiled_parts given_up positive beyond paid limited_is_sound limit_is_sound
    sharing_in_turn settled parts user_amount generators_amount gap line_is_sound apportion fen_per_thousandth
worked = (refl, (refl, (refl, (refl, (refl, (refl, (refl, (refl, (refl, (refl, (refl, (refl, (refl, (refl, (refl, (refl, (refl, tt)))))))))))))))))

-- The promises meet such a sum: their conditions can be met.
none_refused_lem : (ceiling 5000 (two (up_to 50000))).number ≡ 0
unfolding
    ceiling ceiling_in_turn both_sharings second_sharing positive beyond paid limited_is_sound limit_is_sound
    sharing_in_turn settled parts user_amount generators_amount gap line_is_sound apportion fen_per_thousandth
none_refused_lem = refl

pub two_adds_up : sumℤ (all_ceiled (ceiling 5000 (two (up_to 50000)))) ≡ pos 0
two_adds_up = adds_to_zero_lem 5000 (two (up_to 50000)) none_refused_lem

pub two_within : paid (negsuc 49999) ≤ 50000
unfolding
    ceiling ceiling_in_turn both_sharings second_sharing ceiled_parts given_up positive beyond paid limited_is_sound limit_is_sound
    sharing_in_turn settled parts user_amount generators_amount gap line_is_sound apportion fen_per_thousandth
two_within = within_limit 5000 (two (up_to 50000)) none_refused_lem 0 (limited 1 0 0 0 0 unlimited) (got (pos 0) (pos 0) 0 0) (lit< tt) refl

-- of 75250 exactly the limit is paid
pub two_exactly : paid (negsuc 49999) ≡ 50000
unfolding
    ceiling ceiling_in_turn both_sharings second_sharing ceiled_parts given_up positive beyond paid limited_is_sound limit_is_sound
    sharing_in_turn settled parts user_amount generators_amount gap line_is_sound apportion fen_per_thousandth
two_exactly =
    limit_paid 5000 (two (up_to 50000)) none_refused_lem 0 (limited 1 0 0 0 0 unlimited) (got (pos 0) (pos 0) 0 0) (record { share = pos 0; amount = pos 0 }) (lit< tt) refl (lit< tt)

-- and where 17 comes, the user gets 49500
pub two_by_the_user : 0 < positive (pos 49500)
unfolding
    ceiling ceiling_in_turn both_sharings second_sharing ceiled_parts given_up positive beyond paid limited_is_sound limit_is_sound
    sharing_in_turn settled parts user_amount generators_amount gap line_is_sound apportion fen_per_thousandth
two_by_the_user = seventeen_by_the_user 5000 (two (up_to 49499)) refl
