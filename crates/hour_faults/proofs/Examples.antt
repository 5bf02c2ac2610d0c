-- A file whose hours fall, what is found and told of it, and that reading refuses it there; and one without a fault. They show that the definitions are about something.
-- Assumes nothing.
use Rattle.std.proofs.Common.{◌≡◌, ℕ, suc, List, [], ◌∷◌, refl, arith}
use Rattle.render.specs.Decimal.{word, decimal_in, decimal}
use Rattle.row.specs.Numbers.{ceiling}
use Rattle.grid.specs.Told.{row_in, rows_by}
use Rattle.pay.specs.Member.{member_is_sound}
use Rattle.ramp.specs.Ramping.{is_ramping, first_standard}
use Rattle.hours.specs.declared.HoursFault.TheVariants.{AtLine}
use Rattle.hours.specs.Hours.{as_hour_line, of_hour, last_hour, read_hours}
use Rattle.pay.specs.declared.Member.{Member}
use Rattle.faults.specs.Faults.{first_line}
use Rattle.faults.specs.Words.{line_text}
use Rattle.std.specs.Prelude.{Some, None}
use Rattle.hour_faults.specs.declared.HourWrong.TheVariants.{Blank, Columns, NoNumber, Outside, Earlier, Full, OtherStandard, TooFast, NoMove}
use Rattle.hour_faults.specs.HourFaults.{column_fault, month_fault, cells_fault, rising_fault, full_fault, standard_fault, fast_fault, move_fault, action_fault, row_fault, hour_fault}
use Rattle.hour_faults.specs.HourFaults.{found_from, first_hour_fault}
use Rattle.hour_faults.specs.Words.{earlier_text, hour_fault_text}
use Rattle.hour_faults.proofs.Promises.{first_refused_lem, none_taken}

-- member 7, coal of 300,000 kW
abbrev coal : Member
coal = record { number = 7; kind = 1; rated = record { 0 = 300000 } }

-- a heading, an action of hour 5, one of hour 3
pub falling : List ℕ
falling = word "hour,start\n5,100000,109000,110000,60,4500,3000\n3,100000,109000,110000,60,4500,3000\n"

-- an action of hour 3, two of hour 5
pub rising : List ℕ
rising = word "3,100000,109000,110000,60,4500,3000\n5,100000,109000,110000,60,4500,3000\n5,109000,100001,100000,30,2999,3000"

-- what is wrong: on its third line hour 3 stands behind hour 5
pub falls : first_hour_fault 744 falling ≡ Some (record { line = 3; wrong = Earlier 3 5 })
unfolding falling first_hour_fault found_from hour_fault row_fault cells_fault month_fault column_fault action_fault rising_fault full_fault standard_fault fast_fault move_fault first_line
    rows_by row_in as_hour_line of_hour last_hour first_standard
falls = refl

pub falls_told : hour_fault_text (word "07-ramping.csv") 3 (Some (Earlier 3 5)) ≡ word "07-ramping.csv line 3: hour 3 stands behind hour 5: hours must not fall\n"
unfolding hour_fault_text earlier_text line_text decimal decimal_in
falls_told = refl

-- so reading it refuses row 1
pub falls_refused : (read_hours coal 744 falling).fault ≡ Some (AtLine 1)
unfolding falling member_is_sound is_ramping first_line
falls_refused = (first_refused_lem 744 (omega arith) coal refl refl falling 1).1 (record { line = 3; wrong = Earlier 3 5 }, falls, refl)

-- a file of the same actions in their order is taken
pub rising_taken : (read_hours coal 744 rising).fault ≡ None
unfolding rising member_is_sound is_ramping first_hour_fault found_from hour_fault row_fault cells_fault month_fault column_fault action_fault rising_fault full_fault standard_fault fast_fault
    move_fault first_line rows_by row_in as_hour_line of_hour last_hour first_standard
rising_taken = (none_taken 744 (omega arith) coal refl refl rising).1 refl

-- The order of faults within a line, worked out: in each row what is told stands before all else that is wrong

-- a line of seven cells: hour, start, end, command, delay, real, standard
abbrev cells : ℕ → ℕ → ℕ → ℕ → ℕ → ℕ → ℕ → List ℕ
cells hour start end command delay real standard = hour ∷ start ∷ end ∷ command ∷ delay ∷ real ∷ standard ∷ []

-- how many cells come first, then the cells from the first to the last, each no number or outside its limits
pub cells_in_turn :
    (row_fault 744 5 60 3000 [] ≡ Some Blank)
    × (row_fault 744 5 60 3000 (744 ∷ 5000001 ∷ 5000001 ∷ 5000001 ∷ 301 ∷ 1000001 ∷ []) ≡ Some (Columns 6 7))
    × (row_fault 744 5 60 3000 (cells (suc ceiling) 5000001 5000001 5000001 301 1000001 0) ≡ Some (NoNumber 1))
    × (row_fault 744 5 60 3000 (cells 744 (suc ceiling) 5000001 5000001 301 1000001 0) ≡ Some (Outside 1 744 0 743))
    × (row_fault 744 5 60 3000 (cells 4 (suc ceiling) 5000001 5000001 301 1000001 0) ≡ Some (NoNumber 2))
    × (row_fault 744 5 60 3000 (cells 4 5000001 5000001 5000001 301 1000001 0) ≡ Some (Outside 2 5000001 0 5000000))
    × (row_fault 744 5 60 3000 (cells 4 100000 5000001 5000001 301 1000001 0) ≡ Some (Outside 3 5000001 0 5000000))
    × (row_fault 744 5 60 3000 (cells 4 100000 109000 5000001 301 1000001 0) ≡ Some (Outside 4 5000001 0 5000000))
    × (row_fault 744 5 60 3000 (cells 4 100000 109000 100000 301 1000001 0) ≡ Some (Outside 5 301 0 300))
    × (row_fault 744 5 60 3000 (cells 4 100000 109000 100000 60 1000001 0) ≡ Some (Outside 6 1000001 0 1000000))
    × (row_fault 744 5 60 3000 (cells 4 100000 109000 100000 60 300101 0) ≡ Some (Outside 7 0 1 1000000))
unfolding row_fault cells_fault month_fault column_fault action_fault rising_fault full_fault standard_fault fast_fault move_fault
cells_in_turn = (refl, refl, refl, refl, refl, refl, refl, refl, refl, refl, refl)

-- then what the cells say together: an earlier hour, one that is full, another standard rate, a real rate too fast, nothing commanded
pub action_in_turn :
    (row_fault 744 5 60 3000 (cells 4 100000 109000 100000 60 300101 3001) ≡ Some (Earlier 4 5))
    × (row_fault 744 4 60 3000 (cells 4 100000 109000 100000 60 300101 3001) ≡ Some (Full 4))
    × (row_fault 744 4 59 3000 (cells 4 100000 109000 100000 60 300101 3001) ≡ Some (OtherStandard 3001 4 3000))
    × (row_fault 744 4 59 3001 (cells 4 100000 109000 100000 60 300101 3001) ≡ Some (TooFast 300101 3001))
    × (row_fault 744 4 59 3001 (cells 4 100000 109000 100000 60 300100 3001) ≡ Some (NoMove 100000))
    × (row_fault 744 4 59 3001 (cells 4 100000 109000 110000 60 300100 3001) ≡ None)
unfolding row_fault cells_fault month_fault column_fault action_fault rising_fault full_fault standard_fault fast_fault move_fault
action_in_turn = (refl, refl, refl, refl, refl, refl)
