-- Texts and what is read of them: a register, a series, and the edges of a line. They show that the definitions are about something. Assumes nothing.
use mathlib.Core.Path.{◌≡◌, refl}
use mathlib.Core.Bool.{Bool, true, false, ◌&&◌}
use mathlib.Core.List.{List, [], ◌∷◌, ◌++◌}
use Prim.Native.Nat.{ℕ}
use lib.Dec.{eqb}
use Rattle.row.specs.Numbers.{numbers_in}
use Rattle.row.specs.Judging.{filled_up, all_taken, judged}
use Rattle.share.specs.Sharing.{line_is_sound}
use Rattle.ceiling.specs.Ceiling.{limit_is_sound, limited_is_sound}
use Rattle.pay.specs.Member.{member_is_sound}
use Rattle.register.specs.declared.Entry.{Entry}
use Rattle.tables.specs.declared.roll.Register.{Register}
use Rattle.grid.specs.Grid.{row_of, rows_of}
use Rattle.grid.specs.Told.{row_in, rows_by}
use Rattle.register.specs.Register.{entry_line, entry_limited, entry_is_sound}
use Rattle.tables.specs.Register.{register_row, limit_told, as_entry, entries_of, register_entries, read_register}
use Rattle.tables.specs.Series.{output_of, series_of, filled_with}

-- Registers

-- "1,2,100,0,50,1000", without its limit, and with "-"
pub six : List ℕ
six = 49 ∷ 44 ∷ 50 ∷ 44 ∷ 49 ∷ 48 ∷ 48 ∷ 44 ∷ 48 ∷ 44 ∷ 53 ∷ 48 ∷ 44 ∷ 49 ∷ 48 ∷ 48 ∷ 48 ∷ []

pub first : List ℕ
first = six ++ 44 ∷ 45 ∷ []

-- "7,4,4000000,2,5000000,0,100000000000"
pub second : List ℕ
second = 55 ∷ 44 ∷ 52 ∷ 44 ∷ 52 ∷ 48 ∷ 48 ∷ 48 ∷ 48 ∷ 48 ∷ 48 ∷ 44 ∷ 50 ∷ 44 ∷ 53 ∷ 48 ∷ 48 ∷ 48 ∷ 48 ∷ 48 ∷ 48 ∷ 44 ∷ 48 ∷ 44
    ∷ 49 ∷ 48 ∷ 48 ∷ 48 ∷ 48 ∷ 48 ∷ 48 ∷ 48 ∷ 48 ∷ 48 ∷ 48 ∷ 48 ∷ []

-- "8,9,1,0,0,0,-", of a kind that there is not
ninth : List ℕ
ninth = 56 ∷ 44 ∷ 57 ∷ 44 ∷ 49 ∷ 44 ∷ 48 ∷ 44 ∷ 48 ∷ 44 ∷ 48 ∷ 44 ∷ 45 ∷ []

pub first_entry : Entry
first_entry =
    record {
      member = record { number = 1; kind = 2; rated = record { 0 = 100 } };
      status = 0;
      energy = record { 0 = 50 };
      assessment = record { 0 = 1000 };
      limit = record { none = true; fen = record { 0 = 0 } };
    }

pub second_entry : Entry
second_entry =
    record {
      member = record { number = 7; kind = 4; rated = record { 0 = 4000000 } };
      status = 2;
      energy = record { 0 = 5000000 };
      assessment = record { 0 = 0 };
      limit = record { none = false; fen = record { 0 = 100000000000 } };
    }

-- The first line ends in a carriage return and a line feed, the last in neither.
pub register_read : read_register (first ++ 13 ∷ 10 ∷ second) ≡ all_taken register_entries (first_entry ∷ second_entry ∷ [])
unfolding six first second first_entry second_entry read_register judged entries_of rows_by row_in register_row limit_told as_entry
    entry_is_sound member_is_sound limited_is_sound line_is_sound limit_is_sound entry_line entry_limited filled_up
register_read = refl

pub record Case : Type 0 where
  pub text : List ℕ
  pub number : ℕ
  pub place : ℕ
  pub count : ℕ

pub cases : List Case
cases =
    record { text = first ++ 10 ∷ second ++ 13 ∷ 10 ∷ []; number = 0; place = 0; count = 2 }
    ∷ record { text = second ++ 13 ∷ []; number = 0; place = 0; count = 1 }
    -- no lines; a heading, "no", alone and before a line
    ∷ record { text = []; number = 0; place = 0; count = 0 }
    ∷ record { text = 110 ∷ 111 ∷ 10 ∷ []; number = 0; place = 0; count = 0 }
    ∷ record { text = 110 ∷ 111 ∷ 10 ∷ first; number = 0; place = 0; count = 1 }
    -- an empty line behind the last; one between two; one that is not, behind a heading that is not counted
    ∷ record { text = first ++ 10 ∷ 10 ∷ []; number = 0; place = 0; count = 1 }
    ∷ record { text = first ++ 10 ∷ 10 ∷ second; number = 10; place = 1; count = 0 }
    ∷ record { text = 110 ∷ 10 ∷ first ++ 10 ∷ ninth; number = 10; place = 1; count = 0 }
    -- six numbers alone, as before there were limits; a limit of 0; "-" in quotes; none where nothing stands, behind two dashes, and in another column
    ∷ record { text = six; number = 10; place = 0; count = 0 }
    ∷ record { text = six ++ 44 ∷ 48 ∷ []; number = 0; place = 0; count = 1 }
    ∷ record { text = six ++ 44 ∷ 34 ∷ 45 ∷ 34 ∷ 13 ∷ 10 ∷ second; number = 0; place = 0; count = 2 }
    ∷ record { text = six ++ 44 ∷ []; number = 10; place = 0; count = 0 }
    ∷ record { text = first ++ 45 ∷ []; number = 10; place = 0; count = 0 }
    ∷ record { text = 49 ∷ 44 ∷ 50 ∷ 44 ∷ 49 ∷ 44 ∷ 45 ∷ 44 ∷ 49 ∷ 44 ∷ 49 ∷ 44 ∷ 45 ∷ []; number = 10; place = 0; count = 0 }
    -- a limit above 10^11 fen, 100000000001
    ∷ record { text = six ++ 44 ∷ 49 ∷ 48 ∷ 48 ∷ 48 ∷ 48 ∷ 48 ∷ 48 ∷ 48 ∷ 48 ∷ 48 ∷ 48 ∷ 49 ∷ []; number = 10; place = 0; count = 0 }
    -- two carriage returns; one within a line; a blank; a comma behind; an eighth number
    ∷ record { text = first ++ 13 ∷ 13 ∷ 10 ∷ []; number = 10; place = 0; count = 0 }
    ∷ record { text = 13 ∷ first; number = 10; place = 0; count = 0 }
    ∷ record { text = first ++ 32 ∷ []; number = 10; place = 0; count = 0 }
    ∷ record { text = first ++ 44 ∷ []; number = 10; place = 0; count = 0 }
    ∷ record { text = first ++ 44 ∷ 48 ∷ []; number = 10; place = 0; count = 0 }
    -- an equal number; a lower one; a ninth kind; leading zeros
    ∷ record { text = first ++ 10 ∷ first; number = 10; place = 1; count = 0 }
    ∷ record { text = second ++ 10 ∷ first; number = 10; place = 1; count = 0 }
    ∷ record { text = first ++ 10 ∷ ninth; number = 10; place = 1; count = 0 }
    ∷ record { text = 48 ∷ 48 ∷ 48 ∷ 48 ∷ 48 ∷ 48 ∷ 48 ∷ 48 ∷ 48 ∷ 48 ∷ 48 ∷ 48 ∷ 48 ∷ first; number = 0; place = 0; count = 1 }
    ∷ []

pub as_said : Case → Register → Bool
as_said c r = eqb r.number c.number && eqb r.place c.place && eqb r.count c.count

pub every : List Case → Bool
every [] = true
every (c ∷ cs) = as_said c (read_register c.text) && every cs

-- Each text is read as the table says.
pub reads_as_told : every cases ≡ true
unfolding every as_said cases six first second ninth read_register judged entries_of rows_by row_in register_row limit_told as_entry
    entry_is_sound member_is_sound limited_is_sound line_is_sound limit_is_sound entry_line entry_limited filled_up
reads_as_told = refl

-- Series

-- "12", "1x" and "13"
pub three : List ℕ
three = 49 ∷ 50 ∷ 10 ∷ 49 ∷ 120 ∷ 13 ∷ 10 ∷ 49 ∷ 51 ∷ []

-- A line that is no number is told by the largest u32; what is behind the text's last line stays.
pub series_read : filled_with (9 ∷ 9 ∷ 9 ∷ 9 ∷ []) (series_of three) ≡ record { count = 3; values = 12 ∷ 4294967295 ∷ 13 ∷ 9 ∷ [] }
unfolding three filled_with series_of output_of rows_of row_of numbers_in
series_read = refl

-- Where there is no room, the rest is not read.
pub series_short : filled_with (9 ∷ 9 ∷ []) (series_of three) ≡ record { count = 2; values = 12 ∷ 4294967295 ∷ [] }
unfolding three filled_with series_of output_of rows_of row_of numbers_in
series_short = refl
