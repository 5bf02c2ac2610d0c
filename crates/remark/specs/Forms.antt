-- What the desk says before a refusal's number, as it is printed: one form a message. Assumes nothing.
use Rattle.std.specs.Prelude.{List, ◌++◌, ℕ}
use Rattle.render.specs.Decimal.{word}

-- a bad field of a call: its name and what it has, and which of these is wrong with it; or the bytes of the record that no field has
abbrev pub field_form : List ℕ
field_form =
    word "[%1 %i][ is outside %i to %i][ is above %n][ is below %n][ is no multiple of 15][ from START %n goes beyond the month's end]"
    ++ word "[ must be 0 for %v][ must be 0: the call is not live][the last four bytes are not 0]"

-- a number of the arguments, or of a header, by its name: it stands outside its limits
abbrev pub outside_form : List ℕ
outside_form = word "%1 %n is outside %n to %n"

-- the n-th record of a file, counted from 1, and what is wrong with it
abbrev pub record_form : List ℕ
record_form = word "%1 record %n: %2\n"

-- a book of another month or area than those before it
abbrev pub other_month_form : List ℕ
other_month_form = word "%1 is of %m %n, area %n; the books before it of %m %n, area %n\n"

-- 12: a call of a service, with the fields by which that may be closed; the plant and the month to which it is closed; and what is open instead
abbrev pub not_open_form : List ℕ
not_open_form =
    word "call %n: %v[ with A %i][ and B %n] is not open to %k of %n kW in %m %n"
    ++ word "[: only coal has it][: only coal, gas and hydro have it][: coal has A from 1 to its rating][: %k has A 0]"
    ++ word "[: it is bought by auction from January 2027 on; withdraw the call][: all kinds but wind and photovoltaic have it]"
    ++ word "[: wind and photovoltaic have A 0 and B up to 10000]\n"

-- 13: a call that shares a minute with an earlier one; or a second call of a service of which a month has one
abbrev pub clash_form : List ℕ
clash_form = word "call %n [overlaps call %n, which runs from %d for %l|is a second %v of the month, beside call %n]\n"

-- 14: a contested call
abbrev pub contested_form : List ℕ
contested_form = word "call %n is contested: a higher revision decides it\n"

-- a minute at which a window is not cut
abbrev pub not_inside_form : List ℕ
not_inside_form = word "no quarter hour inside the window, which runs from %d for %l"
