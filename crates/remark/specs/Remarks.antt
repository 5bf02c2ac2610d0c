-- The line in words before a refusal's number: each text is its form, filled with its values in the form's order. Assumes nothing.
use Rattle.std.specs.Prelude.{Bool, cond, not, ◌&&◌, ◌||◌, List, [], ◌∷◌, ℕ, ◌%◌, eqb, ltb, leb, pos, length, Option, Some, None}
use Rattle.std.specs.Int.Signed.{lt_z}
use Rattle.units.specs.Month.{minutes_per_quarter}
use Rattle.call.specs.declared.Call.{Call}
use Rattle.call.specs.declared.service.Limits.{Limits}
use Rattle.call.specs.Revising.{live, withdrawn}
use Rattle.call.specs.Limits.{limits_of}
use Rattle.call.specs.Services.{most_participant, deep_peak, reserve, start_stop, standby, black_start, agc_availability, frequency_event, stability_trip}
use Rattle.pay.specs.Kinds.{coal, gas, hydro}
use Rattle.book.specs.declared.Header.{Header}
use Rattle.field.specs.declared.Field.{Field}
use Rattle.field.specs.declared.Field.TheVariants.{Participant, State, Service, Revision, Start, Length, A, B, C, Reserved}
use Rattle.render.specs.Decimal.{word}
use Rattle.form.specs.Form.{bits, flag, filled, filled_with, most_with}
use Rattle.remark.specs.declared.why.Bad.{Bad}
use Rattle.remark.specs.Forms.{field_form, outside_form, record_form, other_month_form, not_open_form, clash_form, contested_form, not_inside_form}

-- A bad field

-- what may be wrong with one: nothing, as 0; the last four bytes, which no field has; and what is told of a field, in the form's order
abbrev pub last_four : ℕ
last_four = 1

abbrev pub outside : ℕ
outside = 2

abbrev pub above : ℕ
above = 3

abbrev pub below : ℕ
below = 4

abbrev pub uneven : ℕ
uneven = 5

abbrev pub beyond : ℕ
beyond = 6

abbrev pub unnamed : ℕ
unnamed = 7

abbrev pub not_live : ℕ
not_live = 8

-- what is wrong where a call may have the field; where it may not, its service has no such field, or it is not live
unfoldable pub or_unnamed : Bool → ℕ → Call → ℕ
or_unnamed may why c = cond may why (cond (eqb c.state live) unnamed not_live)

-- what is wrong with a length that is not too long for the service: between two quarter hours, too short, or beyond the month's end
unfoldable pub length_why : Limits → Call → ℕ
length_why l c = cond (l.quarters && not (eqb (c.length % minutes_per_quarter) 0)) uneven (cond (ltb c.length l.shortest) below beyond)

-- the field's number as it goes into the form, the least and the most that it may be, and what is wrong with it
abbrev pub row : ℕ → ℕ → ℕ → ℕ → Bad
row number least most why = record { number = number; least = least; most = most; why = why }

-- a, which has a sign, as have its limits; a service whose most is not above 0 has no a
unfoldable pub bad_a : Limits → Call → Bad
bad_a l c = row (bits c.a) (bits l.low) (bits l.high) (or_unnamed (lt_z (pos 0) l.high) outside c)

-- field by field, by the limits of the call's service; nothing is wrong where there is no field
unfoldable pub bad_by : Limits → Option Field → Call → Bad
bad_by l None c = row 0 0 0 0
bad_by l (Some Participant) c = row c.participant 1 most_participant outside
bad_by l (Some State) c = row c.state 0 withdrawn outside
bad_by l (Some Service) c = row c.service 1 stability_trip (or_unnamed (eqb c.state live) outside c)
bad_by l (Some Revision) c = row c.revision 1 0 below
bad_by l (Some Start) c = row c.start 0 0 (or_unnamed l.quarters uneven c)
bad_by l (Some Length) c = row c.length l.shortest 0 (or_unnamed (leb c.length l.longest) (length_why l c) c)
bad_by l (Some A) c = bad_a l c
bad_by l (Some B) c = row c.b 0 l.b (or_unnamed (not (eqb l.b 0)) above c)
bad_by l (Some C) c = row c.c 0 l.c (or_unnamed (not (eqb l.c 0)) above c)
bad_by l (Some Reserved) c = row 0 0 0 last_four

-- the names of the fields; the last four bytes are none, and where there is no field there is no name
unfoldable pub field_name : Option Field → List ℕ
field_name None = []
field_name (Some Participant) = word "MEMBER"
field_name (Some State) = word "STATE"
field_name (Some Service) = word "SERVICE"
field_name (Some Revision) = word "REVISION"
field_name (Some Start) = word "START"
field_name (Some Length) = word "LENGTH"
field_name (Some A) = word "A"
field_name (Some B) = word "B"
field_name (Some C) = word "C"
field_name (Some Reserved) = []

-- whether a field is told, and its number; then whether each case is, and the numbers in it
unfoldable pub bad_values : Bad → Call → List ℕ
bad_values b c =
    flag (ltb last_four b.why) ∷ b.number
    ∷ flag (eqb b.why outside) ∷ b.least ∷ b.most
    ∷ flag (eqb b.why above) ∷ b.most
    ∷ flag (eqb b.why below) ∷ b.least
    ∷ flag (eqb b.why uneven)
    ∷ flag (eqb b.why beyond) ∷ c.start
    ∷ flag (eqb b.why unnamed) ∷ c.service
    ∷ flag (eqb b.why not_live)
    ∷ flag (eqb b.why last_four) ∷ []

-- by the limits of the call's service
unfoldable pub field_values : Option Field → Call → List ℕ
field_values f c = bad_values (bad_by (limits_of c.service) f c) c

-- a bad field of a call, in words
abbrev pub field_text : Option Field → Call → List ℕ
field_text f c = filled_with field_form (field_name f) [] (field_values f c)

-- A number, a record, a book

-- a number of the arguments, or of a header, by its name, and its limits
abbrev pub outside_text : List ℕ → ℕ → ℕ → ℕ → List ℕ
outside_text name n low high = filled_with outside_form name [] (n ∷ low ∷ high ∷ [])

-- the n-th record of a file, what is wrong with it, and the most bytes of that
abbrev pub record_text : List ℕ → ℕ → List ℕ → List ℕ
record_text what n why = filled_with record_form what why (n ∷ [])

abbrev pub most_record : List ℕ → List ℕ → ℕ
most_record what why = most_with record_form (length what) (length why)

-- the book's month and area, and those of the books before it
abbrev pub other_month_values : Header → Header → List ℕ
other_month_values h before = h.month ∷ h.year ∷ h.area ∷ before.month ∷ before.year ∷ before.area ∷ []

abbrev pub other_month_text : List ℕ → Header → Header → List ℕ
other_month_text what h before = filled_with other_month_form what [] (other_month_values h before)

-- A call that is turned away in scoring

-- what is open instead, by the service and the kind that it is closed to; 7, 9 and 10 are closed to none
unfoldable pub wanted_values : ℕ → ℕ → List ℕ
wanted_values service kind =
    flag (eqb service deep_peak || eqb service standby)
    ∷ flag (eqb service start_stop || eqb service reserve && (ltb kind coal || ltb hydro kind))
    ∷ flag (eqb service reserve && eqb kind coal)
    ∷ flag (eqb service reserve && (eqb kind gas || eqb kind hydro)) ∷ kind
    ∷ flag (eqb service black_start)
    ∷ flag (eqb service agc_availability)
    ∷ flag (eqb service frequency_event) ∷ []

-- the call, with a for a reserve window and with a and b for an event; the plant; the month
unfoldable pub not_open_values : Call → ℕ → ℕ → Header → List ℕ
not_open_values c kind rated h =
    c.number ∷ c.service
    ∷ flag (eqb c.service reserve || eqb c.service frequency_event) ∷ bits c.a
    ∷ flag (eqb c.service frequency_event) ∷ c.b
    ∷ kind ∷ rated ∷ h.month ∷ h.year
    ∷ wanted_values c.service kind

-- 12: what is not open to the plant in the month, and what is
abbrev pub not_open_text : Call → ℕ → ℕ → Header → List ℕ
not_open_text c kind rated h = filled not_open_form (not_open_values c kind rated h)

-- services 1 to 4 overlap, the others are a second one
unfoldable pub clash_values : Call → Call → List ℕ
clash_values x y = x.number ∷ flag (leb x.service standby) ∷ y.number ∷ y.start ∷ y.length ∷ x.service ∷ y.number ∷ []

-- 13: a call, and the earlier one that stands against it
abbrev pub clash_text : Call → Call → List ℕ
clash_text x y = filled clash_form (clash_values x y)

-- 14: a contested call
abbrev pub contested_text : Call → List ℕ
contested_text c = filled contested_form (c.number ∷ [])

-- a window, and a minute that is no quarter hour inside it
abbrev pub not_inside_text : Call → List ℕ
not_inside_text c = filled not_inside_form (c.start ∷ c.length ∷ [])
