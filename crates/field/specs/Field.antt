-- Which field of a record is bad: the first whose test fails, the fields before it taken as given. Assumes nothing.
use Rattle.std.specs.Prelude.{Bool, cond, not, ◌&&◌, ◌||◌, List, [], ◌∷◌, ℕ, ◌+◌, ◌%◌, eqb, leb, Option, Some, None}
use Rattle.std.specs.Int.Signed.{le_z}
use Rattle.units.specs.Month.{minutes_per_quarter}
use Rattle.call.specs.declared.Call.{Call}
use Rattle.call.specs.declared.service.Limits.{Limits}
use Rattle.call.specs.Revising.{live, withdrawn}
use Rattle.call.specs.Services.{most_participant, stability_trip}
use Rattle.call.specs.Limits.{limits_of}
use Rattle.field.specs.declared.Field.{Field}
use Rattle.field.specs.declared.Field.TheVariants.{Participant, State, Service, Revision, Start, Length, A, B, C, Reserved}

-- a live call has a service, 1 to 10; any other has none
unfoldable pub service_fits : Call → Bool
service_fits c = cond (eqb c.state live) (leb 1 c.service && leb c.service stability_trip) (eqb c.service 0)

-- start, by the limits of the service
unfoldable pub start_fits : Limits → Call → Bool
start_fits l c = (not l.quarters || eqb (c.start % minutes_per_quarter) 0) && leb c.start l.latest

-- length, by the limits of the service; and the month's end, of so many minutes
unfoldable pub length_fits : Limits → ℕ → Call → Bool
length_fits l minutes c =
    (not l.quarters || eqb (c.length % minutes_per_quarter) 0)
    && leb l.shortest c.length
    && leb c.length l.longest
    && leb (c.start + c.length) minutes

-- a, by the limits of the service
unfoldable pub a_fits : Limits → Call → Bool
a_fits l c = le_z l.low c.a && le_z c.a l.high

-- the test of a field, of a record with these four last bytes, in a month of so many minutes
unfoldable pub field_fits : ℕ → Call → ℕ → Field → Bool
field_fits minutes c reserved Participant = leb 1 c.participant && leb c.participant most_participant
field_fits minutes c reserved State = leb c.state withdrawn
field_fits minutes c reserved Service = service_fits c
field_fits minutes c reserved Revision = leb 1 c.revision
field_fits minutes c reserved Start = start_fits (limits_of c.service) c
field_fits minutes c reserved Length = length_fits (limits_of c.service) minutes c
field_fits minutes c reserved A = a_fits (limits_of c.service) c
field_fits minutes c reserved B = leb c.b (limits_of c.service).b
field_fits minutes c reserved C = leb c.c (limits_of c.service).c
field_fits minutes c reserved Reserved = eqb reserved 0

-- the fields that the service asks for, and the four last bytes
abbrev pub terms : List Field
terms = Start ∷ Length ∷ A ∷ B ∷ C ∷ Reserved ∷ []

-- the fields as they are asked: in the record's order, but the state before the service, which depends on it; any call number will do
abbrev pub fields : List Field
fields = Participant ∷ State ∷ Service ∷ Revision ∷ terms

-- the first field of a list whose test fails, or none
unfoldable pub first_bad : (Field → Bool) → List Field → Option Field
first_bad fits [] = None
first_bad fits (f ∷ fs) = cond (fits f) (first_bad fits fs) (Some f)

-- the bad field of a record
unfoldable pub bad_field : ℕ → Call → ℕ → Option Field
bad_field minutes c reserved = first_bad (field_fits minutes c reserved) fields
