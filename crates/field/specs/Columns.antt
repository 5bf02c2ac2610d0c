-- The conditions of a record's fields as the paper has them: its clauses, and the table of services column by column. Assumes nothing.
use Rattle.std.specs.Prelude.{◌≡◌, Bool, true, false, ◌||◌, List, [], ◌∷◌, ◌≢◌, ℕ, ◌+◌, ◌%◌, ◌≤◌, eqb, pos, nat_abs, Option, Some, None}
use Rattle.units.specs.Month.{minutes_per_quarter}
use Rattle.call.specs.declared.Call.{Call}
use Rattle.call.specs.Revising.{live, withdrawn}
use Rattle.call.specs.Services.{deep_peak, reserve, start_stop, standby, black_start, agc_availability, agc_contribution, frequency_event, avc, stability_trip}
use Rattle.call.specs.Services.{most_participant, most_rate, most_called, most_moved, any_minutes}
use Rattle.field.specs.declared.Field.{Field}
use Rattle.field.specs.declared.Field.TheVariants.{Participant, State, Service, Revision, Start, Length, A, B, C, Reserved}

-- whether a service is one of some
unfoldable pub one_of : List ℕ → ℕ → Bool
one_of [] s = false
one_of (k ∷ ks) s = eqb s k || one_of ks s

-- a call is of one of some services, or of none of them
abbrev pub Of : List ℕ → Call → Type 0
Of services c = one_of services c.service ≡ true

abbrev pub NotOf : List ℕ → Call → Type 0
NotOf services c = one_of services c.service ≡ false

-- service: of a live call 1 to 10; contested and withdrawn records have zero
pub data ServiceColumn (c : Call) : Type 0 where
  of_live : c.state ≡ live → 1 ≤ c.service → c.service ≤ stability_trip → ServiceColumn c
  of_others : c.state ≢ live → c.service ≡ 0 → ServiceColumn c

-- start: of windows a multiple of 15; of start-stop, standby, events and trips any; not named, it is 0
pub data StartColumn (c : Call) : Type 0 where
  of_windows : Of (deep_peak ∷ reserve ∷ []) c → c.start % minutes_per_quarter ≡ 0 → c.start ≤ any_minutes → StartColumn c
  of_any : Of (start_stop ∷ standby ∷ frequency_event ∷ stability_trip ∷ []) c → c.start ≤ any_minutes → StartColumn c
  of_others : NotOf (deep_peak ∷ reserve ∷ start_stop ∷ standby ∷ frequency_event ∷ stability_trip ∷ []) c → c.start ≡ 0 → StartColumn c

-- length: of windows a multiple of 15 and at least 15; of start-stop and standby at least 1; of events and AVC any; of the others 0
pub data LengthColumn (c : Call) : Type 0 where
  of_windows : Of (deep_peak ∷ reserve ∷ []) c → c.length % minutes_per_quarter ≡ 0 → minutes_per_quarter ≤ c.length → c.length ≤ any_minutes → LengthColumn c
  of_minutes : Of (start_stop ∷ standby ∷ []) c → 1 ≤ c.length → c.length ≤ any_minutes → LengthColumn c
  of_any : Of (frequency_event ∷ avc ∷ []) c → c.length ≤ any_minutes → LengthColumn c
  of_others : Of (0 ∷ black_start ∷ agc_availability ∷ agc_contribution ∷ stability_trip ∷ []) c → c.length ≡ 0 → LengthColumn c

-- a: of reserve 0 to 4,000,000; of events 1,000,000,000 either way; not named, it is 0
pub data AColumn (c : Call) : Type 0 where
  of_reserve : c.service ≡ reserve → (kw : ℕ) → c.a ≡ pos kw → kw ≤ most_called → AColumn c
  of_events : c.service ≡ frequency_event → nat_abs c.a ≤ most_moved → AColumn c
  of_others : NotOf (reserve ∷ frequency_event ∷ []) c → c.a ≡ pos 0 → AColumn c

-- b: of AGC and AVC a rate; of events to 1,000,000,000; not named, it is 0
pub data BColumn (c : Call) : Type 0 where
  of_rates : Of (agc_availability ∷ agc_contribution ∷ avc ∷ []) c → c.b ≤ most_rate → BColumn c
  of_events : c.service ≡ frequency_event → c.b ≤ most_moved → BColumn c
  of_others : NotOf (agc_availability ∷ agc_contribution ∷ frequency_event ∷ avc ∷ []) c → c.b ≡ 0 → BColumn c

-- c: of AVC a rate; of events 0 or 1; not named, it is 0
pub data CColumn (c : Call) : Type 0 where
  of_rates : c.service ≡ avc → c.c ≤ most_rate → CColumn c
  of_events : c.service ≡ frequency_event → c.c ≤ 1 → CColumn c
  of_others : NotOf (frequency_event ∷ avc ∷ []) c → c.c ≡ 0 → CColumn c

-- the condition of a field, of a record with these four last bytes, in a month of so many minutes: the month's end is the length's
unfoldable pub FieldHolds : ℕ → Call → ℕ → Field → Type 0
FieldHolds minutes c reserved Participant = (1 ≤ c.participant) × (c.participant ≤ most_participant)
FieldHolds minutes c reserved State = c.state ≤ withdrawn
FieldHolds minutes c reserved Service = ServiceColumn c
FieldHolds minutes c reserved Revision = 1 ≤ c.revision
FieldHolds minutes c reserved Start = StartColumn c
FieldHolds minutes c reserved Length = LengthColumn c × (c.start + c.length ≤ minutes)
FieldHolds minutes c reserved A = AColumn c
FieldHolds minutes c reserved B = BColumn c
FieldHolds minutes c reserved C = CColumn c
FieldHolds minutes c reserved Reserved = reserved ≡ 0

-- the first field of a list whose condition fails: the conditions of those before it hold; none where all hold
pub data FirstFails (Holds : Field → Type 0) : List Field → Option Field → Type 0 where
  here : (f : Field) {fs : List Field} → ¬ Holds f → FirstFails Holds (f ∷ fs) (Some f)
  later : (g : Field) {fs : List Field} {f : Option Field} → Holds g → FirstFails Holds fs f → FirstFails Holds (g ∷ fs) f
  none : FirstFails Holds [] None
