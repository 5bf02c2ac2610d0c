-- The test of a record: the table of services as numbers, and refusal 5's condition as a computation. Assumes nothing.
use Rattle.std.specs.Prelude.{Bool, true, false, not, ◌&&◌, ◌||◌, List, [], ◌∷◌, ℕ, ◌+◌, ◌%◌, eqb, leb, ℤ, pos, get_or}
use Rattle.std.specs.Int.Signed.{le_z}
use Rattle.call.specs.declared.Call.{Call}
use Rattle.call.specs.declared.service.Limits.{Limits}
use Rattle.units.specs.Month.{minutes_per_quarter}
use Rattle.call.specs.Revising.{live, withdrawn}
use Rattle.call.specs.Services.{most_participant, most_rate, most_called, most_moved, least_moved, any_minutes}

-- whether start and length are multiples of 15; the latest start; the shortest and the longest length; a from and to; the largest b and c
abbrev pub row : Bool → ℕ → ℕ → ℕ → ℤ → ℤ → ℕ → ℕ → Limits
row quarters latest shortest longest low high b c =
    record {
      quarters = quarters;
      latest = latest;
      shortest = shortest;
      longest = longest;
      low = low;
      high = high;
      b = b;
      c = c;
    }

-- service by service, from 0, the service of a contested or withdrawn record
unfoldable pub table : List Limits
table =
    row false 0 0 0 (pos 0) (pos 0) 0 0
    ∷ row true any_minutes minutes_per_quarter any_minutes (pos 0) (pos 0) 0 0
    ∷ row true any_minutes minutes_per_quarter any_minutes (pos 0) (pos most_called) 0 0
    ∷ row false any_minutes 1 any_minutes (pos 0) (pos 0) 0 0
    ∷ row false any_minutes 1 any_minutes (pos 0) (pos 0) 0 0
    ∷ row false 0 0 0 (pos 0) (pos 0) 0 0
    ∷ row false 0 0 0 (pos 0) (pos 0) most_rate 0
    ∷ row false 0 0 0 (pos 0) (pos 0) most_rate 0
    ∷ row false any_minutes 0 any_minutes least_moved (pos most_moved) most_moved 1
    ∷ row false 0 0 any_minutes (pos 0) (pos 0) most_rate most_rate
    ∷ row false any_minutes 0 0 (pos 0) (pos 0) 0 0
    ∷ []

-- there is no service past 10: no length is both 1 and 0
unfoldable pub limits_of : ℕ → Limits
limits_of service = get_or table service (row false 0 1 0 (pos 0) (pos 0) 0 0)

-- a call keeps to the limits
unfoldable pub limits_allow : Limits → Call → Bool
limits_allow l c =
    (not l.quarters || eqb (c.start % minutes_per_quarter) 0 && eqb (c.length % minutes_per_quarter) 0)
    && leb c.start l.latest
    && leb l.shortest c.length
    && leb c.length l.longest
    && le_z l.low c.a
    && le_z c.a l.high
    && leb c.b l.b
    && leb c.c l.c

-- a record's fields are sound in a month of so many minutes; a live one has a service, and no other has
unfoldable pub call_is_sound : ℕ → Call → Bool
call_is_sound minutes c =
    leb 1 c.participant
    && leb c.participant most_participant
    && leb c.state withdrawn
    && leb 1 c.revision
    && (eqb c.state live && leb 1 c.service || leb 1 c.state && eqb c.service 0)
    && leb (c.start + c.length) minutes
    && limits_allow (limits_of c.service) c
