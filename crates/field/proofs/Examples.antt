-- Records and their bad fields, worked out from the paper. Assumes nothing.
use mathlib.Core.Path.{◌≡◌, refl}
use mathlib.Core.List.{List, [], ◌∷◌, map}
use Prim.Native.Nat.{ℕ}
use lib.IntN.{ℤ, pos, negsuc}
use Rattle.call.specs.declared.Call.{Call}
use Rattle.call.specs.Limits.{table, limits_of}
use Rattle.std.specs.Prelude.{Option, Some, None}
use Rattle.field.specs.declared.Field.{Field}
use Rattle.field.specs.declared.Field.TheVariants.{State, Service, Start, Length, A, B, C}
use Rattle.field.specs.Field.{service_fits, start_fits, length_fits, a_fits, field_fits, first_bad, bad_field}

-- a call of member 1 at revision 1, in a month of 28 days: state, service, start, length, a, b, c; and its bad field
pub record Case : Type 0 where
  pub call : Call
  pub says : Option Field

abbrev case : ℕ → ℕ → ℕ → ℕ → ℤ → ℕ → ℕ → Option Field → Case
case state service start minutes a b c says =
    record {
      call = record { participant = 1; service = service; state = state; number = 9; revision = 1; start = start; length = minutes; a = a; b = b; c = c };
      says = says;
    }

pub cases : List Case
cases =
    -- windows: on quarters, at least one long, up to the month's end and not beyond
    case 0 1 15 30 (pos 0) 0 0 None
    ∷ case 0 1 7 30 (pos 0) 0 0 (Some Start)
    ∷ case 0 1 15 7 (pos 0) 0 0 (Some Length)
    ∷ case 0 1 15 0 (pos 0) 0 0 (Some Length)
    ∷ case 0 1 40305 15 (pos 0) 0 0 None
    ∷ case 0 1 40305 30 (pos 0) 0 0 (Some Length)
    -- a start beyond the month's end is told at the length
    ∷ case 0 8 50000 0 (pos 0) 0 0 (Some Length)
    ∷ case 0 10 40320 0 (pos 0) 0 0 None
    -- a of reserve, of start-stop, of an event
    ∷ case 0 2 0 15 (pos 4000000) 0 0 None
    ∷ case 0 2 0 15 (pos 4000001) 0 0 (Some A)
    ∷ case 0 2 0 15 (negsuc 0) 0 0 (Some A)
    ∷ case 0 3 0 1 (pos 5) 0 0 (Some A)
    ∷ case 0 8 0 0 (negsuc 999999999) 1000000000 1 None
    ∷ case 0 8 0 0 (negsuc 1000000000) 0 0 (Some A)
    ∷ case 0 8 0 0 (pos 0) 1000000001 0 (Some B)
    ∷ case 0 8 0 0 (pos 0) 0 2 (Some C)
    -- rates, and fields that are not named
    ∷ case 0 6 0 0 (pos 0) 10001 0 (Some B)
    ∷ case 0 9 0 60 (pos 0) 10000 10001 (Some C)
    ∷ case 0 5 60 0 (pos 0) 0 0 (Some Start)
    ∷ case 0 5 0 60 (pos 0) 0 0 (Some Length)
    ∷ case 0 5 60 60 (pos 1) 1 1 (Some Start)
    -- services and states
    ∷ case 0 0 0 0 (pos 0) 0 0 (Some Service)
    ∷ case 0 11 0 0 (pos 0) 0 0 (Some Service)
    ∷ case 1 3 0 0 (pos 0) 0 0 (Some Service)
    ∷ case 2 0 0 0 (pos 0) 0 0 None
    ∷ case 2 0 0 0 (pos 0) 0 1 (Some C)
    ∷ case 3 0 0 0 (pos 0) 0 0 (Some State)
    ∷ []

-- Each record has the bad field that the table has.
pub fields_named : map (λ x. bad_field 40320 x.call 0) cases ≡ map (λ x. x.says) cases
unfolding cases bad_field first_bad field_fits service_fits start_fits length_fits a_fits limits_of table
fields_named = refl
