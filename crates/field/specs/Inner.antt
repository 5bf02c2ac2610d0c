-- What an inner contract speaks of, and no sentence of the paper. Assumes nothing.
use Rattle.std.specs.Prelude.{ℕ, Option}
use Rattle.call.specs.declared.Call.{Call}
use Rattle.field.specs.declared.Field.{Field}
use Rattle.field.specs.Field.{field_fits, terms, first_bad}

-- the bad field among those that the service asks for, and the four last bytes
abbrev pub bad_term : ℕ → Call → ℕ → Option Field
bad_term minutes c reserved = first_bad (field_fits minutes c reserved) terms
