-- What inner contracts speak of, and no sentence of the paper. Assumes nothing.
use Rattle.std.specs.Prelude.{Bool, ℕ, ℤ}
use Rattle.call.specs.declared.Call.{Call}
use Rattle.call.specs.Limits.{limits_of, limits_allow}

-- a call of such a time and such terms: no limits ask for anything else of it
abbrev pub asking : ℕ → ℕ → ℤ → ℕ → ℕ → Call
asking start minutes a b c =
    record {
      participant = 0;
      service = 0;
      state = 0;
      number = 0;
      revision = 0;
      start = start;
      length = minutes;
      a = a;
      b = b;
      c = c;
    }

-- whether such a call is within a service's limits
abbrev pub within : ℕ → ℕ → ℕ → ℤ → ℕ → ℕ → Bool
within service start minutes a b c = limits_allow (limits_of service) (asking start minutes a b c)
