-- What a load, and one read of it, may say of a buffer. Assumes nothing.
use Rattle.std.specs.Prelude.{ℕ, ◌≤◌, ◌<◌, Option, Some, None, Result, Ok, Err}
use Rattle.files.specs.declared.NotLoaded.{NotLoaded}

-- a file that was read whole is no longer than the buffer
abbrev pub Fits : ℕ → Result ℕ NotLoaded → Type 0
Fits n (Ok k) = k ≤ n
Fits n (Err _) = Unit {0}

-- a read brings a byte or more, and no more than there is room for
abbrev pub Brings : ℕ → Result (Option ℕ) NotLoaded → Type 0
Brings n (Ok (Some k)) = (0 < k) × (k ≤ n)
Brings n (Ok None) = Unit {0}
Brings n (Err _) = Unit {0}
