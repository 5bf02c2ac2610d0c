-- The line of a text's first row, by parts of it. Assumes nothing.
use Rattle.std.proofs.Common.{◌≡◌, ℕ, false, List, ◌++◌, refl}
use Rattle.std.specs.Prelude.{Option, Some, None, is_none}
use Rattle.std.specs.Option.{option_or}
use Rattle.le.proofs.Tests.{holds_or_fails}
use Rattle.faults.specs.Inner.{first_row}
use Rattle.faults.proofs.Head.{row_parts}
use Rattle.hour_faults.specs.Inner.{first_left}

-- one that is known stays
pub first_known : (known : Option ℕ) → is_none known ≡ false → (rest more : List ℕ) → first_left known rest ≡ first_left known more
unfolding first_left
first_known None n rest more = absurd (holds_or_fails refl n)
first_known (Some line) n rest more = refl

-- one that is not is told by more bytes, or by those behind them
pub first_more : (known : Option ℕ) (bytes rest : List ℕ) → first_left (option_or known (first_row bytes)) rest ≡ first_left known (bytes ++ rest)
unfolding first_left
first_more None bytes rest = row_parts bytes rest
first_more (Some line) bytes rest = refl
