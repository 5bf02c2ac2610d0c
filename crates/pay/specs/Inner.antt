-- What inner contracts speak of, and no sentence of the paper. Assumes nothing.
use Rattle.std.specs.Prelude.{Bool, not, ◌&&◌, List, ℕ, ◌+◌, ◌≤◌, eqb, get_or, length}
use Rattle.call.specs.declared.Call.{Call}
use Rattle.call.specs.Services.{frequency_event}
use Rattle.pay.specs.Member.{is_by_rate}
use Rattle.pay.specs.Window.{lacking, coal_minute}

-- a run of quarter hours of the series, no longer than a window of 65,535 minutes
abbrev pub Run : List ℕ → ℕ → ℕ → Type 0
Run series from count = (count ≤ 4369) × (from + count ≤ length series)

-- The terms of a window's sums: service and kind are asked once, and not for each quarter hour

-- what a minute of quarter hour i lacks up to a level
unfoldable pub lacking_at : ℕ → List ℕ → ℕ → ℕ
lacking_at level series i = lacking level (get_or series i 0)

-- 2, coal: what a minute of quarter hour i pays
unfoldable pub coal_at : ℕ → ℕ → List ℕ → ℕ → ℕ
coal_at N a series i = coal_minute N a (get_or series i 0)

-- A live call

-- an event that gives energy
unfoldable pub is_by_energy : ℕ → Call → Bool
is_by_energy kind x = eqb x.service frequency_event && not (is_by_rate kind)

-- no call within the limits pays more
abbrev pub most_pay : ℕ
most_pay = 4000000000000000

-- and no event counts for more Wh, either way
abbrev pub most_wh : ℕ
most_wh = 2147483648

-- what a month's grains and energy may come to, before its energy is paid
abbrev pub most_month_pay : ℕ
most_month_pay = 10000000000000000000

abbrev pub most_month_wh : ℕ
most_month_wh = 10000000000000
