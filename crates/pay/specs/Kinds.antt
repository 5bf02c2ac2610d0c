-- The kinds of a register line, by their numbers in the paper. Assumes nothing.
use Rattle.std.specs.Prelude.{Bool, false, ℕ}

abbrev pub coal : ℕ
coal = 1

abbrev pub gas : ℕ
gas = 2

abbrev pub hydro : ℕ
hydro = 3

abbrev pub wind : ℕ
wind = 4

abbrev pub photovoltaic : ℕ
photovoltaic = 5

abbrev pub solar_thermal : ℕ
solar_thermal = 6

abbrev pub pumped_storage : ℕ
pumped_storage = 7

abbrev pub new_storage : ℕ
new_storage = 8

-- A row of the paper names its kinds. A kind that it does not name is not paid for the service, and the service is not open to it.
abbrev pub unpaid : ℕ
unpaid = 0

abbrev pub closed : Bool
closed = false
