-- The services by their numbers in the paper, and the limits of their table. Assumes nothing.
use Rattle.std.specs.Prelude.{ℕ, ℤ, pos, neg_ℤ}

abbrev pub deep_peak : ℕ
deep_peak = 1

abbrev pub reserve : ℕ
reserve = 2

abbrev pub start_stop : ℕ
start_stop = 3

abbrev pub standby : ℕ
standby = 4

abbrev pub black_start : ℕ
black_start = 5

abbrev pub agc_availability : ℕ
agc_availability = 6

abbrev pub agc_contribution : ℕ
agc_contribution = 7

abbrev pub frequency_event : ℕ
frequency_event = 8

abbrev pub avc : ℕ
avc = 9

abbrev pub stability_trip : ℕ
stability_trip = 10

-- participants are numbered from 1 to 64
abbrev pub most_participant : ℕ
most_participant = 64

-- a rate in hundredths of a percent is at most 100%
abbrev pub most_rate : ℕ
most_rate = 10000

-- a reserve window calls for at most so many kW
abbrev pub most_called : ℕ
most_called = 4000000

-- a frequency event moves at most so many Wh, up or down
abbrev pub most_moved : ℕ
most_moved = 1000000000

abbrev pub least_moved : ℤ
least_moved = neg_ℤ (pos most_moved)

-- any start or length: a field of 16 bits holds no more
abbrev pub any_minutes : ℕ
any_minutes = 65535
