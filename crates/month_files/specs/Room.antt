-- How much room the members' series take. Assumes nothing.
use Rattle.std.specs.Prelude.{ℕ, ◌*◌}
use Rattle.tally.specs.Room.{series_room}

-- one for each of 64 members
abbrev pub all_room : ℕ
all_room = 64 * series_room
