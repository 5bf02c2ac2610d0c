use mathlib.Core.Path.{ap₂}
use mathlib.Core.Bool.{◌&&◌}
use Rattle.share.specs.Sharing.{line_is_sound}
use Rattle.ceiling.specs.Ceiling.{limited_is_sound}
use Rattle.register.specs.Register.{entry_is_sound, entry_line, entry_limited}
use Rattle.register.proofs.Entry.is_sound.Goals as goal

pub returns : goal.returns
unfolding entry_is_sound entry_limited entry_line limited_is_sound line_is_sound
returns c =
    ap₂ ◌&&◌ c.is_sound.ensures (ap₂ ◌&&◌ c.numbers_are_sound-is_line.ensures c.limit_is_sound.ensures)
