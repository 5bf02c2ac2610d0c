use Rattle.intake.specs.Limits.{row_is_within}
use Rattle.intake.proofs.limits.row_is_within.Goals as goal

pub returns : goal.returns
unfolding row_is_within
returns c =
    rw (c.numbers_are_sound-is_line.ensures, c.from.ensures, c.from-2.ensures, c.from-3.ensures, c.from-4.ensures, c.to_fen-fen.ensures, c.is_within.ensures, c.is_within-2.ensures)
