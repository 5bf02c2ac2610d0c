use mir.Syntax.{w64}
use mir.ValLaws.{to_z-of_z}
use Rattle.intake.specs.Limits.{gap_is_within}
use Rattle.intake.proofs.limits.gap_is_within.Goals as goal

pub returns : goal.returns
unfolding gap_is_within
returns c = rw (c.size.ensures, to_z-of_z w64 c.args.gap.0 (record { sfits = c.struct_told-1.given.0.1 }))
