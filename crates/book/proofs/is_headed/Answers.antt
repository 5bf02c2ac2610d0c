use mathlib.Core.Path.{refl}
use Rattle.book.specs.Check.{is_headed}
use Rattle.book.proofs.is_headed.Goals as goal

pub returns : goal.returns
unfolding is_headed
returns c =
    rw (
      c.u32_at-zeros.ensures,
      c.most_records-most.ensures,
      c.version_at.ensures,
      c.count_at-n.ensures.0,
      c.u8_at-zero.ensures,
      c.is_sound-fields.ensures,
      c.header_at.ensures,
    ) refl
