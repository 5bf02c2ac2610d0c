use Rattle.share_bytes.specs.Bytes.{fields_at}
use Rattle.share_bytes.proofs.fields_at.Goals as goal

pub returns : goal.returns
unfolding fields_at
returns c = rw (c.u16_at-number.ensures, c.u8_at-status.ensures, c.u32_at-energy.ensures, c.u64_at-compensation.ensures, c.u32_at-assessment.ensures)
