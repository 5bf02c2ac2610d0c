use Rattle.ramp.specs.Bytes.{action_at}
use Rattle.ramp.proofs.actions.action_at.Goals as goal

pub returns : goal.returns
unfolding action_at
returns c =
    λ i. record {
      start = record { 0 = c.u32_at-start.ensures i };
      end = record { 0 = c.u32_at-end.ensures i };
      command = record { 0 = c.u32_at-command.ensures i };
      delay = c.u32_at-delay.ensures i;
      real = c.u32_at-real.ensures i;
      standard = c.u32_at-standard.ensures i;
    }
