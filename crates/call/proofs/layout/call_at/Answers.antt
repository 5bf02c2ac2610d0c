use mathlib.Core.Path.{◌∙◌}
use mir.Syntax.{w32}
use mir.ValLaws.{to_z-of_z}
use Rattle.call.specs.Layout.{call_at}
use borrow.Author.Rules.{rules}
use Rattle.call.proofs.layout.call_at.Goals as goal

pub returns : goal.returns
unfolding call_at
returns c =
    λ i. record {
      participant = c.u16_at-participant.ensures i;
      service = c.u8_at-service.ensures i;
      state = c.u8_at-state.ensures i;
      number = c.u32_at-number.ensures i;
      revision = c.u32_at-revision.ensures i;
      start = c.u16_at-start.ensures i;
      length = c.u16_at-minutes.ensures i;
      a = (to_z-of_z w32 c.i32_at-a.result (search rules) ∙ c.i32_at-a.ensures) i;
      b = c.u32_at-b.ensures i;
      c = c.u32_at-c.ensures i;
    }
