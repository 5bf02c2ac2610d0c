use mathlib.Core.Logic.{⊎_elim}
use mathlib.Core.Path.{refl, sym, ◌∙◌}
use Rattle.std.proofs.Common.{arith}
use Rattle.std.proofs.lemmas.Grind.{common_steps}
use Rattle.pay.specs.Window.{deep_peak_minute, reserve_minute, minute_pay}
use Rattle.pay.proofs.Runs.{gas_or_hydro, deep_window, coal_window, gas_hydro_window, none_window}
use Rattle.pay.proofs.window.window_pay.Goals as goal

pub returns-in-1-kind : goal.returns-in-1-kind
returns-in-1-kind c = rw c.in-1.is (c.run_below.ensures ∙ sym (deep_window _ _ _ _ _ c.in-1-kind.is))

pub returns-in_default-kind : goal.returns-in_default-kind
unfolding minute_pay deep_peak_minute
returns-in_default-kind c = rw c.in-1.is (sym (none_window _ _ _ _ _ _ (λ p. grind (arith, common_steps))))

pub returns-in-1-kind-2 : goal.returns-in-1-kind-2
returns-in-1-kind-2 c = rw c.in-2.is (c.run_coal.ensures ∙ sym (coal_window _ _ _ _ _ c.in-1-kind-2.is))

pub returns-in-2-kind : goal.returns-in-2-kind
returns-in-2-kind c =
    let below = c.run_below-in-2-kind.ensures in
    rw c.in-2.is
    (⊎_elim (λ k. below ∙ sym (gas_hydro_window _ _ _ _ _ (rw k refl) (rw k refl))) (λ k. below ∙ sym (gas_hydro_window _ _ _ _ _ (rw k refl) (rw k refl)))
    (gas_or_hydro c.args.member.kind (omega arith) (omega arith)))

pub returns-in_default-kind-2 : goal.returns-in_default-kind-2
unfolding minute_pay reserve_minute
returns-in_default-kind-2 c = rw c.in-2.is (sym (none_window _ _ _ _ _ _ (λ p. grind (arith, common_steps))))

pub returns-in_default-kind-2-2 : goal.returns-in_default-kind-2-2
unfolding minute_pay reserve_minute
returns-in_default-kind-2-2 c = rw c.in-2.is (sym (none_window _ _ _ _ _ _ (λ p. grind (arith, common_steps))))

pub returns-in_default : goal.returns-in_default
unfolding minute_pay
returns-in_default c = sym (none_window _ _ _ _ _ _ (λ p. grind (arith, common_steps)))
