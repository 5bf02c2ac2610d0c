use Rattle.std.proofs.Common.{◌≡◌, ℕ, ◌&&◌, ltb, leb, ap, ◌∙◌}
use Rattle.ramp.specs.Ramping.{most_actions, action_is_sound}
use Rattle.hours.specs.Inner.{filled_for, standard_for, sheet_takes}
use Rattle.hours.proofs.sheet.Sheet.takes.Goals as goal

pub returns : goal.returns
unfolding sheet_takes
returns c =
    let n = c.filled_for-n in
    let f = c.standard_for in
    let a = c.args in
    let rate : f.result ≡ standard_for a.self (filled_for a.self a.l.hour) a.l.action = f.ensures ∙ ap (λ (x : ℕ). standard_for a.self x a.l.action) n.ensures in
    let sound : c.action_is_sound-sound.result ≡ action_is_sound (standard_for a.self (filled_for a.self a.l.hour) a.l.action) a.l.action =
    c.action_is_sound-sound.ensures ∙ ap (λ (x : ℕ). action_is_sound x a.l.action) rate in
    λ i. ltb a.l.hour a.self.hours && leb a.self.last a.l.hour && ltb (n.ensures i) most_actions && sound i
