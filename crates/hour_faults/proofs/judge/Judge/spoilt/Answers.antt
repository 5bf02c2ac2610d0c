use Rattle.std.proofs.Common.{sym, ◌∙◌}
use Rattle.hour_faults.proofs.Judging.{spoilt_found, spoilt_now}
use Rattle.hour_faults.proofs.judge.Judge.spoilt.Goals as goal

pub returns-then-not-is_sound : goal.returns-then-not-is_sound
returns-then-not-is_sound c = spoilt_found c.args.self (sym c.is_sound.ensures ∙ c.if-not-is_sound.true)

pub returns : goal.returns
returns c = c.refusing.ensures ∙ spoilt_now c.args.self (sym c.is_sound.ensures ∙ c.if-not-is_sound.false)
