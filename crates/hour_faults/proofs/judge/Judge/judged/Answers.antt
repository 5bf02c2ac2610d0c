use Rattle.std.proofs.Common.{sym, ◌∙◌}
use Rattle.hour_faults.specs.Inner.{judge_of}
use Rattle.hour_faults.proofs.Judging.{sound_seven}
use Rattle.hour_faults.proofs.judge.Judge.judged.Goals as goal

pub returns-then-not-is_sound : goal.returns-then-not-is_sound
unfolding judge_of
returns-then-not-is_sound c = rw (sym c.is_sound.ensures ∙ c.if-not-is_sound.true)

pub taking-requires : goal.taking-requires
taking-requires c = let a = c.args in sound_seven a.self a.cells.now (sym c.in-None.ensures)

pub returns-in-None : goal.returns-in-None
unfolding judge_of
returns-in-None c = rw (sym c.is_sound.ensures ∙ c.if-not-is_sound.false, sym c.in-None.ensures) c.taking.ensures

pub returns-in-Some : goal.returns-in-Some
unfolding judge_of
returns-in-Some c = rw (sym c.is_sound.ensures ∙ c.if-not-is_sound.false, sym c.in-Some.ensures) c.refusing.ensures
