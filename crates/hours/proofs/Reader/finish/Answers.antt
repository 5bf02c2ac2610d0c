use Rattle.hours.proofs.Streaming.{at_end}
use Rattle.hours.proofs.Reader.finish.Goals as goal

pub returns : goal.returns
returns c = let r = c.args.self in
    λ m hours text k. at_end m hours r text k c.after.result (λ m' hours' ls held e j. c.after.ensures m' hours' ls held e j) c.answer.result c.answer.ensures
