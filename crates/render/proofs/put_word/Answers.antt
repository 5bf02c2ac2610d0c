use native.Mathlib.Omega.{arith}
use Rattle.render.proofs.Placed.{copied}
use Rattle.render.proofs.put_word.Goals as goal

pub returns : goal.returns
returns c = let a = c.args in copied a.word.now a.out.now _ a.at (omega arith) c.copy_from_slice.ensures.after
