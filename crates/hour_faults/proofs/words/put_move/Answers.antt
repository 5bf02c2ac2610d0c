use Rattle.std.proofs.Common.{arith}
use Rattle.render.proofs.Placed.{and_then, looser}
use Rattle.hour_faults.specs.Words.{move_text}
use Rattle.hour_faults.proofs.words.put_move.Goals as goal

pub returns : goal.returns
unfolding move_text
returns c =
    looser _ (omega arith) (and_then (and_then
    c.put_column-a.ensures
    c.put_field-b.ensures) c.put_word.ensures)
