use native.Mathlib.Omega.{arith}
use Rattle.render.proofs.Placed.{and_then, looser}
use Rattle.fitting.specs.Told.{apart_text}
use Rattle.fitting.proofs.told.put_fen_apart.Goals as goal

pub returns : goal.returns
unfolding apart_text
returns c =
    let line = c.put_line-a.ensures in
    let stands = c.put_yuan_field-b.ensures in
    looser _ (omega arith) (and_then (and_then line stands) c.put_yuan_field.ensures)
