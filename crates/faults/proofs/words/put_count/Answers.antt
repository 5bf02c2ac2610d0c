use Rattle.std.proofs.Common.{arith}
use Rattle.render.proofs.Placed.{and_then, looser}
use Rattle.faults.specs.Words.{count_text}
use Rattle.faults.proofs.words.put_count.Goals as goal

pub returns : goal.returns
unfolding count_text
returns c =
    let p = c.put_word-a.ensures in
    let q = c.put_has-b.ensures in
    let r = c.put_lines-c.ensures in
    let s = c.put_wanted.ensures in
    looser _ (omega arith) (and_then (and_then (and_then p q) r) s)
