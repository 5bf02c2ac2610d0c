use native.Mathlib.Omega.{arith}
use Rattle.le.specs.Le.{IsBytes}
use Rattle.join.proofs.Copies.{words_record}
use Rattle.join.proofs.copy_record.Goals as goal

pub returns : goal.returns
unfolding IsBytes
returns c =
    rw (words_record c.args.s.now (λ i. omega (arith, c.type_inv.s i)) c.args.from c.requires.record_lies c.words_at-w.result c.words_at-w.ensures)
    at c.put_words.ensures
