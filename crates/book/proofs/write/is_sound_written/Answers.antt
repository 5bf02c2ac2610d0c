use mathlib.Core.Path.{◌∙◌, ap}
use native.Mathlib.Omega.{arith}
use lib.Dec.{eqb}
use Rattle.call.proofs.Bytes.{Sized}
use Rattle.book.specs.declared.Verdict.{Verdict}
use Rattle.book.proofs.Writes.{passes_alone}
use borrow.Author.Rules.{rules}
use Rattle.book.proofs.write.is_sound_written.Goals as goal

pub returns : goal.returns
returns c =
    let sized : Sized c.args.x =
    record {
      participant = search rules;
      service = search rules;
      state = search rules;
      number = search rules;
      revision = search rules;
      start = search rules;
      length = search rules;
      signed_a = search rules;
      most_b = search rules;
      most_c = search rules;
    } in
    ap (λ (v : Verdict). eqb v.number 0) c.check_records-v.ensures
    ∙ passes_alone c.args.minutes c.args.x sized (omega arith) c.put_first.ensures
