use mathlib.Core.Path.{◌∙◌}
use native.Mathlib.Omega.{arith}
use Rattle.tables.proofs.Filling.{so_many, one_blank}
use Rattle.tables.proofs.series.put_blanks.Goals as goal

pub loop-init : goal.loop-init
loop-init c = λ rows. so_many c.args.out.now c.args.n rows _ _ (omega arith)

pub loop-preserved : goal.loop-preserved
loop-preserved c =
    let l = c.loop in
    λ rows. one_blank l.out l.at rows c.put_output-at.new.out c.put_output-at.result _ _ (omega arith) c.put_output-at.ensures ∙ l.invariant rows

pub returns : goal.returns
returns c =
    let l = c.loop in
    λ rows. so_many l.out l.at rows 0 _ (omega arith) ∙ l.invariant rows
