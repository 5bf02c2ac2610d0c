use mathlib.Core.Path.{◌≡◌}
use native.Mathlib.Omega.{arith}
use Rattle.posted.proofs.Rows.{read_start, read_more, read_ends}
use Rattle.posted.proofs.line.read_members.Goals as goal

pub loop-count-init : goal.loop-count-init
loop-count-init c = read_start _ _ c.blank_rows-rows.ensures

pub loop-count-preserved : goal.loop-count-preserved
loop-count-preserved c =
    let l = c.loop-count in
    read_more _ l.rows l.count _ l.invariant c.in-Some.row _ (omega arith) c.in-Some.ensures

pub returns : goal.returns
returns c =
    let l = c.loop-count in
    let all : l.count ≡ 64 = omega arith in
    rw all at (read_ends _ l.rows _ _ l.invariant (λ b h. omega arith))
