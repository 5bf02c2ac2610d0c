use native.Mathlib.Omega.{arith}
use Rattle.le.specs.Le.{IsBytes}
use Rattle.tabs.proofs.Retabbing.{copy_next, copy_over, copy_starts}
use Rattle.tabs.proofs.counts.copy_page.Goals as goal

pub loop-word-init : goal.loop-word-init
loop-word-init c = copy_starts _ _

pub loop-word-preserved : goal.loop-word-preserved
unfolding IsBytes
loop-word-preserved c =
    copy_next (λ i. omega (arith, c.type_inv.given i)) c.requires.page_size_in_bounds c.loop-word.invariant (omega (arith, c.loop-word-test.true)) c.u64_at.ensures c.put_u64.ensures

pub returns : goal.returns
returns c = copy_over c.loop-word.invariant (omega arith)
