use native.Mathlib.Omega.{arith}
use Rattle.le.specs.Le.{IsBytes}
use Rattle.tabs.proofs.Making.{place_few, next_up, put_starts, put_next}
use Rattle.tabs.proofs.walk.put_tabs.Goals as goal

pub loop-member-init : goal.loop-member-init
unfolding IsBytes
loop-member-init c = put_starts _ _ (λ i. omega (arith, c.type_inv.b i)) c.requires.accepted

pub overflow_add-at : goal.overflow_add-at
overflow_add-at c =
    omega (arith, place_few (next_up c.loop-member.invariant.up c.tab_from-t.result c.tab_from-t.ensures))

pub loop-member-preserved : goal.loop-member-preserved
loop-member-preserved c =
    put_next c.loop-member.invariant (omega (arith, c.loop-member-test.true)) c.tab_from-t.result c.tab_from-t.ensures
    (rw c.tab_place.ensures at c.put_tab.ensures)
