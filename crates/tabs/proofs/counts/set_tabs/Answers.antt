use native.Mathlib.Omega.{arith}
use Rattle.tabs.proofs.Pages.{length_stored}
use Rattle.tabs.proofs.Retabbing.{sum_fits, tab_next, tab_starts}
use Rattle.tabs.proofs.counts.set_tabs.Goals as goal

pub set_tab-below-requires : goal.set_tab-below-requires
set_tab-below-requires c =
    let m = c.loop-member.invariant.member in record {
      page_size_in_bounds = omega (arith, length_stored c.loop-member.invariant.is, c.requires.page_size_in_bounds);
      counted = record
          { member = (m.0, (omega (arith, c.loop-member-test.true))); state = omega arith };
      member_bound = sum_fits c.loop-member.invariant (omega (arith, c.loop-member-test.true)) c.requires.most_participant_bound;
    }

pub loop-member-preserved : goal.loop-member-preserved
loop-member-preserved c =
    tab_next c.loop-member.invariant (omega (arith, c.loop-member-test.true)) c.set_tab-below.ensures.value c.set_tab-below.ensures.stores

pub loop-member-init : goal.loop-member-init
loop-member-init c = tab_starts _ _
