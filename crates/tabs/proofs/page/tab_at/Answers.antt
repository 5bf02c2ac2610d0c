use Rattle.tabs.specs.Tabs.{tab_at}
use Rattle.tabs.proofs.page.tab_at.Goals as goal

pub returns : goal.returns
unfolding tab_at
returns c =
    λ i. record {
      index = c.u16_at-index.ensures i;
      count = c.u16_at-count.ensures i;
      live = c.u16_at-live.ensures i;
      contested = c.u16_at-contested.ensures i;
      withdrawn = c.u16_at-withdrawn.ensures i;
    }
