use mathlib.Core.Path.{◌≡◌, ◌∙◌, ap}
use Prim.Native.Nat.{ℕ, ◌+◌}
use Rattle.le.specs.Le.{le_at}
use Rattle.tabs.specs.Inner.{count_on}
use Rattle.tabs.proofs.Counting.{one_more}
use Rattle.tabs.proofs.counts.add_one.Goals as goal

pub returns : goal.returns
returns c =
    let reads : c.u16_at-n.result ≡ count_on c.args.page.now c.args.member c.args.state =
    c.u16_at-n.ensures ∙ ap (λ (k : ℕ). le_at c.args.page.now k 2) c.state_place-at.ensures in
    one_more c.requires.page_size_in_bounds c.requires.counted (rw c.state_place-at.ensures at c.put_u16.ensures) c.requires.state_bound (ap (λ (k : ℕ). k + 1) reads)
