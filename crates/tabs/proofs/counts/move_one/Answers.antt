use native.Mathlib.Omega.{arith}
use Rattle.tabs.proofs.Counting.{no_hit}
use Rattle.tabs.proofs.counts.move_one.Goals as goal

pub add_one-requires : goal.add_one-requires
add_one-requires c =
    let f = c.take_one.ensures in
    let to = c.requires.counted_2 in record {
      page_size_in_bounds = omega (arith, f.long, c.requires.page_size_in_bounds);
      counted = to;
      state_bound = omega
          (arith, f.counts c.args.member c.args.to to, no_hit c.args.member c.args.to, c.requires.to_bound);
    }
