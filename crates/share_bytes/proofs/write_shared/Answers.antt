use mathlib.Core.Path.{◌≡◌, ◌∙◌}
use Prim.Native.Nat.{ℕ}
use native.Mathlib.Omega.{arith}
use lib.ListN.{length, replicate}
use lib.Seq.{length-take-le, take_at}
use Rattle.share_bytes.proofs.Rows.{take_zeros, parts_ready, parts_as}
use Rattle.share_bytes.proofs.write_shared.Goals as goal

pub shares_into-requires : goal.shares_into-requires
shares_into-requires c = record {
  weights_len_bound = c.requires.weights_len_bound;
  amount_bound = omega (arith, c.requires.amount_le_most_compensation);
  weights_bound = c.requires.weights_bound;
  weights_nonzero = c.requires.weights_nonzero;
  shares_value = take_zeros (length c.args.weights.now) 64 c.requires.weights_len_bound;
}

pub write_parts-requires-clause-by_index : goal.write_parts-requires-clause-by_index
write_parts-requires-clause-by_index c =
    let asked = let long : length c.shares_into.new.shares ≡ length c.args.weights.now = c.shares_into.auto.shares ∙ length-take-le {A = ℕ} (length c.args.weights.now) (replicate 64 0)
    (omega (arith, c.requires.weights_len_bound)) in
    parts_ready c.args.s.now c.args.out.now c.args.weights.now _ c.args.amount.0 (take_at c.shares_into.new.shares _ _ long ∙ c.shares_into.ensures)
    c.requires.weights_in_bounds c.requires.lines_within c.requires.part_size_in_bounds c.requires.amount_le_most_compensation c.requires.weights_nonzero in
    asked.1.1.1

pub returns : goal.returns
returns c =
    let long : length c.shares_into.new.shares ≡ length c.args.weights.now = c.shares_into.auto.shares ∙ length-take-le {A = ℕ} (length c.args.weights.now) (replicate 64 0)
    (omega (arith, c.requires.weights_len_bound)) in
    parts_as c.args.s.now c.args.out.now c.args.weights.now _ c.args.amount.0 (take_at c.shares_into.new.shares _ _ long ∙ c.shares_into.ensures)
    c.args.negative c.args.user.0 c.write_parts.ensures c.write_part.ensures
