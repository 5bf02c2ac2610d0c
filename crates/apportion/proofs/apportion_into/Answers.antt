use mathlib.Core.Path.{◌≡◌, ◌∙◌, ap}
use Prim.Native.Nat.{ℕ, ◌≤◌}
use native.Mathlib.Omega.{arith}
use lib.ListN.{length, length-map}
use Rattle.apportion.specs.Apportion.{total, rounded_down, remainders}
use Rattle.apportion.proofs.Laws.{bases_le, remainder_le}
use Rattle.apportion.proofs.Loops.{total_some, get_d_total}
use Rattle.apportion.proofs.ByRank.{reckoned_by_rank}
use Rattle.apportion.proofs.apportion_into.Goals as goal

pub split-requires : goal.split-requires
split-requires c =
    let e : c.total-all.result ≡ total c.args.weights.now = c.total-all.ensures in record {
      can_share = (c.requires.can_share.0, omega arith, omega arith);
      room_for_each = c.requires.room_for_each;
      none_above = λ k. omega (arith, get_d_total c.args.weights.now k);
    }

pub total-requires : goal.total-requires
total-requires c =
    let halved : let a = c.args in
    (c.split.new.shares ≡ rounded_down a.amount (total a.weights.now) a.weights.now)
    × (c.split.new.rests ≡ remainders a.amount (total a.weights.now) a.weights.now) = let a = c.args in
    let e : c.total-all.result ≡ total a.weights.now = c.total-all.ensures in (
      c.split.ensures.shares_after ∙ ap (λ (t : ℕ). rounded_down a.amount t a.weights.now) e,
      c.split.ensures.rests_after ∙ ap (λ (t : ℕ). remainders a.amount t a.weights.now) e,
    ) in
    let fits : let a = c.args in total c.split.new.shares ≤ a.amount = rw halved.0 (bases_le c.args.amount c.args.weights.now c.requires.can_share.1) in
    omega (arith, fits)

pub overflow_sub-left : goal.overflow_sub-left
overflow_sub-left c =
    let halved : let a = c.args in
    (c.split.new.shares ≡ rounded_down a.amount (total a.weights.now) a.weights.now)
    × (c.split.new.rests ≡ remainders a.amount (total a.weights.now) a.weights.now) = let a = c.args in
    let e : c.total-all.result ≡ total a.weights.now = c.total-all.ensures in (
      c.split.ensures.shares_after ∙ ap (λ (t : ℕ). rounded_down a.amount t a.weights.now) e,
      c.split.ensures.rests_after ∙ ap (λ (t : ℕ). remainders a.amount t a.weights.now) e,
    ) in
    let fits : let a = c.args in total c.split.new.shares ≤ a.amount = rw halved.0 (bases_le c.args.amount c.args.weights.now c.requires.can_share.1) in
    omega (arith, fits, c.total.ensures)

pub give_left-requires : goal.give_left-requires
give_left-requires c =
    let halved : let a = c.args in
    (c.split.new.shares ≡ rounded_down a.amount (total a.weights.now) a.weights.now)
    × (c.split.new.rests ≡ remainders a.amount (total a.weights.now) a.weights.now) = let a = c.args in
    let e : c.total-all.result ≡ total a.weights.now = c.total-all.ensures in (
      c.split.ensures.shares_after ∙ ap (λ (t : ℕ). rounded_down a.amount t a.weights.now) e,
      c.split.ensures.rests_after ∙ ap (λ (t : ℕ). remainders a.amount t a.weights.now) e,
    ) in
    let fits : let a = c.args in total c.split.new.shares ≤ a.amount = rw halved.0 (bases_le c.args.amount c.args.weights.now c.requires.can_share.1) in
    let ls : length c.split.new.shares ≡ length c.args.weights.now = ap length halved.0 ∙ length-map c.args.weights.now _ in
    let lr : length c.split.new.rests ≡ length c.args.weights.now = ap length halved.1 ∙ length-map c.args.weights.now _ in
    let some = total_some c.args.weights.now c.requires.can_share.1 in
    let e : c.total-all.result ≡ total c.args.weights.now = c.total-all.ensures in record {
      can_give = (omega arith, omega arith, omega (arith, fits, c.total.ensures, c.ranges.amount));
      all_bound = omega arith;
      none_above = λ k. rw (halved.1, e) (remainder_le c.args.amount (total c.args.weights.now) c.args.weights.now k c.requires.can_share.1);
    }

pub returns : goal.returns
returns c =
    let halved : let a = c.args in
    (c.split.new.shares ≡ rounded_down a.amount (total a.weights.now) a.weights.now)
    × (c.split.new.rests ≡ remainders a.amount (total a.weights.now) a.weights.now) = let a = c.args in
    let e : c.total-all.result ≡ total a.weights.now = c.total-all.ensures in (
      c.split.ensures.shares_after ∙ ap (λ (t : ℕ). rounded_down a.amount t a.weights.now) e,
      c.split.ensures.rests_after ∙ ap (λ (t : ℕ). remainders a.amount t a.weights.now) e,
    ) in
    let e : c.total.result ≡ total c.split.new.shares = c.total.ensures in
    c.give_left.ensures ∙ rw (e, halved.0, halved.1) (reckoned_by_rank c.args.amount c.args.weights.now c.requires.can_share.1)
