use mathlib.Core.Path.{◌≡◌, refl, ap, ◌∙◌}
use mathlib.Core.List.{List}
use Prim.Native.Nat.{ℕ, ◌≤◌}
use native.Mathlib.Omega.{arith}
use lib.ListN.{length, take}
use lib.Seq.{length-take-le}
use Rattle.apportion.specs.Apportion.{total}
use Rattle.ceiling.specs.Ceiling.{positives}
use Rattle.ceiling.specs.Inner.{parts_in, exceeds, gives}
use Rattle.ceiling.proofs.PastFirst.{sums_fit, amounts_fit, each_small, given_small, parts_given}
use borrow.Author.Rules.{rules}
use Rattle.ceiling.proofs.second.second_sharing.Goals as goal

-- as many as there are lines
counted : (n : ℕ) (xs : List ℕ) → length xs ≡ 64 → n ≤ 64 → length (take n xs) ≡ n
counted n xs long h = length-take-le n xs (omega arith)

pub total-sum-requires : goal.total-sum-requires
total-sum-requires c =
    let fit = sums_fit c.args.lines.now c.args.shared.now c.requires.few c.requires.each_shared c.requires.small in
    rw c.uncollected_of-us.ensures (omega (arith, fit.0))

pub total-most-requires : goal.total-most-requires
total-most-requires c =
    let fit = sums_fit c.args.lines.now c.args.shared.now c.requires.few c.requires.each_shared c.requires.small in
    let e : take (length c.args.lines.now) c.positives-ps.result ≡ positives (parts_in c.args.shared.now) = rw c.requires.each_shared at c.positives-ps.ensures in
    rw e (omega (arith, fit.1))

pub returns-then-most-sum : goal.returns-then-most-sum
returns-then-most-sum c =
    let e : take (length c.args.lines.now) c.positives-ps.result ≡ positives (parts_in c.args.shared.now) = rw c.requires.each_shared at c.positives-ps.ensures in
    exceeds (omega (arith, ap total e, ap total c.uncollected_of-us.ensures, c.total-most.ensures, c.total-sum.ensures, c.if-most-sum.true)) c.refused.ensures refl

pub given_up-gs-requires : goal.given_up-gs-requires
given_up-gs-requires c =
    let fit = sums_fit c.args.lines.now c.args.shared.now c.requires.few c.requires.each_shared c.requires.small in
    let e : take (length c.args.lines.now) c.positives-ps.result ≡ positives (parts_in c.args.shared.now) = rw c.requires.each_shared at c.positives-ps.ensures in
    record {
      few = omega (arith, counted (length c.args.lines.now) c.positives-ps.result (search rules) c.requires.few);
      sum_bound = omega (arith, c.total-most.ensures, c.if-most-sum.false);
      ps_bound = rw e (omega (arith, fit.1));
    }

pub ceiled_lines-requires : goal.ceiled_lines-requires
ceiled_lines-requires c =
    let n = length c.args.lines.now in
    let fit = sums_fit c.args.lines.now c.args.shared.now c.requires.few c.requires.each_shared c.requires.small in
    let us = c.uncollected_of-us.result in
    let ps = c.positives-ps.result in
    let gs = c.given_up-gs.result in
    let given = rw (counted n ps (search rules) c.requires.few) at c.given_up-gs.ensures in
    record {
      each_shared = c.requires.each_shared;
      each_uncollected = counted n us (search rules) c.requires.few;
      each_given = counted n gs (search rules) c.requires.few;
      amounts_within = amounts_fit c.args.shared.now n c.requires.each_shared c.requires.small;
      each_within = each_small (take n us) n (rw c.uncollected_of-us.ensures (omega (arith, fit.0)));
      each_within_2 = given_small c.total-sum.result n (take n gs) (take n ps) (omega (arith, c.total-most.ensures, c.if-most-sum.false))
          (omega (arith, c.total-sum.ensures, ap total c.uncollected_of-us.ensures, fit.0)) given;
    }

pub returns : goal.returns
returns c =
    let n = length c.args.lines.now in
    let ls = c.args.lines.now in
    let e : take n c.positives-ps.result ≡ positives (parts_in c.args.shared.now) = rw c.requires.each_shared at c.positives-ps.ensures in
    let given = rw (counted n c.positives-ps.result (search rules) c.requires.few) at c.given_up-gs.ensures in
    gives (omega (arith, ap total e, ap total c.uncollected_of-us.ensures, c.total-most.ensures, c.total-sum.ensures, c.if-most-sum.false)) refl
    (c.ceiled_lines.ensures ∙ parts_given ls (parts_in c.args.shared.now) c.total-sum.result (take n c.uncollected_of-us.result) (take n c.positives-ps.result) (take n c.given_up-gs.result)
    c.uncollected_of-us.ensures e c.total-sum.ensures given)
