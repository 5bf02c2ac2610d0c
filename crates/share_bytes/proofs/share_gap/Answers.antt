use mathlib.Core.Path.{◌≡◌, refl, sym, ap, ◌∙◌}
use Prim.Native.Nat.{ℕ}
use native.Mathlib.Omega.{arith}
use lib.ListN.{length, replicate}
use lib.Seq.{length-take-le, take_at}
use Rattle.apportion.specs.Apportion.{total}
use Rattle.share.specs.Sharing.{weights_of}
use Rattle.share_bytes.specs.Inner.{spelt_lines}
use Rattle.share_bytes.proofs.Rows.{weights_fit, none_weighs, some_weighs, shared_ready, gap_16, gap_9, gap_shared}
use Rattle.share_bytes.proofs.share_gap.Goals as goal

pub total-all-requires : goal.total-all-requires
total-all-requires c =
    let room : length c.weights_into.new.weights ≡ c.args.count = c.weights_into.auto.weights ∙ length-take-le {A = ℕ} c.args.count (replicate 64 0) (omega (arith, c.requires.count_le_most_number)) in
    let weighed : c.weights_into.new.weights ≡ weights_of c.args.g.negative (spelt_lines c.args.s.now c.args.count) = c.weights_into.ensures
    ∙ ap (λ (k : ℕ). weights_of c.args.g.negative (spelt_lines c.args.s.now k)) (length-take-le {A = ℕ} c.args.count (replicate 64 0) (omega (arith, c.requires.count_le_most_number))) in
    (weights_fit c.args.s.now c.args.count c.args.g.amount.0 c.args.g.negative _ (take_at c.weights_into.new.weights _ _ room ∙ weighed)
    c.requires.count_le_most_number c.requires.lines_within).1

pub returns-then-amount-all : goal.returns-then-amount-all
returns-then-amount-all c =
    let room : length c.weights_into.new.weights ≡ c.args.count = c.weights_into.auto.weights ∙ length-take-le {A = ℕ} c.args.count (replicate 64 0) (omega (arith, c.requires.count_le_most_number)) in
    let weighed : c.weights_into.new.weights ≡ weights_of c.args.g.negative (spelt_lines c.args.s.now c.args.count) = c.weights_into.ensures
    ∙ ap (λ (k : ℕ). weights_of c.args.g.negative (spelt_lines c.args.s.now k)) (length-take-le {A = ℕ} c.args.count (replicate 64 0) (omega (arith, c.requires.count_le_most_number))) in
    let summed : c.total-all.result ≡ total (weights_of c.args.g.negative (spelt_lines c.args.s.now c.args.count)) = c.total-all.ensures ∙ ap total
    (take_at c.weights_into.new.weights _ _ room ∙ weighed) in
    λ part g.
    let ws = weights_of c.args.g.negative (spelt_lines c.args.s.now c.args.count) in
    let t = none_weighs c.args.g.amount.0 c.total-all.result c.if-amount-all.true in
    gap_16 c.args.s.now c.args.count c.args.g.amount.0 c.args.g.negative ws refl part c.args.g.whole.0 c.args.g.user.0
    c.args.out.now c.refused.result g c.requires.count_bound t.0 (sym summed ∙ t.1) c.refused.ensures

pub returns-then-out-count : goal.returns-then-out-count
returns-then-out-count c =
    let room : length c.weights_into.new.weights ≡ c.args.count = c.weights_into.auto.weights ∙ length-take-le {A = ℕ} c.args.count (replicate 64 0) (omega (arith, c.requires.count_le_most_number)) in
    let weighed : c.weights_into.new.weights ≡ weights_of c.args.g.negative (spelt_lines c.args.s.now c.args.count) = c.weights_into.ensures
    ∙ ap (λ (k : ℕ). weights_of c.args.g.negative (spelt_lines c.args.s.now k)) (length-take-le {A = ℕ} c.args.count (replicate 64 0) (omega (arith, c.requires.count_le_most_number))) in
    let summed : c.total-all.result ≡ total (weights_of c.args.g.negative (spelt_lines c.args.s.now c.args.count)) = c.total-all.ensures ∙ ap total
    (take_at c.weights_into.new.weights _ _ room ∙ weighed) in
    λ part g.
    let ws = weights_of c.args.g.negative (spelt_lines c.args.s.now c.args.count) in
    let way = some_weighs c.args.g.amount.0 c.total-all.result ws summed c.if-amount-all.false in
    gap_9 c.args.s.now c.args.count c.args.g.amount.0 c.args.g.negative ws refl part c.args.g.whole.0 c.args.g.user.0
    c.args.out.now c.refused-then-out-count.result g c.requires.count_bound way c.if-out-count.true c.refused-then-out-count.ensures

pub write_shared-requires-clause-weights_bound : goal.write_shared-requires-clause-weights_bound
write_shared-requires-clause-weights_bound c =
    let asked = let room : length c.weights_into.new.weights ≡ c.args.count = c.weights_into.auto.weights ∙ length-take-le {A = ℕ} c.args.count (replicate 64 0)
    (omega (arith, c.requires.count_le_most_number)) in
    let weighed : c.weights_into.new.weights ≡ weights_of c.args.g.negative (spelt_lines c.args.s.now c.args.count) = c.weights_into.ensures
    ∙ ap (λ (k : ℕ). weights_of c.args.g.negative (spelt_lines c.args.s.now k)) (length-take-le {A = ℕ} c.args.count (replicate 64 0) (omega (arith, c.requires.count_le_most_number))) in
    let summed : c.total-all.result ≡ total (weights_of c.args.g.negative (spelt_lines c.args.s.now c.args.count)) = c.total-all.ensures ∙ ap total
    (take_at c.weights_into.new.weights _ _ room ∙ weighed) in
    let ws = weights_of c.args.g.negative (spelt_lines c.args.s.now c.args.count) in
    let way = some_weighs c.args.g.amount.0 c.total-all.result ws summed c.if-amount-all.false in
    shared_ready c.args.s.now c.args.count c.args.g.amount.0 c.args.g.negative _ (take_at c.weights_into.new.weights _ _ room ∙ weighed)
    c.args.out.now c.requires.count_le_most_number c.requires.count_in_bounds c.requires.lines_within c.if-out-count.false c.requires.amount_le_most_compensation way in
    asked.1.1.1.1.1.0

pub returns : goal.returns
returns c =
    let room : length c.weights_into.new.weights ≡ c.args.count = c.weights_into.auto.weights ∙ length-take-le {A = ℕ} c.args.count (replicate 64 0) (omega (arith, c.requires.count_le_most_number)) in
    let weighed : c.weights_into.new.weights ≡ weights_of c.args.g.negative (spelt_lines c.args.s.now c.args.count) = c.weights_into.ensures
    ∙ ap (λ (k : ℕ). weights_of c.args.g.negative (spelt_lines c.args.s.now k)) (length-take-le {A = ℕ} c.args.count (replicate 64 0) (omega (arith, c.requires.count_le_most_number))) in
    let summed : c.total-all.result ≡ total (weights_of c.args.g.negative (spelt_lines c.args.s.now c.args.count)) = c.total-all.ensures ∙ ap total
    (take_at c.weights_into.new.weights _ _ room ∙ weighed) in
    λ part g.
    let ws = weights_of c.args.g.negative (spelt_lines c.args.s.now c.args.count) in
    let way = some_weighs c.args.g.amount.0 c.total-all.result ws summed c.if-amount-all.false in
    gap_shared c.args.s.now c.args.count c.args.g.amount.0 c.args.g.negative _ (take_at c.weights_into.new.weights _ _ room ∙ weighed)
    part c.args.g.whole.0 c.args.g.user.0 c.args.out.now c.accepted.result g c.requires.count_bound _ c.args.g.whole c.args.g.user refl refl way c.if-out-count.false
    c.accepted.ensures c.write_shared.ensures
