use mathlib.Core.Bool.{Bool}
use mathlib.Core.Path.{◌≡◌, refl, ap, sym, ◌∙◌, subst}
use mathlib.Core.List.{List}
use Prim.Native.Nat.{ℕ, ◌^◌, ◌<◌, ◌≤◌}
use native.Mathlib.Nat.{le_trans}
use native.Mathlib.Omega.{arith}
use lib.ListN.{length, take}
use lib.Seq.{length-take-le}
use Rattle.apportion.specs.Apportion.{total, apportion}
use Rattle.share.specs.Sharing.{SharingOutcome, below, weights_of, all_weights}
use Rattle.share.specs.declared.settle.Carried.{Carried}
use Rattle.share.specs.Inner.{Carries}
use Rattle.share.proofs.Bounds.{weights_le}
use Rattle.share.proofs.Cases.{settled_16, settled_on, parts_are, share_le}
use borrow.Author.Rules.{rules}
use Rattle.share.proofs.settle.carry.Goals as goal
use Rattle.share.proofs.settle.carry.Goals.{then-amount-gt0+else-all-eq0, else-amount-gt0}

pub total-all-requires : goal.total-all-requires
total-all-requires c =
    let sum_fits : total (take (length c.args.lines.now) c.weights_of-ws.result) < 2 ^ 62 = let ls = c.args.lines.now in
    rw c.weights_of-ws.ensures (omega (arith, weights_le c.args.g.negative ls c.requires.lines_within)) in
    omega (arith, sum_fits)

pub returns-then-all-eq0 : goal.returns-then-all-eq0
returns-then-all-eq0 c =
    let all_is : let a = c.args in
    a.g.negative ≡ below a.lines.now → total (take (length a.lines.now) c.weights_of-ws.result) ≡ all_weights a.lines.now = λ e. let a = c.args in
    ap total c.weights_of-ws.ensures ∙ ap (λ (b : Bool). total (weights_of b a.lines.now)) e in
    λ part g.
    let ls = c.args.lines.now in
    subst (λ (o : SharingOutcome). Carries c.args.lines.now o c.refusal.result)
    (settled_16 part ls c.requires.lines_bound (omega (arith, g.0, c.if-amount-gt0.true))
    (sym (all_is g.1) ∙ sym c.total-all.ensures ∙ c.if-all-eq0.true))
    (c.refusal.ensures c.args.lines.now)

-- as many weights as lines
weighed : (n : ℕ) (ws : List ℕ) → length ws ≡ 64 → n ≤ 64 → length (take n ws) ≡ n
weighed n ws long h = length-take-le n ws (omega arith)

pub shares_of-shares-requires : goal.shares_of-shares-requires
shares_of-shares-requires c =
    let sum_fits : total (take (length c.args.lines.now) c.weights_of-ws.result) < 2 ^ 62 = let ls = c.args.lines.now in
    rw c.weights_of-ws.ensures (omega (arith, weights_le c.args.g.negative ls c.requires.lines_within)) in
    let weighty : 0 < c.args.g.amount.0 → 0 < total (take (length c.args.lines.now) c.weights_of-ws.result) = λ h. elim c.if-amount-gt0.branch
    [ then-amount-gt0+else-all-eq0 w ↦ omega (arith, c.total-all.ensures) | else-amount-gt0 w ↦ omega arith ] in record {
      few = omega (arith, weighed (length c.args.lines.now) c.weights_of-ws.result (search rules) c.requires.few);
      amount_bound = omega (arith, c.requires.amount_le_most_compensation);
      weights_bound = sum_fits;
      nonzero = weighty;
    }

pub returns : goal.returns
returns c =
    let weighty : 0 < c.args.g.amount.0 → 0 < total (take (length c.args.lines.now) c.weights_of-ws.result) = λ h. elim c.if-amount-gt0.branch
    [ then-amount-gt0+else-all-eq0 w ↦ omega (arith, c.total-all.ensures) | else-amount-gt0 w ↦ omega arith ] in
    let all_is : let a = c.args in
    a.g.negative ≡ below a.lines.now → total (take (length a.lines.now) c.weights_of-ws.result) ≡ all_weights a.lines.now = λ e. let a = c.args in
    ap total c.weights_of-ws.ensures ∙ ap (λ (b : Bool). total (weights_of b a.lines.now)) e in
    λ part g.
    let a = c.args in
    let ls = a.lines.now in
    let ss = take (length a.lines.now) c.shares_of-shares.result.0 in
    let ws = take (length a.lines.now) c.weights_of-ws.result in
    let shared = rw (weighed (length a.lines.now) c.weights_of-ws.result (search rules) c.requires.few) at c.shares_of-shares.ensures in
    let es : ss ≡ apportion a.g.amount.0 (weights_of a.g.negative ls) =
    shared ∙ ap (λ (ws' : List ℕ). apportion a.g.amount.0 ws') c.weights_of-ws.ensures in
    let r : Carried = record { number = 0; place = 0; gap = a.g.whole; user = a.g.user; negative = a.g.negative; shares = c.shares_of-shares.result } in
    subst (λ (o : SharingOutcome). Carries a.lines.now o r)
    (settled_on part ls c.requires.lines_bound (λ h. omega (arith, weighty (omega (arith, g.0)), all_is g.1)))
    (record {
      number = refl;
      place = refl;
      gap = g.2;
      user = g.3;
      given = λ z.
          record {
            few = c.requires.few;
            within = c.requires.lines_within;
            small = λ k h. le_trans (share_le a.g.amount.0 k (length a.lines.now) c.shares_of-shares.result.0 ws shared weighty h) c.requires.amount_le_most_compensation;
            parts = parts_are part ls a.g.amount.0 a.g.negative ss g.0 g.1 es;
          };
    })
