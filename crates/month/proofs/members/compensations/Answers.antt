use mathlib.Core.Path.{◌≡◌, sym, ◌∙◌, ap}
use Prim.Native.Nat.{ℕ}
use native.Mathlib.Omega.{arith}
use lib.ListN.{length, length-map, length-set}
use Rattle.apportion.proofs.Loops.{over_step}
use Rattle.share.proofs.Lists.{get_d_mapped}
use Rattle.month.specs.Settling.{compensations}
use Rattle.month.proofs.Walking.{no_grains, no_fen, fen_of}
use borrow.Author.Rules.{rules}
use Rattle.month.proofs.members.compensations.Goals as goal

pub loop-i-preserved : goal.loop-i-preserved
loop-i-preserved c =
    let l = c.loop-i in
    let f = compensations c.args.grains in
    let long : length c.args.grains ≡ 64 = search rules in
    let long₂ = length-map c.args.grains fen_of in
    let v = get_d_mapped fen_of c.args.grains l.i no_grains no_fen (omega arith) ∙ sym (ap (λ (n : ℕ). record { 0 = n }) c.to_fen.ensures) in
    (simp length-set l.invariant.0, over_step _ f l.fens l.i no_fen c.to_fen.result l.invariant.1 (omega arith) (omega arith) v)
