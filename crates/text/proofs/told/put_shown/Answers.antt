use mathlib.Core.Path.{◌≡◌, ◌∙◌, ap}
use Prim.Native.Nat.{ℕ, ◌+◌}
use native.Mathlib.Omega.{arith}
use lib.ListN.{drop, set, length-set}
use lib.Seq.{sets}
use Rattle.text.specs.Texts.{shown_name}
use Rattle.text.proofs.Names.{one_shown, all_shown}
use Rattle.text.proofs.told.put_shown.Goals as goal

pub loop-k-preserved : goal.loop-k-preserved
loop-k-preserved c =
    let l = c.loop-k in
    let a = c.args in
    let next : sets (set l.out l.k c.shown_byte.result) (l.k + 1) (drop (l.k + 1) (shown_name a.name.now)) ≡ sets l.out l.k (drop l.k (shown_name a.name.now)) =
    ap (λ (b : ℕ). sets (set l.out l.k b) (l.k + 1) (drop (l.k + 1) (shown_name a.name.now))) c.shown_byte.ensures ∙ one_shown l.out a.name.now l.k (omega arith) in
    (simp length-set (omega arith), next ∙ l.invariant.1)

pub returns : goal.returns
returns c =
    let l = c.loop-k in
    let a = c.args in
    all_shown a.name.now a.out.now l.out l.k (omega arith) l.invariant.1
