use mathlib.Core.Path.{sym, ap, ◌∙◌}
use Prim.Native.Nat.{◌+◌}
use native.Mathlib.Omega.{arith}
use Rattle.share.specs.declared.Line.{Line}
use Rattle.share_bytes.proofs.Rows.{bad_from, bad_row}
use Rattle.share_bytes.proofs.first_bad_bytes.Goals as goal

pub loop-i-preserved : goal.loop-i-preserved
loop-i-preserved c =
    let row = bad_row c.loop-i.before c.args.s.now c.loop-i.i c.args.count (omega arith) (sym c.bytes_are_sound.ensures ∙ c.if-not-bytes_are_sound.false) in
    let next = ap (λ (x : Line). bad_from x.number c.args.s.now (c.loop-i.i + 1) c.args.count) c.fields_at-l.ensures in
    omega (arith, c.loop-i.invariant, row, next)
