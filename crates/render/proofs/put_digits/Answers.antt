use mathlib.Core.Path.{ap}
use mathlib.Core.List.{List}
use Prim.Native.Nat.{ℕ}
use native.Mathlib.Omega.{arith}
use lib.ListN.{length}
use Rattle.render.proofs.Placed.{looser, same_put}
use Rattle.render.proofs.Spelling.{digit_only}
use Rattle.render.proofs.put_digits.Goals as goal

pub put_word-requires : goal.put_word-requires
put_word-requires c =
    let d = c.last_digit-only in
    let e = digit_only c.args.n d.result c.if-n-lt10.true d.ensures in
    omega (arith, ap (λ (l : List ℕ). length l) e)

pub returns-then-n-lt10 : goal.returns-then-n-lt10
returns-then-n-lt10 c =
    let d = c.last_digit-only in
    let e = digit_only c.args.n d.result c.if-n-lt10.true d.ensures in
    looser _ (omega (arith, ap (λ (l : List ℕ). length l) e)) (same_put e c.put_word.ensures)
