use mathlib.Core.Path.{◌≡◌, ap}
use mathlib.Core.List.{List}
use Prim.Native.Nat.{ℕ}
use native.Mathlib.Omega.{arith}
use lib.ListN.{length}
use Rattle.render.proofs.Placed.{looser, same_put}
use Rattle.names.specs.Names.{months, month_word}
use Rattle.names.proofs.Tables.{month_short}
use Rattle.names.proofs.put_month.Goals as goal

pub put_word-requires : goal.put_word-requires
unfolding month_word months
put_word-requires c =
    let word-is : c.word_at.result.now ≡ month_word c.args.n = c.word_at.ensures in
    omega (arith, month_short c.args.n, ap (λ (t : List ℕ). length t) word-is)

pub returns : goal.returns
unfolding month_word months
returns c =
    let word-is : c.word_at.result.now ≡ month_word c.args.n = c.word_at.ensures in
    same_put word-is (looser 16 (omega (arith, month_short c.args.n, ap (λ (t : List ℕ). length t) word-is)) c.put_word.ensures)
