use mathlib.Core.Path.{◌≡◌, ap}
use mathlib.Core.List.{List}
use Prim.Native.Nat.{ℕ}
use native.Mathlib.Omega.{arith}
use lib.ListN.{length}
use Rattle.render.proofs.Placed.{looser, same_put}
use Rattle.names.specs.Names.{kinds, kind_word}
use Rattle.names.proofs.Tables.{kind_short}
use Rattle.names.proofs.put_kind.Goals as goal

pub put_word-requires : goal.put_word-requires
unfolding kind_word kinds
put_word-requires c =
    let word-is : c.word_at.result.now ≡ kind_word c.args.n = c.word_at.ensures in
    omega (arith, kind_short c.args.n, ap (λ (t : List ℕ). length t) word-is)

pub returns : goal.returns
unfolding kind_word kinds
returns c =
    let word-is : c.word_at.result.now ≡ kind_word c.args.n = c.word_at.ensures in
    same_put word-is (looser 16 (omega (arith, kind_short c.args.n, ap (λ (t : List ℕ). length t) word-is)) c.put_word.ensures)
