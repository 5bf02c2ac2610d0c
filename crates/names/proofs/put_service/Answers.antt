use mathlib.Core.Path.{◌≡◌, ap}
use mathlib.Core.List.{List}
use Prim.Native.Nat.{ℕ}
use native.Mathlib.Omega.{arith}
use lib.ListN.{length}
use Rattle.render.proofs.Placed.{looser, same_put}
use Rattle.names.specs.Names.{services, service_word}
use Rattle.names.proofs.Tables.{service_short}
use Rattle.names.proofs.put_service.Goals as goal

pub put_word-requires : goal.put_word-requires
unfolding service_word services
put_word-requires c =
    let word-is : c.word_at.result.now ≡ service_word c.args.n = c.word_at.ensures in
    omega (arith, service_short c.args.n, ap (λ (t : List ℕ). length t) word-is)

pub returns : goal.returns
unfolding service_word services
returns c =
    let word-is : c.word_at.result.now ≡ service_word c.args.n = c.word_at.ensures in
    same_put word-is (looser 16 (omega (arith, service_short c.args.n, ap (λ (t : List ℕ). length t) word-is)) c.put_word.ensures)
