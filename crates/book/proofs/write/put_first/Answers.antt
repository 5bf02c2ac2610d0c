use native.Mathlib.Omega.{arith}
use Prim.Native.Nat.{◌-◌}
use lib.ListN.{length}
use Rattle.call.specs.Layout.{call_bytes}
use Rattle.book.specs.Book.{header_size}
use Rattle.le.proofs.Laws.{whole}
use Rattle.call.proofs.Bytes.{length_call}
use Rattle.book.proofs.write.put_first.Goals as goal

pub returns : goal.returns
returns c =
    let args = c.args in
    whole header_size (length args.out.now - header_size) 0 _ (call_bytes args.x) _ (omega (arith, length_call args.x)) c.put_call.ensures
