use native.Mathlib.Omega.{arith}
use Rattle.book.proofs.Exact.{accepted_tests}
use Rattle.book.proofs.call_of.Goals as goal

pub record_at-requires : goal.record_at-requires
record_at-requires c = omega (arith, c.requires.i_bound, (accepted_tests _ c.requires.b_value).count)
