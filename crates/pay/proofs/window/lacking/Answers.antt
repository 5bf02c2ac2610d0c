use native.Mathlib.Omega.{arith}
use mathlib.Core.Path.{sym}
use Rattle.pay.proofs.Runs.{lack_some, lack_none}
use Rattle.pay.proofs.window.lacking.Goals as goal

pub returns-then-at-full : goal.returns-then-at-full
returns-then-at-full c = sym (lack_some _ _ (omega arith))

pub returns : goal.returns
returns c = sym (lack_none _ _ (omega arith))
