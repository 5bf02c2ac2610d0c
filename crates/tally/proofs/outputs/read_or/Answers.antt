use native.Mathlib.Omega.{arith}
use Rattle.tables.proofs.Promises.{series_fits}
use Rattle.tally.proofs.outputs.read_or.Goals as goal

pub returns : goal.returns
returns c =
    let fits = series_fits _ _ _ _ c.read_series.ensures in
    omega (arith, c.read_series.auto.out)
