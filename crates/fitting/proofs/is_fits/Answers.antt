use Rattle.fitting.specs.Fitting.{is_fits}
use Rattle.std.proofs.Common.{rules}
use Rattle.fitting.proofs.is_fits.Goals as goal

pub returns : goal.returns
unfolding is_fits
returns c = search rules
