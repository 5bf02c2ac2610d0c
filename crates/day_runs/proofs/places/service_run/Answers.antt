use native.Mathlib.Omega.{arith}
use mathlib.Core.Path.{refl}
use Prim.Native.Nat.{◌*◌, ◌≤◌}
use native.Mathlib.Nat.{mul-le-mul}
use Rattle.reckon.specs.Inner.{most_minute}
use Rattle.day_runs.specs.Inner.{most_run, service_run}
use Rattle.day_runs.proofs.places.service_run.Goals as goal

pub returns : goal.returns
unfolding service_run
returns c =
    let pays : c.run_length-length.result * c.minute_at-minute.result.0 ≤ most_run = mul-le-mul {n₂ = 1440} {m₂ = most_minute} (omega (arith, c.run_length-length.ensures.1))
    c.minute_at-minute.ensures.1 in
    let e = c.run_length-length.ensures.0 in
    let m = c.minute_at-minute.ensures.0 in
    record {
      run = rw (e, c.call_over-call.ensures, c.output_at-output.ensures, m) refl;
      most = omega (arith, pays);
    }
