use native.Mathlib.Omega.{arith}
use mathlib.Core.Path.{◌≡◌, subst}
use Prim.Native.Nat.{◌-◌, ◌*◌, ◌≤◌}
use lib.ListN.{length, take}
use Rattle.call.specs.Services.{deep_peak, reserve}
use Rattle.book.specs.Book.{most_keys, size_of}
use Rattle.pay.proofs.Within.{line_of}
use Rattle.reckon.proofs.Given.{BookGiven, book_given}
use Rattle.day_runs.specs.DayRuns.{Day, places_per_day, runs_from, day_of}
use Rattle.day_runs.specs.Inner.{day_at, RunsFound}
use Rattle.day_runs.proofs.Days.{few_runs, found_calls, found_placed, same_day}
use Rattle.day_runs.proofs.day_runs.Goals as goal

pub count_at-n-requires : goal.count_at-n-requires
count_at-n-requires c =
    let book : BookGiven c.args.b.now = book_given c.args.b.now c.requires.b_value in
    book.long

pub windows_of-deep-requires : goal.windows_of-deep-requires
windows_of-deep-requires c =
    let book : BookGiven c.args.b.now = book_given c.args.b.now c.requires.b_value in
    let ready : (size_of c.count_at-n.result ≤ length c.args.b.now) × (c.count_at-n.result ≤ most_keys) = let g = book in
    let n = c.count_at-n.ensures.0 in
    (omega (arith, g.size), omega (arith, g.few)) in
    let told = ready in
    record { n_in_bounds = told.0; n_le_most_keys = told.1 }

pub windows_of-reserves-requires : goal.windows_of-reserves-requires
windows_of-reserves-requires c =
    let book : BookGiven c.args.b.now = book_given c.args.b.now c.requires.b_value in
    let ready : (size_of c.count_at-n.result ≤ length c.args.b.now) × (c.count_at-n.result ≤ most_keys) = let g = book in
    let n = c.count_at-n.ensures.0 in
    (omega (arith, g.size), omega (arith, g.few)) in
    let told = ready in
    record { n_in_bounds = told.0; n_le_most_keys = told.1 }

pub runs_found-requires : goal.runs_found-requires
runs_found-requires c =
    let book : BookGiven c.args.b.now = book_given c.args.b.now c.requires.b_value in
    let ready : (size_of c.count_at-n.result ≤ length c.args.b.now) × (c.count_at-n.result ≤ most_keys) = let g = book in
    let n = c.count_at-n.ensures.0 in
    (omega (arith, g.size), omega (arith, g.few)) in
    let is-day : day_at c.args.member c.args.b.now (take c.windows_of-deep.result.count c.windows_of-deep.result.at) (take c.windows_of-reserves.result.count c.windows_of-reserves.result.at)
    c.args.series.now ((c.args.day - 1) * 1440) ≡ day_of c.args.member c.args.b.now c.args.series.now c.args.day = let a = c.args in
    let n = c.count_at-n in
    let p = c.windows_of-deep in
    let q = c.windows_of-reserves in
    same_day a.member a.b.now a.series.now (take p.result.count p.result.at) (take q.result.count q.result.at) a.day
    (found_calls a.member deep_peak a.b.now n.result p.result p.ensures n.ensures.0)
    (found_calls a.member reserve a.b.now n.result q.result q.ensures n.ensures.0) in
    let a = c.args in
    let l = ready.0 in
    let p = c.windows_of-deep in
    let q = c.windows_of-reserves in
    let n = c.count_at-n.result in
    let few = few_runs a.member a.b.now a.series.now a.day c.requires.b_value in record {
      rated_le_most_rated = (line_of a.member c.requires.member_value).rated.1;
      placed = found_placed a.member deep_peak a.b.now n p.result p.ensures l;
      placed_2 = found_placed a.member reserve a.b.now n q.result q.ensures l;
      first_bound = omega arith;
      few_runs = rw is-day few;
    }

pub returns : goal.returns
returns c =
    let is-day : day_at c.args.member c.args.b.now (take c.windows_of-deep.result.count c.windows_of-deep.result.at) (take c.windows_of-reserves.result.count c.windows_of-reserves.result.at)
    c.args.series.now ((c.args.day - 1) * 1440) ≡ day_of c.args.member c.args.b.now c.args.series.now c.args.day = let a = c.args in
    let n = c.count_at-n in
    let p = c.windows_of-deep in
    let q = c.windows_of-reserves in
    same_day a.member a.b.now a.series.now (take p.result.count p.result.at) (take q.result.count q.result.at) a.day
    (found_calls a.member deep_peak a.b.now n.result p.result p.ensures n.ensures.0)
    (found_calls a.member reserve a.b.now n.result q.result q.ensures n.ensures.0) in
    subst (λ (d : Day). RunsFound (runs_from d 0 places_per_day 0) c.runs_found.result) is-day c.runs_found.ensures
