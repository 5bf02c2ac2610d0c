use native.Mathlib.Omega.{arith}
use mathlib.Core.Path.{◌≡◌, sym, subst}
use mathlib.Core.List.{List, [], ◌∷◌}
use Prim.Native.Nat.{◌+◌, ◌-◌, ◌<◌}
use lib.ListN.{set}
use Rattle.day_runs.specs.declared.runs.DayRun.{DayRun}
use Rattle.day_runs.specs.DayRuns.{Day, places_per_day, run_at, runs_from, most_runs, filled_up}
use Rattle.day_runs.specs.Inner.{day_at}
use Rattle.day_runs.proofs.Slots.{runs_take, runs_end}
use Rattle.day_runs.proofs.Filling.{Filled, filled_none, filled_room, filled_next, filled_done}
use Rattle.day_runs.proofs.runs_found.Goals as goal

pub loop-place-init : goal.loop-place-init
loop-place-init c =
    let day : Day = day_at c.args.member c.args.b.now c.args.deep.now c.args.reserves.now c.args.series.now c.args.first in
    let n = c.next_begin-place.ensures c.args.member in
    let all = runs_from day 0 places_per_day 0 in
    let e : all ≡ runs_from day c.next_begin-place.result (places_per_day - c.next_begin-place.result) 0 = n.none_between 0 in
    (rw c.blank_runs-list.ensures (subst (λ (left : List DayRun). Filled all (filled_up []) 0 left) e (filled_none all)), n.within, n.begins, omega arith)

pub bounds-list-count : goal.bounds-list-count
bounds-list-count c =
    let day : Day = day_at c.args.member c.args.b.now c.args.deep.now c.args.reserves.now c.args.series.now c.args.first in
    let begun : Filled (runs_from day 0 places_per_day 0) c.loop-place.list c.loop-place.count
    (run_at day c.loop-place.place c.loop-place.sum.0 ∷ runs_from day (c.loop-place.place + 1) (places_per_day - (c.loop-place.place + 1))
    (run_at day c.loop-place.place c.loop-place.sum.0).sum.0) = let d = day in
    let l = c.loop-place in
    let e = runs_take d l.place (omega arith) l.sum.0 (l.invariant.2 (omega arith)) in
    subst (λ (left : List DayRun). Filled (runs_from d 0 places_per_day 0) l.list l.count left) e l.invariant.0 in
    let room : c.loop-place.count < most_runs = filled_room _ _ _ _ c.requires.few_runs _ begun in
    omega (arith, room)

pub loop-place-preserved : goal.loop-place-preserved
loop-place-preserved c =
    let day : Day = day_at c.args.member c.args.b.now c.args.deep.now c.args.reserves.now c.args.series.now c.args.first in
    let begun : Filled (runs_from day 0 places_per_day 0) c.loop-place.list c.loop-place.count
    (run_at day c.loop-place.place c.loop-place.sum.0 ∷ runs_from day (c.loop-place.place + 1) (places_per_day - (c.loop-place.place + 1))
    (run_at day c.loop-place.place c.loop-place.sum.0).sum.0) = let d = day in
    let l = c.loop-place in
    let e = runs_take d l.place (omega arith) l.sum.0 (l.invariant.2 (omega arith)) in
    subst (λ (left : List DayRun). Filled (runs_from d 0 places_per_day 0) l.list l.count left) e l.invariant.0 in
    let taken : Filled (runs_from day 0 places_per_day 0) c.loop-place.list c.loop-place.count
    (c.run_at-run.result ∷ runs_from day (c.loop-place.place + 1) (places_per_day - (c.loop-place.place + 1)) c.run_at-run.result.sum.0) = let d = day in
    let l = c.loop-place in
    subst (λ (r : DayRun). Filled (runs_from d 0 places_per_day 0) l.list l.count (r ∷ runs_from d (l.place + 1) (places_per_day - (l.place + 1)) r.sum.0))
    (sym c.run_at-run.ensures.0) begun in
    let l = c.loop-place in
    let r = c.run_at-run in
    let n = c.next_begin-place-in-loop-place.ensures c.args.member in
    let e = n.none_between r.result.sum.0 in
    let rest = runs_from day (l.place + 1) (places_per_day - (l.place + 1)) r.result.sum.0 in
    let f = filled_next (runs_from day 0 places_per_day 0) l.list rest l.count c.requires.few_runs r.result taken in
    (subst (λ (left : List DayRun). Filled (runs_from day 0 places_per_day 0) (set l.list l.count r.result) (l.count + 1) left) e f, n.within, n.begins, omega (arith, r.ensures.1))

pub returns : goal.returns
returns c =
    let day : Day = day_at c.args.member c.args.b.now c.args.deep.now c.args.reserves.now c.args.series.now c.args.first in
    let l = c.loop-place in
    let none = runs_end day l.place l.sum.0 (omega arith) in
    let all = runs_from day 0 places_per_day 0 in
    let f = filled_done all l.list [] l.count c.requires.few_runs (subst (λ (left : List DayRun). Filled all l.list l.count left) none l.invariant.0) in
    record { count = f.0; list = f.1 }
