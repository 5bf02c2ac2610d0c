use Prim.Native.Nat.{◌+◌, ◌≤◌}
use native.Mathlib.Omega.{arith}
use lib.ListN.{length}
use Rattle.call.specs.Layout.{record_size}
use Rattle.book.specs.Book.{place_of}
use Rattle.lookup.proofs.Places.{in_word, first_fits, second_fits}
use Rattle.lookup.proofs.find.Goals as goal

pub place_of-a-requires : goal.place_of-a-requires
place_of-a-requires c =
    let in_first : (c.in-InFirst.i ≤ 65535) × (place_of c.in-InFirst.i + record_size ≤ length c.args.first.now) =
    first_fits _ _ _ _ c.which.result c.which.ensures _ c.in-InFirst.is in
    in_word _ in_first.0

pub overflow_add-e : goal.overflow_add-e
overflow_add-e c =
    let in_first : (c.in-InFirst.i ≤ 65535) × (place_of c.in-InFirst.i + record_size ≤ length c.args.first.now) =
    first_fits _ _ _ _ c.which.result c.which.ensures _ c.in-InFirst.is in
    omega (arith, in_first, c.place_of-a.ensures)

pub slice_bounds-result-end-in-InFirst : goal.slice_bounds-result-end-in-InFirst
slice_bounds-result-end-in-InFirst c =
    let in_first : (c.in-InFirst.i ≤ 65535) × (place_of c.in-InFirst.i + record_size ≤ length c.args.first.now) =
    first_fits _ _ _ _ c.which.result c.which.ensures _ c.in-InFirst.is in
    omega (arith, in_first, c.place_of-a.ensures)

pub place_of-a-requires-in-InSecond : goal.place_of-a-requires-in-InSecond
place_of-a-requires-in-InSecond c =
    let in_second : (c.in-InSecond.j ≤ 65535) × (place_of c.in-InSecond.j + record_size ≤ length c.args.second.now) =
    second_fits _ _ _ _ c.which.result c.which.ensures _ c.in-InSecond.is in
    in_word _ in_second.0

pub overflow_add-e-in-InSecond : goal.overflow_add-e-in-InSecond
overflow_add-e-in-InSecond c =
    let in_second : (c.in-InSecond.j ≤ 65535) × (place_of c.in-InSecond.j + record_size ≤ length c.args.second.now) =
    second_fits _ _ _ _ c.which.result c.which.ensures _ c.in-InSecond.is in
    omega (arith, in_second, c.place_of-a-in-InSecond.ensures)

pub slice_bounds-result-end-in-InSecond : goal.slice_bounds-result-end-in-InSecond
slice_bounds-result-end-in-InSecond c =
    let in_second : (c.in-InSecond.j ≤ 65535) × (place_of c.in-InSecond.j + record_size ≤ length c.args.second.now) =
    second_fits _ _ _ _ c.which.result c.which.ensures _ c.in-InSecond.is in
    omega (arith, in_second, c.place_of-a-in-InSecond.ensures)
