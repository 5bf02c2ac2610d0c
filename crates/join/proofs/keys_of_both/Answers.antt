use mathlib.Core.Path.{◌≡◌, ◌∙◌, ap}
use Prim.Native.Nat.{◌<◌}
use native.Mathlib.Omega.{arith}
use Rattle.book.specs.Book.{size_of, count_at}
use Rattle.join.proofs.Steps.{both_left, stepped, again, counts_all}
use Rattle.join.proofs.Books.{long, size}
use Rattle.join.proofs.keys_of_both.Goals as goal

pub count_at-requires : goal.count_at-requires
count_at-requires c = long _ c.requires.accepted

pub count_at-requires-2 : goal.count_at-requires-2
count_at-requires-2 c = long _ c.requires.accepted_2

pub next_from-s-requires : goal.next_from-s-requires
next_from-s-requires c =
    let ends : (c.size_of-e.result ≡ size_of (count_at c.args.first.now)) × (c.size_of-f.result ≡ size_of (count_at c.args.second.now))
    × (count_at c.args.first.now < 65536) × (count_at c.args.second.now < 65536) =
    let n = c.count_at.ensures in
    let m = c.count_at-2.ensures in
    let x = n.0 in
    let y = m.0 in
    let u = n.1 in
    let v = m.1 in
    (c.size_of-e.ensures ∙ ap size_of x, c.size_of-f.ensures ∙ ap size_of y, omega arith, omega arith) in
    let both : (c.loop-a.a < size_of (count_at c.args.first.now)) × (c.loop-a.b < size_of (count_at c.args.second.now)) =
    let t = both_left c.loop-a.a c.size_of-e.result c.loop-a.b c.size_of-f.result c.loop-a-test.true in
    let x = ends.0 in
    let y = ends.1 in
    (omega arith, omega arith) in
    let inv = c.loop-a.invariant in
    let t = both in
    record {
      record_size_in_bounds = omega (arith, inv.at_first, size _ c.requires.accepted);
      record_size_in_bounds_2 = omega (arith, inv.at_second, size _ c.requires.accepted_2);
    }

pub loop-a-preserved : goal.loop-a-preserved
loop-a-preserved c =
    let ends : (c.size_of-e.result ≡ size_of (count_at c.args.first.now)) × (c.size_of-f.result ≡ size_of (count_at c.args.second.now))
    × (count_at c.args.first.now < 65536) × (count_at c.args.second.now < 65536) =
    let n = c.count_at.ensures in
    let m = c.count_at-2.ensures in
    let x = n.0 in
    let y = m.0 in
    let u = n.1 in
    let v = m.1 in
    (c.size_of-e.ensures ∙ ap size_of x, c.size_of-f.ensures ∙ ap size_of y, omega arith, omega arith) in
    let both : (c.loop-a.a < size_of (count_at c.args.first.now)) × (c.loop-a.b < size_of (count_at c.args.second.now)) =
    let t = both_left c.loop-a.a c.size_of-e.result c.loop-a.b c.size_of-f.result c.loop-a-test.true in
    let x = ends.0 in
    let y = ends.1 in
    (omega arith, omega arith) in
    let t = both in
    let inv = c.loop-a.invariant in
    again inv (stepped inv t.0 t.1 c.next_from-s.ensures.settled)

pub returns : goal.returns
returns c =
    let ends : (c.size_of-e.result ≡ size_of (count_at c.args.first.now)) × (c.size_of-f.result ≡ size_of (count_at c.args.second.now))
    × (count_at c.args.first.now < 65536) × (count_at c.args.second.now < 65536) =
    let n = c.count_at.ensures in
    let m = c.count_at-2.ensures in
    let x = n.0 in
    let y = m.0 in
    let u = n.1 in
    let v = m.1 in
    (c.size_of-e.ensures ∙ ap size_of x, c.size_of-f.ensures ∙ ap size_of y, omega arith, omega arith) in
    counts_all c.requires.accepted c.requires.accepted_2 c.loop-a.invariant ends.0 ends.1 c.loop-a-test.false
