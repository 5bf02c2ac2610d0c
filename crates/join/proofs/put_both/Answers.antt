use mathlib.Core.Path.{◌≡◌, refl, sym, ◌∙◌, ap}
use Prim.Native.Nat.{◌<◌}
use native.Mathlib.Omega.{arith}
use lib.ListN.{length}
use Rattle.book.specs.Book.{size_of}
use Rattle.join.proofs.Steps.{both_left, one_over}
use Rattle.join.proofs.Books.{long, size}
use Rattle.join.proofs.Taken.{none_yet, another, next_room, both_over}
use Rattle.join.proofs.put_both.Goals as goal

pub count_at-n-requires : goal.count_at-n-requires
count_at-n-requires c = long _ c.requires.accepted

pub count_at-m-requires : goal.count_at-m-requires
count_at-m-requires c = long _ c.requires.accepted_2

pub loop-a-init : goal.loop-a-init
loop-a-init c = none_yet _ _ _ c.requires.accepted c.requires.accepted_2

pub put_next-s-requires : goal.put_next-s-requires
put_next-s-requires c =
    let ends : (c.size_of-e.result ≡ length c.args.first.now) × (c.size_of-f.result ≡ length c.args.second.now) =
    let n = c.count_at-n.ensures.0 in
    let m = c.count_at-m.ensures.0 in
    (c.size_of-e.ensures ∙ ap size_of n ∙ sym (size _ c.requires.accepted), c.size_of-f.ensures ∙ ap size_of m ∙ sym (size _ c.requires.accepted_2)) in
    let both : (c.loop-a.a < length c.args.first.now) × (c.loop-a.b < length c.args.second.now) =
    let t = both_left c.loop-a.a c.size_of-e.result c.loop-a.b c.size_of-f.result c.loop-a-test.true in
    let x = ends.0 in
    let y = ends.1 in
    (omega arith, omega arith) in
    let inv = c.loop-a.invariant in
    let t = both in
    record {
      read_to = inv.in_first;
      read_to_2 = inv.in_second;
      a_in_bounds = t.0;
      b_in_bounds = t.1;
      record_size_in_bounds = next_room inv c.requires.second_in_bounds t.0;
    }

pub loop-a-preserved : goal.loop-a-preserved
loop-a-preserved c = another c.loop-a.invariant c.put_next-s.ensures

pub returns : goal.returns
returns c =
    let ends : (c.size_of-e.result ≡ length c.args.first.now) × (c.size_of-f.result ≡ length c.args.second.now) =
    let n = c.count_at-n.ensures.0 in
    let m = c.count_at-m.ensures.0 in
    (c.size_of-e.ensures ∙ ap size_of n ∙ sym (size _ c.requires.accepted), c.size_of-f.ensures ∙ ap size_of m ∙ sym (size _ c.requires.accepted_2)) in
    let o = one_over c.loop-a.a c.size_of-e.result c.loop-a.b c.size_of-f.result c.loop-a-test.false in
    both_over c.loop-a.invariant refl refl refl (rw (ends.0, ends.1) at o)
