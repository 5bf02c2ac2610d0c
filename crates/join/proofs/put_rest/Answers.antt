use mathlib.Core.Path.{◌≡◌, sym, ◌∙◌, ap}
use native.Mathlib.Omega.{arith}
use lib.ListN.{length}
use Rattle.book.specs.Book.{size_of}
use Rattle.join.proofs.Books.{long, size}
use Rattle.join.proofs.Taken.{rest_none, rest_room, rest_more, rest_all}
use Rattle.join.proofs.put_rest.Goals as goal

pub count_at-requires : goal.count_at-requires
count_at-requires c = long _ c.requires.read_to.accepted

pub loop-a-init : goal.loop-a-init
loop-a-init c = rest_none c.requires.read_to _ _ c.requires.from_in_bounds

pub put_last-turns-requires : goal.put_last-turns-requires
put_last-turns-requires c =
    let end : c.size_of-e.result ≡ length c.args.s.now =
    c.size_of-e.ensures ∙ ap size_of c.count_at.ensures.0 ∙ sym (size _ c.requires.read_to.accepted) in
    record {
      read_to = c.loop-a.invariant.read;
      a_in_bounds = omega (arith, end);
      record_size_in_bounds = rest_room c.loop-a.invariant (omega (arith, end));
    }

pub loop-a-preserved : goal.loop-a-preserved
loop-a-preserved c =
    let end : c.size_of-e.result ≡ length c.args.s.now =
    c.size_of-e.ensures ∙ ap size_of c.count_at.ensures.0 ∙ sym (size _ c.requires.read_to.accepted) in
    rest_more c.loop-a.invariant (omega (arith, end)) c.put_last-turns.ensures

pub returns : goal.returns
returns c =
    let end : c.size_of-e.result ≡ length c.args.s.now =
    c.size_of-e.ensures ∙ ap size_of c.count_at.ensures.0 ∙ sym (size _ c.requires.read_to.accepted) in
    rest_all c.loop-a.invariant (omega (arith, end))
