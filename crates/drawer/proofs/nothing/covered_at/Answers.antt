use mathlib.Core.Path.{◌∙◌, ap₂}
use Prim.Native.Nat.{ℕ, ◌<◌}
use native.Mathlib.Omega.{arith}
use Rattle.call.specs.Layout.{call_at}
use Rattle.book.specs.Book.{count_at, record_at}
use Rattle.rule.specs.Standing.{decide}
use Rattle.lookup.proofs.Places.{in_word, fits}
use Rattle.drawer.proofs.Listing.{index_in}
use Rattle.drawer.proofs.Covering.{covered_missing, covered_found}
use Rattle.drawer.proofs.nothing.covered_at.Goals as goal

pub record_at-x-requires : goal.record_at-x-requires
record_at-x-requires c = (fits _ c.args.i c.requires.accepted_2 c.requires.i_bound).1

pub place_of-requires : goal.place_of-requires
place_of-requires c =
    let in_others : c.in-Some.j < count_at c.args.others.now =
    let r = c.index_of in index_in _ _ r.result r.ensures c.in-Some.j c.in-Some.is in
    in_word _ (fits _ _ c.requires.accepted in_others).0

pub place_of-requires-in-Some : goal.place_of-requires-in-Some
place_of-requires-in-Some c = in_word _ (fits _ c.args.i c.requires.accepted_2 c.requires.i_bound).0

pub decide_at-requires : goal.decide_at-requires
decide_at-requires c =
    let in_others : c.in-Some.j < count_at c.args.others.now =
    let r = c.index_of in index_in _ _ r.result r.ensures c.in-Some.j c.in-Some.is in
    record {
      record_size_in_bounds = omega (arith, fits _ c.in-Some.j c.requires.accepted in_others, c.place_of.ensures);
      record_size_in_bounds_2 = omega
          (arith, fits _ c.args.i c.requires.accepted_2 c.requires.i_bound, c.place_of-in-Some.ensures);
    }

pub returns-in-None : goal.returns-in-None
returns-in-None c =
    let x = c.record_at-x in
    let k = c.key in
    let r = c.index_of in
    covered_missing _ x.result _ x.ensures k.result k.ensures r.result r.ensures c.in-None.is

pub returns-in-Some : goal.returns-in-Some
unfolding record_at
returns-in-Some c =
    let a = c.args in
    let x = c.record_at-x in
    let k = c.key in
    let r = c.index_of in
    let d = c.decide_at in
    let of_both = ap₂ (λ (p q : ℕ). decide (call_at a.others.now p) (call_at a.book.now q)) c.place_of.ensures c.place_of-in-Some.ensures in
    let covered = covered_found _ x.result _ x.ensures k.result k.ensures r.result r.ensures c.in-Some.j c.in-Some.is d.result in
    c.is_first.ensures ∙ covered (d.ensures ∙ of_both)
