use mathlib.Core.Path.{refl, ◌∙◌, ap, ap₂}
use Prim.Native.Nat.{ℕ, ◌<◌}
use native.Mathlib.Omega.{arith}
use Rattle.call.specs.Layout.{call_at}
use Rattle.book.specs.Book.{count_at, record_at}
use Rattle.rule.specs.declared.Decision.{Decision}
use Rattle.rule.specs.Standing.{decide}
use Rattle.lookup.specs.Lookup.{stands_at, choose}
use Rattle.lookup.proofs.Places.{in_word, fits}
use Rattle.lookup.proofs.choose.Goals as goal

pub place_of-requires : goal.place_of-requires
place_of-requires c =
    let in_first : c.in-Some-Some.p < count_at c.args.first.now =
    rw c.in-Some-Some.is-0 at c.requires.has_index in
    in_word _ (fits _ _ c.requires.accepted in_first).0

pub place_of-requires-in-Some-Some : goal.place_of-requires-in-Some-Some
place_of-requires-in-Some-Some c =
    let in_second : c.in-Some-Some.q < count_at c.args.second.now =
    rw c.in-Some-Some.is-1 at c.requires.has_index_2 in
    in_word _ (fits _ _ c.requires.accepted_2 in_second).0

pub decide_at-requires : goal.decide_at-requires
decide_at-requires c =
    let in_first : c.in-Some-Some.p < count_at c.args.first.now =
    rw c.in-Some-Some.is-0 at c.requires.has_index in
    let in_second : c.in-Some-Some.q < count_at c.args.second.now =
    rw c.in-Some-Some.is-1 at c.requires.has_index_2 in
    record {
      record_size_in_bounds = omega (arith, fits _ c.in-Some-Some.p c.requires.accepted in_first, c.place_of.ensures);
      record_size_in_bounds_2 = omega (arith, fits _ c.in-Some-Some.q c.requires.accepted_2 in_second, c.place_of-in-Some-Some.ensures);
    }

pub returns-in-None-None : goal.returns-in-None-None
unfolding choose
returns-in-None-None c = rw (c.in-None-None.is-0, c.in-None-None.is-1) refl

pub returns-in-None-Some : goal.returns-in-None-Some
unfolding choose
returns-in-None-Some c = rw (c.in-None-Some.is-0, c.in-None-Some.is-1) refl

pub returns-in-Some-None : goal.returns-in-Some-None
unfolding choose
returns-in-Some-None c = rw (c.in-Some-None.is-0, c.in-Some-None.is-1) refl

pub returns-in-Some-Some : goal.returns-in-Some-Some
unfolding choose record_at
returns-in-Some-Some c =
    let s = c.args in
    rw (c.in-Some-Some.is-0, c.in-Some-Some.is-1)
    (c.stands_at.ensures
    ∙ ap (λ (d : Decision). stands_at d c.in-Some-Some.p c.in-Some-Some.q)
    (c.decide_at.ensures
    ∙ ap₂ (λ (x y : ℕ). decide (call_at s.first.now x) (call_at s.second.now y)) c.place_of.ensures c.place_of-in-Some-Some.ensures))
