use mathlib.Core.Path.{◌≡◌, sym, ◌∙◌, ap}
use mathlib.Core.Bool.{true}
use Prim.Native.Nat.{◌<◌}
use native.Mathlib.Omega.{arith}
use lib.ListN.{length}
use Rattle.call.specs.Layout.{call_at}
use Rattle.join.proofs.Books.{few, size}
use Rattle.join.proofs.Taken.{lies}
use Rattle.tabs.specs.Inner.{is_of, tally_more}
use Rattle.tabs.proofs.Walking.{is_next, few_left, next_state, roomy, tallied_next, all_tallied}
use Rattle.tabs.proofs.walk.tally_from.Goals as goal

pub state_at-requires : goal.state_at-requires
state_at-requires c =
    let next : let s = c.args in is_of s.b.now c.loop-t.a s.member ≡ true =
    sym c.is_of.ensures ∙ c.loop-t-test.true in
    let there : c.loop-t.a < length c.args.b.now =
    (is_next _ _ _ next).0 in
    (lies c.loop-t.invariant.coming.read there).long

pub more-t-requires : goal.more-t-requires
more-t-requires c =
    let next : let s = c.args in is_of s.b.now c.loop-t.a s.member ≡ true =
    sym c.is_of.ensures ∙ c.loop-t-test.true in
    let there : c.loop-t.a < length c.args.b.now =
    (is_next _ _ _ next).0 in
    record { roomy = roomy (few_left c.requires) c.loop-t.invariant; state_bound = rw c.state_at.ensures (next_state c.loop-t.invariant.coming there) }

pub overflow_add-a : goal.overflow_add-a
overflow_add-a c =
    let next : let s = c.args in is_of s.b.now c.loop-t.a s.member ≡ true =
    sym c.is_of.ensures ∙ c.loop-t-test.true in
    let there : c.loop-t.a < length c.args.b.now =
    (is_next _ _ _ next).0 in
    let r = c.loop-t.invariant.coming.read in
    omega (arith, there, size _ r.accepted, few _ r.accepted)

pub loop-t-smaller : goal.loop-t-smaller
loop-t-smaller c =
    let next : let s = c.args in is_of s.b.now c.loop-t.a s.member ≡ true =
    sym c.is_of.ensures ∙ c.loop-t-test.true in
    let there : c.loop-t.a < length c.args.b.now =
    (is_next _ _ _ next).0 in
    omega (arith, there)

pub loop-t-preserved : goal.loop-t-preserved
loop-t-preserved c =
    let next : let s = c.args in is_of s.b.now c.loop-t.a s.member ≡ true =
    sym c.is_of.ensures ∙ c.loop-t-test.true in
    let t : c.more-t.result ≡ tally_more c.loop-t.t (call_at c.args.b.now c.loop-t.a).state =
    c.more-t.ensures ∙ ap (tally_more c.loop-t.t) c.state_at.ensures in
    rw t (tallied_next (few_left c.requires) c.loop-t.invariant next)

pub returns : goal.returns
returns c =
    all_tallied (few_left c.requires) c.loop-t.invariant (sym c.is_of.ensures ∙ c.loop-t-test.false)
