use mathlib.Core.Path.{refl, sym, ◌∙◌, ap}
use mathlib.Core.Bool.{not}
use Rattle.lookup.proofs.Places.{fits}
use Rattle.drawer.specs.Stale.{why_not}
use Rattle.drawer.proofs.Listing.{index_in, turn_missing, turn_found, turn_listed, turn_passed}
use Rattle.drawer.proofs.stale.stale_turn.Goals as goal

pub record_at-x-requires : goal.record_at-x-requires
record_at-x-requires c = (fits _ c.args.i c.requires.accepted c.requires.i_bound).1

pub record_at-y-requires : goal.record_at-y-requires
record_at-y-requires c =
    let r = c.index_of-stands in
    (fits _ c.in-Some.j c.requires.accepted_2 (index_in _ _ r.result r.ensures c.in-Some.j c.in-Some.is)).1

pub returns-in-None : goal.returns-in-None
returns-in-None c =
    let x = c.record_at-x in
    let k = c.key in
    let r = c.index_of-stands in
    let told = turn_missing _ _ c.args.i x.result x.ensures k.result k.ensures r.result r.ensures c.in-None.is in
    turn_listed _ _ c.args.i _ told.0 told.1

pub returns-then-same_call : goal.returns-then-same_call
returns-then-same_call c =
    let y = c.record_at-y in
    let s = c.same_call in
    let r = c.index_of-stands in
    let k = c.key in
    let x = c.record_at-x in
    let told = turn_found _ _ c.args.i x.result x.ensures k.result k.ensures r.result r.ensures
    c.in-Some.j c.in-Some.is y.result y.ensures s.result s.ensures (why_not y.result x.result) refl in
    turn_passed _ _ c.args.i (sym (ap not c.if-same_call.true) ∙ told.0)

pub returns-else-same_call : goal.returns-else-same_call
returns-else-same_call c =
    let y = c.record_at-y in
    let s = c.same_call in
    let r = c.index_of-stands in
    let k = c.key in
    let x = c.record_at-x in
    let told = turn_found _ _ c.args.i x.result x.ensures k.result k.ensures r.result r.ensures
    c.in-Some.j c.in-Some.is y.result y.ensures s.result s.ensures c.why_not-why.result c.why_not-why.ensures in
    turn_listed _ _ c.args.i _ (sym (ap not c.if-same_call.false) ∙ told.0) told.1
