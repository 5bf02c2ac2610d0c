use mathlib.Core.Path.{◌≡◌, sym, ◌∙◌}
use mathlib.Core.Bool.{false}
use Prim.Native.Nat.{◌+◌, ◌*◌, ◌≤◌}
use native.Mathlib.Omega.{arith}
use lib.ListN.{length}
use Rattle.join.proofs.Books.{few}
use Rattle.tabs.specs.Inner.{is_of}
use Rattle.tabs.proofs.Stretches.{too_many, read_on, more_follow, no_calls, last_own}
use Rattle.tabs.proofs.walk.has_run.Goals as goal

pub overflow_add-end : goal.overflow_add-end
overflow_add-end c =
    let r = c.requires.read in
    let p = r.place in
    let i = r.within in
    omega (arith, few _ r.accepted)

pub returns-then-b-end : goal.returns-then-b-end
returns-then-b-end c = too_many c.requires _ c.if-b-end.true

pub is_of-requires : goal.is_of-requires
is_of-requires c =
    let there : c.args.at + 32 * c.args.count ≤ length c.args.b.now =
    omega (arith, c.if-b-end.false) in
    read_on c.requires _ there

pub returns-then-is_of : goal.returns-then-is_of
returns-then-is_of c =
    let there : c.args.at + 32 * c.args.count ≤ length c.args.b.now =
    omega (arith, c.if-b-end.false) in
    more_follow c.requires _ there (sym c.is_of.ensures ∙ c.if-is_of.true)

pub returns-then-count-eq0 : goal.returns-then-count-eq0
returns-then-count-eq0 c =
    let there : c.args.at + 32 * c.args.count ≤ length c.args.b.now =
    omega (arith, c.if-b-end.false) in
    let none : is_of c.args.b.now (c.args.at + 32 * c.args.count) c.args.member ≡ false =
    sym c.is_of.ensures ∙ c.if-is_of.false in
    no_calls c.requires _ there none c.if-count-eq0.true

pub returns : goal.returns
returns c =
    let there : c.args.at + 32 * c.args.count ≤ length c.args.b.now =
    omega (arith, c.if-b-end.false) in
    let none : is_of c.args.b.now (c.args.at + 32 * c.args.count) c.args.member ≡ false =
    sym c.is_of.ensures ∙ c.if-is_of.false in
    let z = c.if-count-eq0.false in
    last_own c.requires _ there none (omega arith) c.participant_at.result c.participant_at.ensures
