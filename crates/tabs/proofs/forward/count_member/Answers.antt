use mathlib.Core.Path.{◌≡◌, sym, ◌∙◌}
use mathlib.Core.Bool.{true}
use Prim.Native.Nat.{◌<◌, ◌≤◌}
use native.Mathlib.Omega.{arith}
use lib.ListN.{length}
use Rattle.le.specs.Le.{IsBytes}
use Rattle.call.specs.Services.{most_participant}
use Rattle.join.proofs.Books.{few, size}
use Rattle.tabs.specs.Inner.{is_of}
use Rattle.tabs.proofs.Walking.{is_next}
use Rattle.tabs.proofs.Bringing.{call_within, faces, able, member-next, run-given, same-given, member_starts, member_over}
use Rattle.tabs.proofs.Brought.{given_long}
use Rattle.join.proofs.Taken.{lies}
use Rattle.tabs.proofs.forward.count_member.Goals as goal

pub run_on-run-requires : goal.run_on-run-requires
unfolding IsBytes
run_on-run-requires c =
    let member : (1 ≤ c.participant_at-member.result) × (c.participant_at-member.result ≤ most_participant) =
    rw c.participant_at-member.ensures
    (call_within (λ i. omega (arith, c.type_inv.second i)) c.requires.midway.in_second c.requires.from_in_bounds).participant in
    let m = member in record { le_member = m.0; member_le_most_participant = m.1; page_size_in_bounds = given_long _ _ c.requires.first_value }

pub loop-page-init : goal.loop-page-init
unfolding IsBytes
loop-page-init c =
    let member : (1 ≤ c.participant_at-member.result) × (c.participant_at-member.result ≤ most_participant) =
    rw c.participant_at-member.ensures
    (call_within (λ i. omega (arith, c.type_inv.second i)) c.requires.midway.in_second c.requires.from_in_bounds).participant in
    let m = member in
    let small : IsBytes c.args.first.now = λ i. omega (arith, c.type_inv.first i) in
    member_starts c.requires.midway
    (run-given _ _ small c.requires.accepted c.requires.first_value m.0 m.1 c.run_on-run.ensures)
    (same-given _ _ small c.requires.accepted c.requires.first_value m.0 m.1 c.run_on-run.ensures)

pub count_one-a-requires : goal.count_one-a-requires
unfolding IsBytes
count_one-a-requires c =
    let next : is_of c.args.second.now c.loop-page.b c.participant_at-member.result ≡ true =
    sym c.is_of.ensures ∙ c.loop-page-test.true in
    let second : IsBytes c.args.second.now =
    λ i. omega (arith, c.type_inv.second i) in
    let g = c.loop-page.invariant in
    record { meeting = faces g second next; able = able g second next }

pub overflow_add-b : goal.overflow_add-b
overflow_add-b c =
    let next : is_of c.args.second.now c.loop-page.b c.participant_at-member.result ≡ true =
    sym c.is_of.ensures ∙ c.loop-page-test.true in
    let there : c.loop-page.b < length c.args.second.now =
    (is_next _ _ _ next).0 in
    let r = c.loop-page.invariant.midway.in_second in
    omega (arith, there, size _ r.accepted, few _ r.accepted)

pub loop-page-smaller : goal.loop-page-smaller
loop-page-smaller c =
    let next : is_of c.args.second.now c.loop-page.b c.participant_at-member.result ≡ true =
    sym c.is_of.ensures ∙ c.loop-page-test.true in
    let there : c.loop-page.b < length c.args.second.now =
    (is_next _ _ _ next).0 in
    omega (arith, there)

pub loop-page-preserved : goal.loop-page-preserved
unfolding IsBytes
loop-page-preserved c =
    let next : is_of c.args.second.now c.loop-page.b c.participant_at-member.result ≡ true =
    sym c.is_of.ensures ∙ c.loop-page-test.true in
    let second : IsBytes c.args.second.now =
    λ i. omega (arith, c.type_inv.second i) in
    member-next c.loop-page.invariant second next c.count_one-a.ensures.passed c.count_one-a.ensures.recounted

pub returns : goal.returns
returns c =
    let g = c.loop-page.invariant in
    let from = c.requires.from_in_bounds in
    let further = member_over g from (sym c.participant_at-member.ensures) (sym c.is_of.ensures ∙ c.loop-page-test.false) in
    record { midway_2 = g.midway; lower_bound = further; page_unchanged = g.behind; page_len_unchanged = g.long }

pub participant_at-member-requires : goal.participant_at-member-requires
participant_at-member-requires c = (lies c.requires.midway.in_second c.requires.from_in_bounds).long
