use mathlib.Core.Path.{◌≡◌, sym, ◌∙◌}
use Prim.Native.Nat.{◌+◌, ◌≤◌}
use lib.ListN.{length}
use Rattle.book.specs.Book.{calls_of}
use Rattle.call.specs.Revising.{contested}
use Rattle.call.specs.Layout.{call_at}
use Rattle.rule.specs.Standing.{standing}
use Rattle.join.proofs.Taken.{lies}
use Rattle.tabs.proofs.Seeking.{is_same, Known, is_known_lem, stands_first, stands_second, stands_struck}
use Rattle.tabs.proofs.Bringing.{stays, movable, moves}
use Rattle.tabs.proofs.forward.count_other.Goals as goal

pub decide_at-requires : goal.decide_at-requires
decide_at-requires c =
    let in_first : c.args.a + 32 ≤ length c.args.first.now =
    (lies c.requires.facing.in_first (is_same _ _ _ c.requires.b_value).0).long in
    let in_second : c.args.b + 32 ≤ length c.args.second.now =
    let g = c.requires.facing in (lies g.in_second g.there).long in
    record { record_size_in_bounds = in_first; record_size_in_bounds_2 = in_second }

pub move_one-requires : goal.move_one-requires
move_one-requires c =
    let known : Known (calls_of c.args.first.now) (call_at c.args.first.now c.args.a) (call_at c.args.second.now c.args.b) =
    is_known_lem c.requires.facing c.requires.b_value in
    let second : (call_at c.args.second.now c.args.b).state ≡ (standing (call_at c.args.first.now c.args.a) (call_at c.args.second.now c.args.b)).state =
    stands_second _ _ (sym c.decide_at.ensures ∙ c.in-Second.is) in
    let m = movable known c.requires.member_value c.state_at.ensures (c.state_at-in-Second.ensures ∙ second) c.requires.able in
    record { page_size_in_bounds = m.0; counted = m.1.0; counted_2 = m.1.1.0; bound = m.1.1.1.0; to_bound = m.1.1.1.1 }

pub move_one-requires-in-Struck : goal.move_one-requires-in-Struck
move_one-requires-in-Struck c =
    let known : Known (calls_of c.args.first.now) (call_at c.args.first.now c.args.a) (call_at c.args.second.now c.args.b) =
    is_known_lem c.requires.facing c.requires.b_value in
    let struck : contested ≡ (standing (call_at c.args.first.now c.args.a) (call_at c.args.second.now c.args.b)).state =
    stands_struck _ _ (sym c.decide_at.ensures ∙ c.in-Struck.is) in
    let m = movable known c.requires.member_value c.state_at-in-Struck.ensures struck c.requires.able in
    record { page_size_in_bounds = m.0; counted = m.1.0; counted_2 = m.1.1.0; bound = m.1.1.1.0; to_bound = m.1.1.1.1 }

pub returns-in-First : goal.returns-in-First
returns-in-First c =
    let known : Known (calls_of c.args.first.now) (call_at c.args.first.now c.args.a) (call_at c.args.second.now c.args.b) =
    is_known_lem c.requires.facing c.requires.b_value in
    stays known (stands_first _ _ (sym c.decide_at.ensures ∙ c.in-First.is))

pub returns-in-Second : goal.returns-in-Second
returns-in-Second c =
    let known : Known (calls_of c.args.first.now) (call_at c.args.first.now c.args.a) (call_at c.args.second.now c.args.b) =
    is_known_lem c.requires.facing c.requires.b_value in
    let second : (call_at c.args.second.now c.args.b).state ≡ (standing (call_at c.args.first.now c.args.a) (call_at c.args.second.now c.args.b)).state =
    stands_second _ _ (sym c.decide_at.ensures ∙ c.in-Second.is) in
    moves known c.requires.member_value c.state_at.ensures (c.state_at-in-Second.ensures ∙ second) c.move_one.ensures

pub returns-in-Struck : goal.returns-in-Struck
returns-in-Struck c =
    let known : Known (calls_of c.args.first.now) (call_at c.args.first.now c.args.a) (call_at c.args.second.now c.args.b) =
    is_known_lem c.requires.facing c.requires.b_value in
    let struck : contested ≡ (standing (call_at c.args.first.now c.args.a) (call_at c.args.second.now c.args.b)).state =
    stands_struck _ _ (sym c.decide_at.ensures ∙ c.in-Struck.is) in
    moves known c.requires.member_value c.state_at-in-Struck.ensures struck c.move_one-in-Struck.ensures

pub state_at-requires : goal.state_at-requires
state_at-requires c =
    let in_first : c.args.a + 32 ≤ length c.args.first.now =
    (lies c.requires.facing.in_first (is_same _ _ _ c.requires.b_value).0).long in
    in_first

pub state_at-requires-in-Second : goal.state_at-requires-in-Second
state_at-requires-in-Second c =
    let in_second : c.args.b + 32 ≤ length c.args.second.now =
    let g = c.requires.facing in (lies g.in_second g.there).long in
    in_second

pub state_at-requires-in-Struck : goal.state_at-requires-in-Struck
state_at-requires-in-Struck c =
    let in_first : c.args.a + 32 ≤ length c.args.first.now =
    (lies c.requires.facing.in_first (is_same _ _ _ c.requires.b_value).0).long in
    in_first
