use mathlib.Core.Path.{sym, ◌∙◌}
use Rattle.book.specs.Book.{calls_of}
use Rattle.call.specs.Layout.{call_at}
use Rattle.join.proofs.Taken.{lies}
use Rattle.tabs.proofs.Seeking.{is_same, Known, is_known_lem, stands_first, stands_second, stands_struck}
use Rattle.tabs.proofs.Bringing.{stays, movable, moves}
use Rattle.tabs.proofs.forward.count_live.Goals as goal

pub decide_at-requires : goal.decide_at-requires
decide_at-requires c =
    let g = c.requires.facing in
    record { record_size_in_bounds = (lies g.in_first (is_same _ _ _ c.requires.b_value).0).long; record_size_in_bounds_2 = (lies g.in_second g.there).long }

pub move_one-requires : goal.move_one-requires
move_one-requires c =
    let known : Known (calls_of c.args.first.now) (call_at c.args.first.now c.args.a) (call_at c.args.second.now c.args.b) =
    is_known_lem c.requires.facing c.requires.b_value in
    let m = movable known c.requires.member_value (sym c.requires.a_value) (stands_struck _ _ (sym c.decide_at.ensures ∙ c.in-Struck.is))
    c.requires.able in
    record { page_size_in_bounds = m.0; counted = m.1.0; counted_2 = m.1.1.0; bound = m.1.1.1.0; to_bound = m.1.1.1.1 }

pub returns-in-First : goal.returns-in-First
returns-in-First c =
    let known : Known (calls_of c.args.first.now) (call_at c.args.first.now c.args.a) (call_at c.args.second.now c.args.b) =
    is_known_lem c.requires.facing c.requires.b_value in
    stays known (stands_first _ _ (sym c.decide_at.ensures ∙ c.in-First.is))

pub returns-in-Second : goal.returns-in-Second
returns-in-Second c =
    let known : Known (calls_of c.args.first.now) (call_at c.args.first.now c.args.a) (call_at c.args.second.now c.args.b) =
    is_known_lem c.requires.facing c.requires.b_value in
    stays known (c.requires.a_value ∙ sym c.requires.b_value_2 ∙ stands_second _ _ (sym c.decide_at.ensures ∙ c.in-Second.is))

pub returns-in-Struck : goal.returns-in-Struck
returns-in-Struck c =
    let known : Known (calls_of c.args.first.now) (call_at c.args.first.now c.args.a) (call_at c.args.second.now c.args.b) =
    is_known_lem c.requires.facing c.requires.b_value in
    moves known c.requires.member_value (sym c.requires.a_value) (stands_struck _ _ (sym c.decide_at.ensures ∙ c.in-Struck.is))
    c.move_one.ensures
