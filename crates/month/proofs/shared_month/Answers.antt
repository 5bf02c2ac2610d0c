use mathlib.Core.Path.{◌≡◌, ◌∙◌}
use lib.ListN.{length}
use Rattle.month.proofs.Settled.{shared_refused, shared-within, shared_is}
use borrow.Author.Rules.{rules}
use Rattle.month.proofs.shared_month.Goals as goal

pub returns-then-number-ne0 : goal.returns-then-number-ne0
returns-then-number-ne0 c =
    let a = c.args in
    let long : length a.lines ≡ 64 = search rules in
    let s = c.ceiled_array-shared in
    c.month_refused.ensures
    ∙ shared_refused a.part a.book.now a.lines a.grains a.ramped a.count c.requires.count_le_most_entries long s.result s.ensures c.if-number-ne0.true

pub filled_rows-rows-requires : goal.filled_rows-rows-requires
filled_rows-rows-requires c =
    let a = c.args in
    let long : length a.lines ≡ 64 = search rules in
    let s = c.ceiled_array-shared in
    shared-within a.part a.book.now a.lines a.grains a.ramped a.count c.requires.count_le_most_entries long
    s.result s.ensures c.if-number-ne0.false

pub returns : goal.returns
returns c =
    let a = c.args in
    let long : length a.lines ≡ 64 = search rules in
    let s = c.ceiled_array-shared in
    shared_is a.part a.book.now a.lines a.grains a.ramped a.count c.requires.count_le_most_entries long
    s.result s.ensures c.if-number-ne0.false
    _ _ _ _ c.header_at-header.ensures c.count_at-calls.ensures.0 c.is_below-negative.ensures c.filled_rows-rows.ensures
