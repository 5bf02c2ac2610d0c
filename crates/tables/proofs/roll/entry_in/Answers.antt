use mathlib.Core.Path.{◌∙◌}
use Prim.Native.Nat.{◌≤◌}
use lib.ListN.{length}
use Rattle.row.specs.Meaning.{most_columns}
use Rattle.tables.proofs.Entries.{entry_whole, entry_none}
use borrow.Author.Rules.{rules}
use Rattle.tables.proofs.roll.entry_in.Goals as goal

pub returns-then-grid-eq-LAST : goal.returns-then-grid-eq-LAST
returns-then-grid-eq-LAST c = let a = c.args in
    let room : most_columns ≤ length a.ended = search rules in
    c.typed.ensures ∙ entry_whole a.grid a.ended room c.told.result c.if-grid-eq-LAST.true c.told.ensures

pub returns : goal.returns
returns c = let a = c.args in
    let room : most_columns ≤ length a.ended = search rules in
    c.blank_entry.ensures ∙ entry_none a.grid a.ended room c.if-grid-eq-LAST.false
