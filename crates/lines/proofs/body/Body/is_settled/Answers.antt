use mathlib.Core.Path.{◌≡◌, sym, ◌∙◌}
use Prim.Native.Nat.{◌-◌}
use native.Mathlib.Omega.{arith}
use lib.ListN.{length}
use Rattle.row.specs.Meaning.{most_columns}
use borrow.Author.Rules.{rules}
use Rattle.lines.proofs.Settling.{tells_refused, tells_shut, tells_open}
use Rattle.lines.proofs.body.Body.is_settled.Goals as goal

pub returns-then-sheet : goal.returns-then-sheet
returns-then-sheet c = let s = c.args.self in tells_refused s c.if-sheet.true

pub returns-then-not-is_begun : goal.returns-then-not-is_begun
returns-then-not-is_begun c =
    let s = c.args.self in
    tells_shut s c.if-sheet.false (sym c.is_begun.ensures ∙ c.if-not-is_begun.true)

pub returns : goal.returns
returns c =
    let s = c.args.self in
    let long : length s.row.ended ≡ most_columns - 1 = search rules in
    let begun = sym c.is_begun.ensures ∙ c.if-not-is_begun.false in
    let t = c.takes.result in
    tells_open s c.if-sheet.false begun c.best.result t (omega (arith, long)) c.best.ensures c.takes.ensures
