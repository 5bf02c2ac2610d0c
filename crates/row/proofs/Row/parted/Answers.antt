use mathlib.Core.Path.{◌≡◌}
use Prim.Native.Nat.{◌-◌, ◌<◌}
use native.Mathlib.Omega.{arith}
use lib.ListN.{length}
use Rattle.row.specs.Meaning.{most_columns}
use Rattle.row.proofs.Rows.{by_spoiling, parted_early, parted_late, by_separator}
use borrow.Author.Rules.{rules}
use Rattle.row.proofs.Row.parted.Goals as goal

pub returns-then-not-self : goal.returns-then-not-self
returns-then-not-self c =
    let a = c.args in
    λ separator. by_spoiling separator a.last a.self c.spoilt.result separator c.spoilt.ensures
    (parted_early separator a.last a.self c.if-not-self.true)

pub returns-then-last-at : goal.returns-then-last-at
returns-then-last-at c =
    let a = c.args in
    λ separator. by_spoiling separator a.last a.self c.spoilt-then-last-at.result separator c.spoilt-then-last-at.ensures (parted_late separator a.last a.self c.if-last-at.true)

pub returns : goal.returns
returns c =
    let row = c.args.self in
    let long : length row.ended ≡ most_columns - 1 = search rules in
    let room : row.at < length row.ended = omega (arith, c.requires, c.if-last-at.false) in
    by_separator c.args.last row c.if-not-self.false room c.hold.result c.hold.ensures
