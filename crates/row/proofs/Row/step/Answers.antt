use mathlib.Core.Path.{sym, subst, ◌∙◌}
use Prim.Native.Nat.{ℕ}
use Rattle.row.specs.Meaning.{RowFollows}
use Rattle.row.proofs.Rows.{by_spoiling, by_digit, foreign}
use Rattle.row.proofs.Row.step.Goals as goal

pub returns-then-b-separator : goal.returns-then-b-separator
returns-then-b-separator c =
    let a = c.args in
    subst (λ (b : ℕ). RowFollows a.separator a.last a.self b c.parted.result) (sym c.if-b-separator.true) (c.parted.ensures a.separator)

pub returns-then-not-is_digit : goal.returns-then-not-is_digit
returns-then-not-is_digit c =
    let a = c.args in
    let no = sym c.is_digit.ensures ∙ c.if-not-is_digit.true in
    by_spoiling a.separator a.last a.self c.spoilt.result a.b c.spoilt.ensures
    (foreign a.separator a.last a.self a.b c.if-b-separator.false no)

pub returns : goal.returns
returns c =
    let a = c.args in
    let yes = sym c.is_digit.ensures ∙ c.if-not-is_digit.false in
    by_digit a.separator a.last a.self a.b c.grown.result c.if-b-separator.false yes c.grown.ensures
