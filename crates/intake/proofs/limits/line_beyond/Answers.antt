use mathlib.Core.Path.{sym, ap, ◌∙◌}
use Prim.Native.Nat.{ℕ, ◌+◌}
use native.Mathlib.Omega.{arith}
use Rattle.intake.proofs.Walks.{at_head, at_row, at_gap, at_user, at_none}
use Rattle.intake.proofs.limits.line_beyond.Goals as goal

pub returns-then-not-head_is_within : goal.returns-then-not-head_is_within
returns-then-not-head_is_within c = at_head c.args.s (sym c.head_is_within.ensures ∙ c.if-not-head_is_within.true)

pub returns-then-bad-count : goal.returns-then-bad-count
returns-then-bad-count c =
    let b = c.first_beyond-bad.ensures in
    let head = sym c.head_is_within.ensures ∙ c.if-not-head_is_within.false in
    ap (λ (n : ℕ). 1 + n) b ∙ at_row c.args.s head (omega (arith, b, c.if-bad-count.true))

pub returns-then-not-gap_is_within : goal.returns-then-not-gap_is_within
returns-then-not-gap_is_within c =
    let b = c.first_beyond-bad.ensures in
    let head = sym c.head_is_within.ensures ∙ c.if-not-head_is_within.false in
    at_gap c.args.s head (omega (arith, b, c.if-bad-count.false)) (sym
    c.gap_is_within.ensures ∙ c.if-not-gap_is_within.true)

pub returns-then-not-is_within : goal.returns-then-not-is_within
returns-then-not-is_within c =
    let b = c.first_beyond-bad.ensures in
    let head = sym c.head_is_within.ensures ∙ c.if-not-head_is_within.false in
    let gap = sym c.gap_is_within.ensures ∙ c.if-not-gap_is_within.false in
    at_user c.args.s head
    (omega (arith, b, c.if-bad-count.false)) gap (sym c.is_within.ensures ∙ c.if-not-is_within.true)

pub returns : goal.returns
returns c =
    let b = c.first_beyond-bad.ensures in
    let head = sym c.head_is_within.ensures ∙ c.if-not-head_is_within.false in
    let gap = sym c.gap_is_within.ensures ∙ c.if-not-gap_is_within.false in
    at_none c.args.s head
    (omega (arith, b, c.if-bad-count.false)) gap (sym c.is_within.ensures ∙ c.if-not-is_within.false)
