use mathlib.Core.Path.{◌≡◌, sym, ap, ◌∙◌}
use mathlib.Core.List.{List}
use Prim.Native.Nat.{ℕ}
use native.Mathlib.Omega.{arith}
use lib.ListN.{length, take}
use lib.Seq.{take_all}
use Rattle.ceiling.specs.declared.LimitedLine.{LimitedLine}
use Rattle.ceiling.specs.Ceiling.{first_bad_limited, ceiling_refused}
use Rattle.ceiling.specs.Forms.{ceiled_of, ceiled_array}
use Rattle.ceiling.specs.Inner.{lend_limited}
use Rattle.ceiling.proofs.Turns.{bad_few, turn_part, turn_10}
use Rattle.ceiling.proofs.TwoForms.{front_as_array}
use borrow.Author.Rules.{rules}
use Rattle.ceiling.proofs.ceiled_array.Goals as goal

pub returns-then-count-le64 : goal.returns-then-count-le64
returns-then-count-le64 c =
    let a = c.args in
    let long : length a.lines ≡ 64 = search rules in
    c.lend_limited.ensures ∙ ap (λ (ls : List LimitedLine). lend_limited a.part ls a.count) c.cleared_lines.ensures
    ∙ front_as_array a.part a.lines a.count (omega (arith, long, c.if-count-le64.true))

pub returns-then-part-gt-MOST_PART : goal.returns-then-part-gt-MOST_PART
unfolding ceiled_array
returns-then-part-gt-MOST_PART c =
    let ls = take c.args.count c.args.lines in
    c.refuse.ensures
    ∙ ap (ceiled_of c.args.lines) (turn_part c.args.part (first_bad_limited 0 ls) c.args.count ls c.if-part-gt-MOST_PART.true)

pub returns : goal.returns
unfolding ceiled_array
returns c =
    let a = c.args in
    let long : length a.lines ≡ 64 = search rules in
    let t : take a.count a.lines ≡ a.lines = take_all a.count a.lines (omega (arith, long, c.if-count-le64.false)) in
    let e = c.first_bad_limited-bad.ensures ∙ ap (first_bad_limited 0) (sym t) in
    let few = bad_few a.lines in
    c.refuse-2.ensures ∙ ap (ceiled_of a.lines)
    (ap (λ (p : ℕ). ceiling_refused 10 p) e
    ∙ turn_10 a.part (first_bad_limited 0 (take a.count a.lines)) a.count (take a.count a.lines) c.if-part-gt-MOST_PART.false (omega (arith, e, c.first_bad_limited-bad.ensures, few))
    (omega (arith, e, c.first_bad_limited-bad.ensures, few, c.if-count-le64.false)))
