use mathlib.Core.Path.{◌≡◌, sym, ap, ◌∙◌}
use mathlib.Core.List.{List}
use Prim.Native.Nat.{ℕ}
use native.Mathlib.Omega.{arith}
use lib.ListN.{length, take}
use lib.Seq.{take_all}
use Rattle.share.specs.declared.Line.{Line}
use Rattle.share.specs.Sharing.{SharingOutcome, first_bad_line, sharing_refused}
use Rattle.share.specs.Forms.{array_of, shared_array}
use Rattle.share.specs.Inner.{lend_front}
use Rattle.share.proofs.Cases.{bad_of_64, turn_part, turn_10}
use Rattle.share.proofs.TwoForms.{front_as_array}
use borrow.Author.Rules.{rules}
use Rattle.share.proofs.share.Goals as goal

pub returns-then-count-le64 : goal.returns-then-count-le64
returns-then-count-le64 c =
    let a = c.args in
    let long : length a.lines ≡ 64 = search rules in
    c.lend_front.ensures ∙ ap (λ (ls : List Line). lend_front a.part ls a.count) c.clear.ensures
    ∙ front_as_array a.part a.lines a.count (omega (arith, long, c.if-count-le64.true))

pub returns-then-part-gt-MOST_PART : goal.returns-then-part-gt-MOST_PART
unfolding shared_array
returns-then-part-gt-MOST_PART c =
    let ls = take c.args.count c.args.lines in
    c.refuse.ensures ∙ ap (λ (x : SharingOutcome). array_of c.args.lines x)
    (turn_part c.args.part (first_bad_line 0 ls) c.args.count ls c.if-part-gt-MOST_PART.true)

pub returns : goal.returns
unfolding shared_array
returns c =
    let a = c.args in
    let long : length a.lines ≡ 64 = search rules in
    let t : take a.count a.lines ≡ a.lines = take_all a.count a.lines (omega (arith, long, c.if-count-le64.false)) in
    let e = c.first_bad_line-bad.ensures ∙ ap (first_bad_line 0) (sym t) in
    let few = (bad_of_64 a.lines).1 in
    c.refuse-2.ensures ∙ ap (λ (x : SharingOutcome). array_of a.lines x)
    (ap (λ (p : ℕ). sharing_refused 10 p) e
    ∙ turn_10 a.part (first_bad_line 0 (take a.count a.lines)) a.count (take a.count a.lines) c.if-part-gt-MOST_PART.false (omega (arith, e, c.first_bad_line-bad.ensures, few))
    (omega (arith, e, c.first_bad_line-bad.ensures, few, c.if-count-le64.false)))
