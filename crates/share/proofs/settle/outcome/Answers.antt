use mathlib.Core.Path.{ap, ◌∙◌, subst}
use Prim.Native.Nat.{ℕ}
use native.Mathlib.Omega.{arith}
use Rattle.share.specs.Sharing.{SharingOutcome, sharing_refused}
use Rattle.share.specs.Inner.{Carries}
use Rattle.share.proofs.Bounds.{all_within}
use Rattle.share.proofs.Cases.{bad_of_64, sharing_part, sharing_10, sharing_on}
use Rattle.share.proofs.settle.outcome.Goals as goal

pub returns-then-part-gt-MOST_PART : goal.returns-then-part-gt-MOST_PART
returns-then-part-gt-MOST_PART c =
    let ls = c.args.lines.now in
    subst (λ (o : SharingOutcome). Carries ls o c.refusal.result) (sharing_part c.args.part ls c.if-part-gt-MOST_PART.true) (c.refusal.ensures ls)

pub returns-then-bad-lines : goal.returns-then-bad-lines
returns-then-bad-lines c =
    let ls = c.args.lines.now in
    subst (λ (o : SharingOutcome). Carries ls o c.refusal-then-bad-lines.result)
    (ap (λ (p : ℕ). sharing_refused 10 p) c.first_bad_line-bad.ensures
    ∙ sharing_10 c.args.part ls c.if-part-gt-MOST_PART.false (omega (arith, c.first_bad_line-bad.ensures)))
    (c.refusal-then-bad-lines.ensures ls)

pub settle-requires : goal.settle-requires
settle-requires c =
    let ls = c.args.lines.now in
    record {
      part_le_most_part = c.if-part-gt-MOST_PART.false;
      few = omega (arith, c.first_bad_line-bad.ensures, (bad_of_64 ls).1);
      lines_within = all_within 0 ls (omega (arith, c.first_bad_line-bad.ensures));
    }

pub returns : goal.returns
returns c =
    let ls = c.args.lines.now in
    subst (λ (o : SharingOutcome). Carries ls o c.settle.result)
    (sharing_on c.args.part ls c.if-part-gt-MOST_PART.false (omega (arith, c.first_bad_line-bad.ensures))) c.settle.ensures
