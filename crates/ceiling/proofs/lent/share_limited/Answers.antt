use mathlib.Core.Path.{◌≡◌, ap, ◌∙◌}
use mathlib.Core.List.{◌++◌}
use Prim.Native.Nat.{ℕ, ◌≤◌}
use native.Mathlib.Omega.{arith}
use lib.ListN.{length, take, drop}
use lib.Seq.{take_at}
use Rattle.ceiling.specs.Ceiling.{first_bad_limited, ceiling_refused}
use Rattle.ceiling.proofs.Turns.{bad_few}
use Rattle.ceiling.proofs.Refusals.{on_part, on_10}
use Rattle.ceiling.proofs.PastFirst.{first_refused, first_small, long_shared, finished, refused_as}
use Rattle.ceiling.proofs.lent.share_limited.Goals as goal

pub returns-then-part-gt-MOST_PART : goal.returns-then-part-gt-MOST_PART
returns-then-part-gt-MOST_PART c = refused_as c.args.part c.args.lines.now _ _ c.refused.result c.refused.ensures (on_part c.args.part c.args.lines.now c.if-part-gt-MOST_PART.true)

pub returns-then-bad-count : goal.returns-then-bad-count
returns-then-bad-count c =
    let bad = c.first_bad_limited-bad.ensures in
    refused_as c.args.part c.args.lines.now _ _ c.refused-then-bad-count.result c.refused-then-bad-count.ensures
    (ap (λ (p : ℕ). ceiling_refused 10 p) bad ∙ on_10 c.args.part c.args.lines.now c.if-part-gt-MOST_PART.false (omega (arith, bad, c.if-bad-count.true)))

pub plain_lines-shared-requires : goal.plain_lines-shared-requires
plain_lines-shared-requires c = omega (arith, c.first_bad_limited-bad.ensures, bad_few c.args.lines.now, c.if-bad-count.false)

pub returns-then-first-ne0 : goal.returns-then-first-ne0
returns-then-first-ne0 c =
    let ls = c.args.lines.now in
    let lent = rw c.plain_lines-shared.ensures at c.share_lines-first.ensures in
    let sound : length ls ≤ first_bad_limited 0 ls = omega (arith, c.first_bad_limited-bad.ensures, c.if-bad-count.false) in
    refused_as c.args.part ls _ _ c.refused-then-first-ne0.result c.refused-then-first-ne0.ensures
    (first_refused c.args.part ls c.share_lines-first.new.lines c.share_lines-first.result lent c.if-part-gt-MOST_PART.false sound c.if-first-ne0.true)

pub second_sharing-requires : goal.second_sharing-requires
second_sharing-requires c =
    let ls = c.args.lines.now in
    let n = length ls in
    let new = c.share_lines-first.new.lines in
    let first = c.share_lines-first.result in
    let lent = rw c.plain_lines-shared.ensures at c.share_lines-first.ensures in
    let long = long_shared c.args.part ls new first lent in
    let same : take n (new ++ drop n c.plain_lines-shared.result) ≡ new = take_at new (drop n c.plain_lines-shared.result) n long in
    record {
      few = omega (arith, c.first_bad_limited-bad.ensures, bad_few ls, c.if-bad-count.false);
      each_shared = rw same long;
      small = rw same (first_small c.args.part ls new first lent c.if-first-ne0.false);
    }

pub returns : goal.returns
returns c =
    let ls = c.args.lines.now in
    let n = length ls in
    let new = c.share_lines-first.new.lines in
    let first = c.share_lines-first.result in
    let lent = rw c.plain_lines-shared.ensures at c.share_lines-first.ensures in
    let same : take n (new ++ drop n c.plain_lines-shared.result) ≡ new = take_at new (drop n c.plain_lines-shared.result) n (long_shared c.args.part ls new first lent) in
    let sound : length ls ≤ first_bad_limited 0 ls = omega (arith, c.first_bad_limited-bad.ensures, c.if-bad-count.false) in
    finished c.args.part ls new first lent c.if-first-ne0.false c.if-part-gt-MOST_PART.false sound (rw same at c.second_sharing.ensures)
