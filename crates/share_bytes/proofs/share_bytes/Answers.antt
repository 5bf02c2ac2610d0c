use mathlib.Core.Path.{sym}
use native.Mathlib.Omega.{arith}
use lib.Dec.{lit<}
use lib.ListN.{length}
use Rattle.share_bytes.proofs.ByteCases.{bytes_1}
use Rattle.share_bytes.proofs.Rows.{not_shared, part_above, ten, none_bad, settled_bytes}
use Rattle.share_bytes.proofs.share_bytes.Goals as goal

pub returns-then-input-ne0 : goal.returns-then-input-ne0
returns-then-input-ne0 c =
    let a = c.args in
    not_shared a.part a.input.now a.out.now c.refused.result 1 0 (lit< tt)
    (sym (bytes_1 a.part a.input.now (length a.out.now) c.if-input-ne0.true)) c.refused.ensures

pub returns-then-part-gt-MOST_PART : goal.returns-then-part-gt-MOST_PART
returns-then-part-gt-MOST_PART c =
    let a = c.args in
    part_above a.part a.input.now a.out.now c.refused-then-part-gt-MOST_PART.result c.if-input-ne0.false c.if-part-gt-MOST_PART.true c.refused-then-part-gt-MOST_PART.ensures

pub returns-then-bad-count : goal.returns-then-bad-count
returns-then-bad-count c =
    let a = c.args in
    ten a.part a.input.now _ _ c.if-input-ne0.false c.if-part-gt-MOST_PART.false c.seen.ensures.0 c.first_bad_bytes-bad.ensures
    a.out.now c.refused-then-bad-count.result c.if-bad-count.true c.refused-then-bad-count.ensures

pub settle_bytes-requires : goal.settle_bytes-requires
settle_bytes-requires c =
    let a = c.args in
    let sound =
    none_bad a.part a.input.now _ _ c.if-input-ne0.false c.if-part-gt-MOST_PART.false c.seen.ensures.0 c.first_bad_bytes-bad.ensures c.if-bad-count.false in record {
      part_le_most_part = c.if-part-gt-MOST_PART.false;
      count_le_most_number = sound.0;
      count_in_bounds = omega arith;
      lines_within = sound.2;
    }

pub returns : goal.returns
returns c =
    let a = c.args in
    let sound = none_bad a.part a.input.now _ _ c.if-input-ne0.false c.if-part-gt-MOST_PART.false c.seen.ensures.0 c.first_bad_bytes-bad.ensures c.if-bad-count.false in
    settled_bytes a.part a.input.now a.out.now _ _ c.if-input-ne0.false c.if-part-gt-MOST_PART.false sound.0 sound.1 c.settle_bytes.ensures
