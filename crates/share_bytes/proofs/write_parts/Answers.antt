use mathlib.Core.Path.{◌≡◌, sym, ap, ◌∙◌}
use native.Mathlib.Omega.{arith}
use lib.ListN.{length, get_or}
use Rattle.share.specs.declared.Line.{Line}
use Rattle.share.specs.Sharing.{part_of, parts_by}
use Rattle.share.specs.Forms.{blank_line, filled}
use Rattle.share_bytes.specs.Bytes.{fields_at}
use Rattle.share_bytes.specs.Inner.{spelt_lines}
use Rattle.share_bytes.proofs.Rows.{row_within}
use Rattle.share_bytes.proofs.Spelling.{length_lines, line_of, parts_none, part_more, all_written}
use borrow.Author.Rules.{rules}
use Rattle.share_bytes.proofs.write_parts.Goals as goal

pub loop-i-init : goal.loop-i-init
loop-i-init c =
    (search rules, parts_none (parts_by c.args.negative (spelt_lines c.args.s.now (length c.args.shares.now)) c.args.shares.now) c.args.out.now)

pub finish-done-requires : goal.finish-done-requires
finish-done-requires c =
    let i = c.loop-i.i in record {
      line_within = rw c.fields_at-l.ensures (row_within c.args.s.now (length c.args.shares.now) i c.requires.lines_within (omega arith));
      s_le_most_compensation = c.requires.by_index i;
    }

pub loop-i-preserved : goal.loop-i-preserved
loop-i-preserved c =
    let each : length c.args.shares.now ≡ length (spelt_lines c.args.s.now (length c.args.shares.now)) = sym (length_lines (fields_at c.args.s.now) 0 (length c.args.shares.now)) in
    let n = length c.args.shares.now in
    let here = c.loop-i-test.true in
    let line = c.fields_at-l.ensures ∙ sym (line_of (fields_at c.args.s.now) n c.loop-i.i blank_line (omega (arith, here))) in
    let done = c.finish-done.ensures ∙ ap (λ (x : Line). filled x (part_of c.args.negative x (get_or c.args.shares.now c.loop-i.i 0))) line in (
      c.write_part.auto.out ∙ c.loop-i.invariant.0,
      part_more c.args.negative (spelt_lines c.args.s.now n) c.args.shares.now each c.loop-i.i blank_line _ (omega (arith, here, each)) done c.loop-i.invariant.1 c.write_part.ensures,
    )

pub returns : goal.returns
returns c =
    let each : length c.args.shares.now ≡ length (spelt_lines c.args.s.now (length c.args.shares.now)) = sym (length_lines (fields_at c.args.s.now) 0 (length c.args.shares.now)) in
    all_written c.args.negative (spelt_lines c.args.s.now (length c.args.shares.now)) c.args.shares.now each c.loop-i.i (omega (arith, each)) c.loop-i.invariant.1
