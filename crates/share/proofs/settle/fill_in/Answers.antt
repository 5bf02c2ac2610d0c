use mathlib.Core.Path.{◌≡◌, sym, ◌∙◌}
use native.Mathlib.Omega.{arith}
use lib.ListN.{length, get_or, take}
use lib.Seq.{length-take-le, get_or-take}
use Rattle.apportion.proofs.Loops.{over_step, over_here, over_end}
use Rattle.share.specs.Sharing.{part_of, parts_by}
use Rattle.share.specs.Forms.{blank_line, fill_in}
use Rattle.share.proofs.Lines.{length_fill, length_parts, fill_at, part_at}
use borrow.Author.Rules.{rules}
use Rattle.share.proofs.settle.fill_in.Goals as goal

pub finish-requires : goal.finish-requires
finish-requires c =
    let l = c.loop-i in
    let ls = c.args.lines.now in
    let n = length ls in
    let f = fill_in (parts_by c.args.negative ls (take n c.args.shares.0)) ls in
    let lf : length f ≡ n = length_fill (parts_by c.args.negative ls (take n c.args.shares.0)) ls in
    let here : get_or l.lines l.i blank_line ≡ get_or ls l.i blank_line = over_here ls f l.lines l.i blank_line l.invariant (omega arith) (omega arith) in
    record {
      line_within = rw here (c.requires.lines_within l.i blank_line (omega arith));
      s_le_most_compensation = c.requires.by_index l.i (omega arith);
    }

pub loop-i-preserved : goal.loop-i-preserved
loop-i-preserved c =
    let l = c.loop-i in
    let ls = c.args.lines.now in
    let n = length ls in
    let long : length c.args.shares.0 ≡ 64 = search rules in
    let ss = take n c.args.shares.0 in
    let same : length ss ≡ n = length-take-le n c.args.shares.0 (omega arith) in
    let ps = parts_by c.args.negative ls ss in
    let f = fill_in ps ls in
    let lf : length f ≡ n = length_fill ps ls in
    let lp : length ps ≡ n = length_parts c.args.negative ls ss same in
    let here : get_or l.lines l.i blank_line ≡ get_or ls l.i blank_line = over_here ls f l.lines l.i blank_line l.invariant (omega arith) (omega arith) in
    over_step ls f l.lines l.i blank_line _ l.invariant (omega arith) (omega arith)
    (fill_at ps ls l.i blank_line (part_of c.args.negative blank_line 0) (omega arith) (omega arith)
    ∙ rw (part_at c.args.negative ls ss l.i blank_line (part_of c.args.negative blank_line 0) same (omega arith), get_or-take n c.args.shares.0 l.i 0 (omega arith), ← here) (sym c.finish.ensures))

pub returns : goal.returns
returns c =
    let l = c.loop-i in
    let ls = c.args.lines.now in
    let ps = parts_by c.args.negative ls (take (length ls) c.args.shares.0) in
    over_end ls (fill_in ps ls) _ l.i l.invariant (omega (arith, length_fill ps ls)) (omega arith)
