use native.Mathlib.Omega.{arith}
use lib.ListN.{length-set}
use Rattle.year.specs.Every.{with_lines}
use Rattle.year.proofs.Adding.{fits_at_lem, lines_on, lines_end}
use Rattle.year.proofs.member.with_lines.Goals as goal

pub overflow_sub-at : goal.overflow_sub-at
overflow_sub-at c =
    let line = fits_at_lem c.args.lines.now c.loop-line.line-index (omega arith) c.requires.lines_value in
    omega (arith, line.number.0, c.from-at.ensures)

pub bounds-members-at : goal.bounds-members-at
bounds-members-at c =
    let line = fits_at_lem c.args.lines.now c.loop-line.line-index (omega arith) c.requires.lines_value in
    omega (arith, line.number, c.from-at.ensures, c.loop-line.invariant.0)

pub member_with-requires : goal.member_with-requires
member_with-requires c = record {
  month = c.requires.month;
  line_fits = fits_at_lem c.args.lines.now c.loop-line.line-index (omega arith) c.requires.lines_value;
}

pub bounds-members-at-in-loop-line : goal.bounds-members-at-in-loop-line
bounds-members-at-in-loop-line c =
    let line = fits_at_lem c.args.lines.now c.loop-line.line-index (omega arith) c.requires.lines_value in
    omega (arith, line.number, c.from-at.ensures, c.loop-line.invariant.0)

pub loop-line-preserved : goal.loop-line-preserved
loop-line-preserved c =
    let l = c.loop-line in
    let line = fits_at_lem c.args.lines.now l.line-index (omega arith) c.requires.lines_value in
    let room = l.invariant.0 in (
      simp length-set room,
      rw c.from-at.ensures (lines_on c.args.lines.now l.line-index (omega arith) l.members (with_lines c.args.members c.args.month c.args.lines.now) c.args.month
          c.member_with.result _
          (omega (arith, line.number, room)) (rw c.from-at.ensures at c.member_with.ensures) l.invariant.1),
    )

pub returns : goal.returns
returns c =
    let l = c.loop-line in
    lines_end c.args.lines.now l.line-index (omega arith) l.members (with_lines c.args.members c.args.month c.args.lines.now) c.args.month l.invariant.1
