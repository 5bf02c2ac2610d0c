use mathlib.Core.Path.{◌∙◌}
use native.Mathlib.Omega.{arith}
use borrow.Author.Rules.{rules}
use Rattle.tables.proofs.Judging.{register_line, register_end, starts}
use Rattle.tables.proofs.roll.read_register.Goals as goal

pub loop-i-init : goal.loop-i-init
loop-i-init c = let s = c.start-grid in
    (omega arith, search rules, starts s.result c.start-roll.result _ s.ensures c.start-roll.ensures.blank_value c.start-roll.ensures.by_index c.args.text.now)

pub loop-i-preserved-then-text-i-eq10 : goal.loop-i-preserved-then-text-i-eq10
loop-i-preserved-then-text-i-eq10 c = let l = c.loop-i in
    let text = c.args.text.now in (
      omega arith,
      l.invariant.1,
      register_line l.roll l.grid l.ended text l.i c.after-roll.result c.next-grid.result (omega arith) c.if-text-i-eq10.true
          c.next-grid.ensures c.after-roll.ensures ∙ l.invariant.2,
    )

pub returns : goal.returns
returns c = let l = c.loop-i in
    let text = c.args.text.now in
    c.answer.ensures ∙ register_end l.roll l.grid l.ended text l.i c.after.result (omega arith) c.after.ensures ∙ l.invariant.2
