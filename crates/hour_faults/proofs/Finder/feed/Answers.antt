use Rattle.std.proofs.Common.{ℕ, ap, ◌∙◌, arith}
use Rattle.std.specs.Prelude.{Option}
use Rattle.std.specs.Option.{option_or}
use Rattle.hour_faults.specs.Inner.{blank_after, first_left}
use Rattle.hour_faults.proofs.First.{first_more}
use Rattle.hour_faults.specs.declared.Finder.{Finder}
use Rattle.hour_faults.proofs.Streaming.{feed_line, feed_all, found_fed}
use Rattle.hour_faults.proofs.Finder.feed.Goals as goal

pub loop-i-preserved-then-bytes-i-eq10 : goal.loop-i-preserved-then-bytes-i-eq10
unfolding blank_after
loop-i-preserved-then-bytes-i-eq10 c = let a = c.args in
    let l = c.loop-i in (
      omega arith,
      l.invariant.1,
      feed_line a.bytes.now a.self.judge a.self.blank a.self.grid a.self.ended l.i (omega arith) c.if-bytes-i-eq10.true
          l.judge l.blank l.grid l.ended l.invariant.2 c.after-judge.result c.holds_blank-blank.result c.next-grid.result
          c.after-judge.ensures c.holds_blank-blank.ensures c.next-grid.ensures,
    )

pub returns : goal.returns
returns c = let a = c.args in
    let l = c.loop-i in
    let r : Finder = record { grid = l.grid; ended = l.ended; blank = l.blank; first = c.or-first.result; judge = l.judge } in
    found_fed a.bytes.now a.self r
    (λ rest. ap (λ (o : Option ℕ). first_left o rest) (c.or-first.ensures ∙ ap (option_or a.self.first) c.first_row.ensures) ∙ first_more a.self.first a.bytes.now rest)
    (feed_all a.bytes.now a.self.judge a.self.blank a.self.grid a.self.ended l.i (omega arith) l.judge l.blank l.grid l.ended l.invariant.2)
