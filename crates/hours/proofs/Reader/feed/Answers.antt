use Rattle.hours.proofs.Taking.{held_is}
use Rattle.std.proofs.Common.{◌≡◌, ◌∙◌, ℕ, List, ◌++◌, take, subst, arith, take_all, rules}
use Rattle.hours.specs.declared.Reader.{Reader}
use Rattle.hours.specs.Stream.{HasRead}
use Rattle.hours.proofs.Streaming.{feed_line, feed_step}
use Rattle.hours.proofs.Reader.feed.Goals as goal

pub loop-i-preserved-then-bytes-i-eq10 : goal.loop-i-preserved-then-bytes-i-eq10
loop-i-preserved-then-bytes-i-eq10 c = let a = c.args in
    let l = c.loop-i in
    let r : Reader = record { grid = l.grid; ended = l.ended; blank = l.blank; sheet = l.sheet } in (
      omega arith,
      l.invariant.1,
      feed_line a.bytes.now a.self l.i (omega arith) c.if-bytes-i-eq10.true r c.next-grid.result c.after-sheet.result c.holds_blank-blank.result
          c.next-grid.ensures (λ held e. c.holds_blank-blank.ensures ∙ held_is l.grid l.blank held e) c.after-sheet.ensures l.invariant.2,
    )

pub loop-i-preserved : goal.loop-i-preserved
loop-i-preserved c = let a = c.args in
    let l = c.loop-i in
    let s = c.step-step in
    let r : Reader = record { grid = l.grid; ended = l.ended; blank = l.blank; sheet = l.sheet } in
    (s.ensures.within, search rules, feed_step a.bytes.now a.self l.i r s.result _ s.ensures l.invariant.2)

pub returns : goal.returns
returns c = let a = c.args in
    let l = c.loop-i in
    let r : Reader = record { grid = l.grid; ended = l.ended; blank = l.blank; sheet = l.sheet } in
    let all : take l.i a.bytes.now ≡ a.bytes.now = take_all l.i a.bytes.now (omega arith) in
    λ m hours text k. subst (λ (t : List ℕ). HasRead m hours r (text ++ t)) all (l.invariant.2 m hours text k)
