use Rattle.std.proofs.Common.{◌≡◌, length, sym, ◌∙◌, rules}
use Rattle.hours.proofs.Taking.{none_of}
use Rattle.hours.proofs.Streaming.{settled_refused, settled_spoilt, stops_refused, stops_spoilt}
use Rattle.hours.proofs.Reader.is_settled.Goals as goal

pub returns-then-is_some : goal.returns-then-is_some
returns-then-is_some c =
    let r = c.args.self in
    let bad = sym c.is_some.ensures ∙ c.if-is_some.true in
    record {
      value = settled_refused r bad;
      stops = λ m hours text k. stops_refused m hours r text k bad;
    }

pub returns : goal.returns
returns c =
    let r = c.args.self in
    let long : length r.ended ≡ 8 = search rules in
    let on = sym c.is_some.ensures ∙ c.if-is_some.false in
    record {
      value = settled_spoilt r on c.is_spoilt.result c.is_spoilt.ensures;
      stops = λ m hours text k. stops_spoilt m hours r text k (none_of _ on) long c.is_spoilt.result c.is_spoilt.ensures;
    }
