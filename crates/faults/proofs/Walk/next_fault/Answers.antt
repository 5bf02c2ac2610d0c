use Rattle.std.proofs.Common.{sym, ◌∙◌}
use Rattle.faults.proofs.Walking.{found_first, found_rest, some_found}
use Rattle.faults.proofs.Walk.next_fault.Goals as goal

pub returns-then-is_some : goal.returns-then-is_some
returns-then-is_some c = let a = c.args in let l = c.loop-walk in
    let to = c.to_end in let r = c.ended-told in let told = r.ensures.by_index a.text.now to.ensures.ends in
    let s = some_found r.result.found (sym c.is_some.ensures ∙ c.if-is_some.true) in record {
      found_value = λ left w. found_first a.text.now a.self l.walk to.result l.invariant to.ensures r.result told s left w;
      walks = λ left w t. found_rest a.text.now a.self l.walk to.result l.invariant to.ensures r.result told s left w;
    }
