use mathlib.Core.Path.{sym, ◌∙◌}
use native.Mathlib.Omega.{arith}
use Rattle.join.proofs.Books.{few}
use Rattle.join.proofs.Taken.{lies}
use Rattle.tabs.proofs.Seeking.{not_known, counted_as}
use Rattle.tabs.proofs.Counting.{no_hit}
use Rattle.tabs.proofs.Bringing.{meets, passed, passed_known}
use Rattle.tabs.proofs.forward.count_one.Goals as goal

pub find_from-requires : goal.find_from-requires
find_from-requires c = let g = c.requires.meeting in record { run_to = rw g.is at g.run; record_size_in_bounds = (lies g.in_second g.there).long }

pub count_known-requires : goal.count_known-requires
count_known-requires c = let g = c.requires.meeting in
    record { facing = meets g c.in-Ok.ensures; b_value = sym c.in-Ok.ensures.known; member_value = g.is; able = c.requires.able }

pub overflow_add-result : goal.overflow_add-result
overflow_add-result c =
    let r = c.in-Ok.ensures.sought.read in
    let p = r.place in
    let i = r.within in
    omega (arith, few _ r.accepted)

pub returns-in-Ok : goal.returns-in-Ok
returns-in-Ok c =
    record { passed = passed_known c.requires.meeting c.in-Ok.ensures (sym c.in-Ok.ensures.known); recounted = c.count_known.ensures }

pub add_one-requires : goal.add_one-requires
add_one-requires c =
    let g = c.requires.meeting in
    let k = not_known (meets g c.in-Err.ensures) (sym c.in-Err.ensures.known) in
    let a = c.requires.able in
    rw (g.is, c.state_at.ensures) record { page_size_in_bounds = a.long; counted = k.own; state_bound = a.roomy _ _ k.own }

pub returns-in-Err : goal.returns-in-Err
returns-in-Err c =
    let g = c.requires.meeting in
    let k = not_known (meets g c.in-Err.ensures) (sym c.in-Err.ensures.known) in record {
      passed = passed g c.in-Err.ensures;
      recounted = counted_as (λ m n. k.loses m n ∙ sym (no_hit m n)) k.gains
          (rw (g.is, c.state_at.ensures) at c.add_one.ensures);
    }

pub state_at-requires : goal.state_at-requires
state_at-requires c = let g = c.requires.meeting in (lies g.in_second g.there).long
