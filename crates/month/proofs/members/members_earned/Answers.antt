use mathlib.Core.Path.{◌≡◌, refl, ◌∙◌}
use native.Mathlib.Omega.{arith}
use lib.ListN.{length, length-set}
use mathlib.Core.Bool.{false}
use Rattle.units.specs.declared.Grains.{Grains}
use Rattle.month.specs.declared.members.MemberEarned.{MemberEarned}
use Rattle.month.specs.declared.members.MemberEarned.TheVariants.{ScoreAndHours, NotScored, NotRamped}
use Rattle.month.proofs.Walking.{walk_on, walk_stop, walk_end, is_both, turn_is, cut_take}
use Rattle.month.proofs.members.members_earned.Goals as goal

-- a turn that is not the grains of both is refused
other : (x : MemberEarned) → ((g : Grains) → x ≡ ScoreAndHours g → ⊥) → is_both x ≡ false
other (ScoreAndHours g) n = absurd (n g refl)
other (NotScored number place) n = refl
other (NotRamped number place) n = refl

pub returns-in_default : goal.returns-in_default
returns-in_default c =
    let l = c.loop-i in
    let a = c.args in
    let end = c.part_end-end in
    let x = c.member_earned-earned.result in
    let turned = turn_is a.entries.now a.book.now a.series.now a.lengths a.ramped l.at l.i _ x
    (cut_take a.series.now l.at _ end.result l.invariant.1.within end.ensures.0) c.member_earned-earned.ensures in
    let stop = walk_stop a.entries.now a.book.now a.series.now a.lengths a.ramped l.grains l.at l.i l.invariant.1 (omega arith) x
    turned (other x c.in_default.not-ScoreAndHours) in
    (stop.0, c.member_fault.ensures ∙ stop.1)

pub loop-i-preserved : goal.loop-i-preserved
loop-i-preserved c =
    let l = c.loop-i in
    let a = c.args in
    let end = c.part_end-end in
    let turned = turn_is a.entries.now a.book.now a.series.now a.lengths a.ramped l.at l.i _ c.member_earned-earned.result
    (cut_take a.series.now l.at _ end.result l.invariant.1.within end.ensures.0) c.member_earned-earned.ensures in
    let on = walk_on a.entries.now a.book.now a.series.now a.lengths a.ramped l.grains l.at l.i l.invariant.1 (omega arith) _ end.result _ refl
    end.ensures.0 end.ensures.2 (omega (arith, l.invariant.0)) (turned ∙ c.in-ScoreAndHours.is) in
    (simp length-set l.invariant.0, on)

pub returns : goal.returns
returns c =
    let l = c.loop-i in
    let a = c.args in
    let e : l.i ≡ length a.entries.now = omega arith in
    let done = walk_end a.entries.now a.book.now a.series.now a.lengths a.ramped l.grains l.at l.i l.invariant.1 e in
    (done.0, rw e at done.1)
