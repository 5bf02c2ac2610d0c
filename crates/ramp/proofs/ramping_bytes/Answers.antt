use mathlib.Core.Path.{sym, ◌∙◌}
use Rattle.pay.proofs.Within.{line_of}
use Rattle.ramp.proofs.Sound.{not_of, not_not}
use Rattle.ramp.proofs.Answers.{odd_is, whole_is, bad_line_is, other_kind_is, stopped-is, through-is}
use mathlib.Core.Path.{ap}
use mathlib.Core.Bool.{not}
use Rattle.ramp.proofs.ramping_bytes.Goals as goal

pub returns-then-actions-ne0 : goal.returns-then-actions-ne0
returns-then-actions-ne0 c = let s = c.args in c.hour_refused.ensures ∙ sym (odd_is s.member s.actions.now c.if-actions-ne0.true)

pub returns-then-not-is_sound : goal.returns-then-not-is_sound
returns-then-not-is_sound c =
    let a = c.args in
    c.hour_refused-then-not-is_sound.ensures
    ∙ sym (whole_is a.member a.actions.now c.if-actions-ne0.false ∙ bad_line_is a.member _ (sym c.is_sound.ensures ∙ not_of _ (ap not c.if-not-is_sound.true)))

pub returns-then-not-is_ramping : goal.returns-then-not-is_ramping
returns-then-not-is_ramping c =
    let a = c.args in
    let sound = sym c.is_sound.ensures ∙ not_not _ (ap not c.if-not-is_sound.false) in
    c.hour_refused-then-not-is_ramping.ensures
    ∙ sym (whole_is a.member a.actions.now c.if-actions-ne0.false
    ∙ other_kind_is a.member _ sound (sym c.is_ramping.ensures ∙ not_of _ (ap not c.if-not-is_ramping.true)))

pub returns-then-h-count : goal.returns-then-h-count
returns-then-h-count c =
    let a = c.args in
    let sound = sym c.is_sound.ensures ∙ not_not _ (ap not c.if-not-is_sound.false) in
    let ordinary = sym c.is_ramping.ensures ∙ not_not _ (ap not c.if-not-is_ramping.false) in
    c.hour_refused-then-h-count.ensures
    ∙ stopped-is a.member a.actions.now c.if-actions-ne0.false sound ordinary c.hour_so_far-h.result (c.hour_so_far-h.ensures.so_far, c.hour_so_far-h.ensures.count_value) c.if-h-count.true

pub grains-requires : goal.grains-requires
grains-requires c =
    record {
      goes = (_, c.hour_so_far-h.ensures.so_far);
      le_rated = (line_of c.args.member (sym c.is_sound.ensures ∙ not_not _ (ap not c.if-not-is_sound.false))).rated;
    }

pub returns : goal.returns
returns c =
    let a = c.args in
    let sound = sym c.is_sound.ensures ∙ not_not _ (ap not c.if-not-is_sound.false) in
    let ordinary = sym c.is_ramping.ensures ∙ not_not _ (ap not c.if-not-is_ramping.false) in
    c.hour_paid.ensures
    ∙ through-is a.member a.actions.now c.if-actions-ne0.false sound ordinary c.hour_so_far-h.result (c.hour_so_far-h.ensures.so_far, c.hour_so_far-h.ensures.count_value) c.if-h-count.false
    c.grains.result.0 c.grains.ensures
