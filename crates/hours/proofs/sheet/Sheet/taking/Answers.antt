use Rattle.std.proofs.Common.{◌≡◌, ℕ, ◌+◌, ◌%◌, ◌^◌, length, set, refl, sym, ap, ◌∙◌, arith, rules}
use Rattle.std.proofs.lemmas.List.{set_past}
use Rattle.hours.specs.declared.sheet.Sheet.{Sheet}
use Rattle.hours.specs.Hours.{most_hours}
use Rattle.hours.proofs.Taking.{taken_more}
use Rattle.hours.proofs.sheet.Sheet.taking.Goals as goal
use Rattle.hours.proofs.sheet.Sheet.taking.Goals.{then-hour-lt-MOST_HOURS, else-hour-lt-MOST_HOURS}

pub returns : goal.returns
returns c =
    let a = c.args in
    let s = a.self in
    let n = c.filled_for-n in
    let p = c.paid-pay in
    let is = c.from-hour.ensures in
    let pays : length s.grains ≡ most_hours = search rules in
    let counts : length s.actions ≡ most_hours = search rules in
    elim c.if-hour-lt-MOST_HOURS.branch [
      | then-hour-lt-MOST_HOURS w ↦ λ m hours ls on k. (
        ap (λ (r : Sheet). r.fault) w.self-is ∙ on,
        taken_more m hours ls s k a.l c.requires n.result n.ensures _ p.result (ap (λ (r : Sheet). r.member) w.self-is) (ap (λ (r : Sheet). r.hours) w.self-is)
            (ap (λ (r : Sheet). (r.count + 1) % 2 ^ 64) w.self-is) refl refl (ap (λ (r : Sheet). r.kept) w.self-is)
            (ap (λ (r : Sheet). r.grains) w.self-is ∙ ap (λ (h : ℕ). set s.grains h p.result) is)
            (ap (λ (r : Sheet). r.actions) w.self-is ∙ ap (λ (h : ℕ). set s.actions h (n.result + 1)) is) p.ensures,
      )
      | else-hour-lt-MOST_HOURS w ↦ λ m hours ls on k. (
        ap (λ (r : Sheet). r.fault) w.self-is ∙ on,
        taken_more m hours ls s k a.l c.requires n.result n.ensures _ p.result (ap (λ (r : Sheet). r.member) w.self-is) (ap (λ (r : Sheet). r.hours) w.self-is)
            (ap (λ (r : Sheet). (r.count + 1) % 2 ^ 64) w.self-is) refl refl (ap (λ (r : Sheet). r.kept) w.self-is)
            (ap (λ (r : Sheet). r.grains) w.self-is ∙ sym (set_past s.grains a.l.hour p.result (omega (arith, pays, is, w.if-hour-lt-MOST_HOURS.false))))
            (ap (λ (r : Sheet). r.actions) w.self-is ∙ sym (set_past s.actions a.l.hour (n.result + 1) (omega (arith, counts, is, w.if-hour-lt-MOST_HOURS.false)))) p.ensures,
      )
    ]
