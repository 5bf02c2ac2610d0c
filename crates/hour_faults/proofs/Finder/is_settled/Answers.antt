use Rattle.std.proofs.Common.{◌≡◌, not, length, sym, refl, ap, ◌∙◌, rules}
use Rattle.le.proofs.Tests.{holds_or_fails}
use Rattle.hour_faults.proofs.Streaming.{found_settled, found_spoilt, unknown_line, known_fault, by_line}
use Rattle.hour_faults.proofs.Finder.is_settled.Goals as goal

pub returns-then-is_none : goal.returns-then-is_none
returns-then-is_none c = record { value = unknown_line c.args.self (ap not (c.is_none.ensures ∙ ap not c.if-is_none.true)); rest_value = λ h. absurd (holds_or_fails h refl) }

pub returns-then-not-is_sound : goal.returns-then-not-is_sound
returns-then-not-is_sound c =
    let f = c.args.self in
    let bad = sym c.is_sound.ensures ∙ c.if-not-is_sound.true in
    let known = (ap not (c.is_none.ensures ∙ ap not c.if-is_none.false)) in
    record { value = known_fault f known bad; rest_value = λ h. found_settled f bad known }

pub returns : goal.returns
returns c =
    let f = c.args.self in
    let long : length f.ended ≡ 8 = search rules in
    let on = sym c.is_sound.ensures ∙ c.if-not-is_sound.false in
    let known = (ap not (c.is_none.ensures ∙ ap not c.if-is_none.false)) in
    record { value = by_line f known on c.fault_is_known.result c.fault_is_known.ensures; rest_value = λ h. found_spoilt f long on known (sym c.fault_is_known.ensures ∙ h) }
