use mathlib.Core.Path.{◌≡◌, sym, ◌∙◌, ap}
use mathlib.Core.Bool.{true}
use Rattle.book.specs.declared.Verdict.{Verdict}
use Rattle.book.specs.Check.{check}
use Rattle.book.proofs.Judged.{zero_accepted}
use Rattle.pay.specs.Member.{member_is_sound}
use Rattle.reckon.proofs.Answers.{reckoned_10, reckoned_book, reckoned_sound}
use Rattle.reckon.proofs.grains_reckoned.Goals as goal

pub returns-then-not-is_sound : goal.returns-then-not-is_sound
returns-then-not-is_sound c = sym (reckoned_10 _ _ _ (sym c.is_sound.ensures ∙ c.if-not-is_sound.true))

pub returns-then-number-ne0 : goal.returns-then-number-ne0
returns-then-number-ne0 c =
    let line_is : member_is_sound c.args.member ≡ true = sym c.is_sound.ensures ∙ c.if-not-is_sound.false in
    sym (reckoned_book _ _ _ line_is c.check-fault.result c.check-fault.ensures c.if-number-ne0.true)

pub sound_reckoned-requires : goal.sound_reckoned-requires
sound_reckoned-requires c =
    let line_is : member_is_sound c.args.member ≡ true = sym c.is_sound.ensures ∙ c.if-not-is_sound.false in
    let book_is : (check c.args.b.now).number ≡ 0 = sym (ap (λ (v : Verdict). v.number) c.check-fault.ensures) ∙ c.if-number-ne0.false in
    record {
      member_value = line_is;
      b_value = zero_accepted _ book_is;
    }

pub returns : goal.returns
returns c =
    let line_is : member_is_sound c.args.member ≡ true = sym c.is_sound.ensures ∙ c.if-not-is_sound.false in
    let book_is : (check c.args.b.now).number ≡ 0 = sym (ap (λ (v : Verdict). v.number) c.check-fault.ensures) ∙ c.if-number-ne0.false in
    c.sound_reckoned.ensures ∙ sym (reckoned_sound _ _ _ line_is book_is)
