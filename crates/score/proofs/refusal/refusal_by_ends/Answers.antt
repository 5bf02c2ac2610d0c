use mathlib.Core.Path.{◌≡◌, refl, sym, ◌∙◌, ap}
use mathlib.Core.Bool.{Bool, true, false}
use borrow.Author.Tests.{eqb-false}
use Rattle.call.specs.declared.Call.{Call}
use Rattle.pay.specs.Open.{open_to}
use Rattle.book.specs.Book.{record_at}
use Rattle.score.specs.Refusing.{number_of, clash_before}
use Rattle.score.specs.Scoring.{is_own_live}
use Rattle.score.proofs.Energy.{own_refusal}
use Rattle.score.proofs.Ends.{kept_live}
use Rattle.score.proofs.refusal.refusal_by_ends.Goals as goal

pub returns-then-not-open_to : goal.returns-then-not-open_to
unfolding number_of
returns-then-not-open_to c =
    let at : Call = record_at c.args.b.now c.args.i in
    let isOpen : Bool = open_to c.args.month c.args.member at in
    let own : is_own_live c.args.member at ≡ true = sym (ap (is_own_live c.args.member) c.requires.x_value) ∙ c.requires.x_value_2 in
    let is_open : c.open_to.result ≡ isOpen = c.open_to.ensures ∙ ap (open_to c.args.month c.args.member) c.requires.x_value in
    let a = c.args in
    let t = sym (c.if-not-open_to.true) ∙ is_open in
    record {
      value = sym (own_refusal a.month a.member (record_at a.b.now) a.i own false _ t refl);
      ends_kept_2 = λ z. absurd (eqb-false 12 0 refl z);
    }

pub returns-then-clash_by_ends : goal.returns-then-clash_by_ends
unfolding number_of
returns-then-clash_by_ends c =
    let at : Call = record_at c.args.b.now c.args.i in
    let isOpen : Bool = open_to c.args.month c.args.member at in
    let isAgainst : Bool = clash_before c.args.member.number at (record_at c.args.b.now) c.args.i in
    let own : is_own_live c.args.member at ≡ true = sym (ap (is_own_live c.args.member) c.requires.x_value) ∙ c.requires.x_value_2 in
    let is_open : c.open_to.result ≡ isOpen = c.open_to.ensures ∙ ap (open_to c.args.month c.args.member) c.requires.x_value in
    let opened : true ≡ isOpen = sym (c.if-not-open_to.false) ∙ is_open in
    let against : c.clash_by_ends.result ≡ isAgainst = let a = c.args in
    c.clash_by_ends.ensures.value ∙ ap (λ (x : Call). clash_before a.member.number x (record_at a.b.now) a.i) c.requires.x_value in
    let a = c.args in
    let t = sym c.if-clash_by_ends.true ∙ against in
    record {
      value = sym (own_refusal a.month a.member (record_at a.b.now) a.i own true true opened t);
      ends_kept_2 = λ z. absurd (eqb-false 13 0 refl z);
    }

pub returns : goal.returns
unfolding number_of
returns c =
    let at : Call = record_at c.args.b.now c.args.i in
    let isOpen : Bool = open_to c.args.month c.args.member at in
    let isAgainst : Bool = clash_before c.args.member.number at (record_at c.args.b.now) c.args.i in
    let own : is_own_live c.args.member at ≡ true = sym (ap (is_own_live c.args.member) c.requires.x_value) ∙ c.requires.x_value_2 in
    let is_open : c.open_to.result ≡ isOpen = c.open_to.ensures ∙ ap (open_to c.args.month c.args.member) c.requires.x_value in
    let opened : true ≡ isOpen = sym (c.if-not-open_to.false) ∙ is_open in
    let against : c.clash_by_ends.result ≡ isAgainst = let a = c.args in
    c.clash_by_ends.ensures.value ∙ ap (λ (x : Call). clash_before a.member.number x (record_at a.b.now) a.i) c.requires.x_value in
    let a = c.args in
    let book = record_at a.b.now in record {
      value = sym (own_refusal a.month a.member book a.i own true false opened (sym c.if-clash_by_ends.false ∙ against));
      ends_kept_2 = λ z. rw (c.clash_by_ends.ensures.ends_after, c.requires.x_value) (kept_live a.member book a.i a.ends.now c.requires.ends_kept own);
    }
