use mathlib.Core.Path.{◌≡◌, sym, ap, ◌∙◌}
use mathlib.Core.List.{List}
use Prim.Native.Nat.{◌<◌}
use native.Mathlib.Omega.{arith}
use Rattle.units.specs.declared.SignedFen.{SignedFen}
use Rattle.share.specs.declared.Line.{Line}
use Rattle.share.specs.declared.Answer.{Answer}
use Rattle.share.specs.declared.settle.Carried.{Carried}
use Rattle.share.specs.Sharing.{Part, SharingOutcome, sharing}
use Rattle.share.specs.Forms.{answer_of, fill_in}
use Rattle.share.specs.Inner.{Carries, Told}
use Rattle.share.proofs.Outcomes.{none_given}
use Rattle.share.proofs.lent.share_lines.Goals as goal

-- what is said is the outcome's answer
says : {ls : List Line} {o : SharingOutcome} {r : Carried} {a : Answer} → Carries ls o r → Told r a → a ≡ answer_of o
says k t =
    let gap = ap (λ (f : SignedFen). f.0) t.gap ∙ k.gap in
    let user = ap (λ (f : SignedFen). f.0) t.user ∙ k.user in
    λ i. record { number = (t.number ∙ k.number) i; place = (t.place ∙ k.place) i; gap = record { 0 = gap i }; user = record { 0 = user i } }

pub returns-then-o-ne0 : goal.returns-then-o-ne0
returns-then-o-ne0 c =
    let ls = c.args.lines.now in
    let some : 0 < (sharing c.args.part ls).number = omega (arith, c.outcome-o.ensures.number, c.if-o-ne0.true) in
    record {
      says = says c.outcome-o.ensures c.told-answer.ensures;
      lines = sym (ap (λ (ps : List Part). fill_in ps ls) (none_given c.args.part _ _ ls some));
    }

pub fill_in-requires : goal.fill_in-requires
fill_in-requires c =
    let given = c.outcome-o.ensures.given (sym c.outcome-o.ensures.number ∙ c.if-o-ne0.false) in
    record { few = given.few; lines_within = given.within; by_index = given.small }

pub returns : goal.returns
returns c =
    let ls = c.args.lines.now in
    let given = c.outcome-o.ensures.given (sym c.outcome-o.ensures.number ∙ c.if-o-ne0.false) in
    record {
      says = says c.outcome-o.ensures c.told-answer.ensures;
      lines = c.fill_in.ensures ∙ ap (λ (ps : List Part). fill_in ps ls) given.parts;
    }
