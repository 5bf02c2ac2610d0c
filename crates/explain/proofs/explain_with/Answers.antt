use mathlib.Core.Path.{◌≡◌, sym, ◌∙◌, ap}
use mathlib.Core.List.{List}
use Prim.Native.Nat.{ℕ}
use lib.IntN.{pos}
use Rattle.score.specs.declared.answer.Earned.TheVariants.{Refused}
use Rattle.score.specs.Scoring.{grains_earned}
use Rattle.explain.specs.declared.Explained.{Explained}
use Rattle.explain.specs.declared.CallPart.{CallPart}
use Rattle.explain.specs.Explaining.{explain_earned}
use Rattle.explain.proofs.explain_with.Goals as goal

abbrev refusal : ℕ → ℕ → List CallPart → Explained
refusal number place parts =
    record {
      number = number;
      place = place;
      count = 0;
      wh = record { 0 = pos 0 };
      energy = record { 0 = 0 };
      added = record { 0 = 0 };
      grains = record { 0 = 0 };
      parts = parts;
    }

pub returns-in-Refused : goal.returns-in-Refused
unfolding explain_earned
returns-in-Refused c =
    let refuses : grains_earned c.args.member c.args.book.now c.args.series.now ≡ Refused c.in-Refused.number c.in-Refused.place = sym c.grains_earned-earned.ensures ∙ c.in-Refused.is in
    let a = c.args in
    ap (refusal c.in-Refused.number c.in-Refused.place) c.blank_parts-parts.ensures ∙ ap (explain_earned a.member a.book.now a.series.now a.added) (sym refuses)
