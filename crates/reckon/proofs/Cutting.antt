-- Cutting a window changes no answer of the second way of scoring, minute by minute. Assumes nothing.
use mathlib.Core.Path.{◌≡◌, sym, ◌∙◌, ap}
use mathlib.Core.List.{List}
use Prim.Native.Nat.{ℕ}
use Rattle.call.specs.declared.Call.{Call}
use Rattle.book.specs.Sound.{Sound}
use Rattle.pay.specs.declared.Member.{Member}
use Rattle.score.specs.declared.answer.Score.{Score}
use Rattle.reckon.specs.Reckoning.{reckoning}
use Rattle.reckon.proofs.BothWays.{both_ways}
use Rattle.book.specs.Cut.{Cut}
use Rattle.score.proofs.Cutting.{cut_same}
use Rattle.score.proofs.CutStory.{outputs, plant, scores, rising, whole, before, above, before_scored}

-- An accepted answer is the same over the cut book, all of it.
pub cut_reckoned : (b c : List ℕ) → Sound b → Sound c → (whole first second : Call) → Cut b c whole first second → (m : Member) (series : List ℕ)
    → (reckoning m b series).number ≡ 0 → reckoning m c series ≡ reckoning m b series
cut_reckoned b c s t whole first second cut m series z =
    both_ways m c series ∙ cut_same b c s t whole first second cut m series (sym (ap (λ (r : Score). r.number) (both_ways m b series)) ∙ z) ∙ sym (both_ways m b series)

-- The reserve window of the cases, cut at 45: 13,650,000,000 grains and 227,500 fen, before and after.
pub reckoned_once : reckoning (plant 300000) above.after.book (outputs rising) ≡ scores 13650000000 227500
reckoned_once =
    let b = before.book in
    let e = both_ways (plant 300000) b (outputs rising) ∙ before_scored in
    cut_reckoned b above.after.book before.sound above.after.sound whole _ _ above.is_cut (plant 300000) (outputs rising) (ap (λ (r : Score). r.number) e) ∙ e
