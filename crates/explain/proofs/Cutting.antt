-- Cutting a window changes no explained grains: the parts' grains and quarter hours add up to the window's. Assumes nothing.
use mathlib.Core.Path.{◌≡◌, refl, sym, ◌∙◌, ap}
use mathlib.Core.List.{List, []}
use Prim.Native.Nat.{ℕ, ◌+◌}
use Rattle.units.specs.declared.Grains.{Grains}
use Rattle.units.specs.Money.{grains_plus}
use Rattle.call.specs.declared.Call.{Call}
use Rattle.book.specs.Sound.{Sound}
use Rattle.pay.specs.declared.Member.{Member}
use Rattle.pay.specs.Sum.{total}
use Rattle.pay.specs.Event.{clamp}
use Rattle.pay.specs.Window.{lacking, coal_band, coal_minute, reserve_minute, minute_pay, quarter_pay, quarter_at, quarter_counts, window_quarters}
use Rattle.pay.specs.Live.{quarters_paid}
use Rattle.score.specs.declared.answer.Score.{Score}
use Rattle.score.specs.Scoring.{scoring}
use Rattle.explain.specs.Explaining.{call_part, hours_sum, explaining}
use Rattle.explain.proofs.Promises.{refused_as_scored, grains_as_scored}
use Rattle.book.specs.Cut.{Cut}
use Rattle.score.proofs.Cutting.{parts_pay, parts_quarters, cut_same}
use Rattle.score.proofs.CutStory.{outputs, plant, rising, called, whole, before, above, before_scored}

module _ (b c : List ℕ) (s : Sound b) (t : Sound c) (whole first second : Call) (cut : Cut b c whole first second) (m : Member) (series : List ℕ) where
  -- The grains of an accepted explanation are the same over the cut book, whatever the ramping hours add,
  pub cut_explained : (hours : List Grains) → (explaining m b series hours).number ≡ 0 → (explaining m c series hours).grains ≡ (explaining m b series hours).grains
  cut_explained hours z =
      let n : (scoring m b series).number ≡ 0 = sym (refused_as_scored m b series hours).0 ∙ z in
      let e = cut_same b c s t whole first second cut m series n in
      let k : (scoring m c series).number ≡ 0 = ap (λ (r : Score). r.number) e ∙ n in
      ap (λ (x : ℕ). record { 0 = x })
      (grains_as_scored m c series hours k ∙ ap (λ (r : Score). grains_plus r.grains.0 (hours_sum hours)) e ∙ sym (grains_as_scored m b series hours n))

  -- and wherever the records stand the two parts' grains and quarter hours add up to the whole's.
  pub cut_parts : (i j k : ℕ)
      → ((call_part m series i whole).grains.0 ≡ (call_part m series j first).grains.0 + (call_part m series k second).grains.0)
      × ((call_part m series i whole).quarters ≡ (call_part m series j first).quarters + (call_part m series k second).quarters)
  unfolding call_part
  cut_parts i j k = (parts_pay b s whole first second cut.cuttable m series, parts_quarters b s whole first second cut.cuttable m series)

-- The reserve window of the cases, cut at 45, without ramping hours: its grains are those of the whole.
pub explained_once : (explaining (plant 300000) above.after.book (outputs rising) []).grains.0 ≡ 13650000000
unfolding hours_sum grains_plus
explained_once =
    let b = before.book in
    let n = ap (λ (r : Score). r.number) before_scored in
    ap (λ (g : Grains). g.0)
    (cut_explained b above.after.book before.sound above.after.sound whole _ _ above.is_cut (plant 300000) (outputs rising) []
    ((refused_as_scored (plant 300000) b (outputs rising) []).0 ∙ n))
    ∙ grains_as_scored (plant 300000) b (outputs rising) [] n ∙ ap (λ (r : Score). grains_plus r.grains.0 0) before_scored

-- of the whole 6 quarter hours pay, of its parts 2 and 4
pub quarters_once : ((call_part (plant 300000) (outputs rising) 0 whole).quarters ≡ 6)
    × ((call_part (plant 300000) (outputs rising) 0 (called 5 2 0 45)).quarters ≡ 2)
    × ((call_part (plant 300000) (outputs rising) 1 (called 9 1 45 75)).quarters ≡ 4)
unfolding call_part quarters_paid window_quarters quarter_counts total quarter_at quarter_pay minute_pay reserve_minute coal_minute coal_band lacking clamp
quarters_once = (refl, refl, refl)
