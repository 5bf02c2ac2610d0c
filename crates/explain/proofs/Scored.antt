-- What an accepted score leaves for its explanation. Assumes nothing.
use mathlib.Core.Path.{◌≡◌, sym, ◌∙◌, ap}
use mathlib.Core.List.{List}
use Prim.Native.Nat.{ℕ}
use native.Mathlib.Omega.{arith}
use Rattle.units.specs.declared.Grains.{Grains}
use Rattle.book.specs.Book.{count_at, record_at}
use Rattle.pay.specs.declared.Member.{Member}
use Rattle.score.specs.declared.answer.Score.{Score}
use Rattle.score.specs.declared.answer.Earned.TheVariants.{Accepted}
use Rattle.score.specs.Scoring.{month_grains, grains_earned, in_fen, scoring}
use Rattle.score.specs.Outcomes.{Ready, ScoreOutcome, bad_line_lem, bad_book, bad_length, bad_value, is_contested_lem, not_open_lem, stands_against_lem, scored}
use Rattle.book.proofs.Judged.{zero_accepted}
use Rattle.score.proofs.Exact.{outcome}

-- line, book and series are good, and the grains are the month's
module _ (m : Member) (b series : List ℕ) (g : Grains) (e : grains_earned m b series ≡ Accepted g) where
  is : scoring m b series ≡ in_fen (Accepted g)
  unfolding scoring
  is = ap in_fen e

  number : (scoring m b series).number ≡ 0
  unfolding in_fen
  number = ap (λ (r : Score). r.number) is

  grains : (scoring m b series).grains.0 ≡ g.0
  unfolding in_fen
  grains = ap (λ (r : Score). r.grains.0) is

  pub accepted_ready : Ready m b series × (g.0 ≡ month_grains m series (record_at b) (count_at b))
  accepted_ready = go (outcome m b series)
    where
      of : {r : Score} → scoring m b series ≡ r → r.number ≡ 0
      of d = sym (ap (λ (r : Score). r.number) d) ∙ number

      go : ScoreOutcome m b series (scoring m b series) → Ready m b series × (g.0 ≡ month_grains m series (record_at b) (count_at b))
      go (bad_line_lem d n) = absurd (omega (arith, of d))
      go (bad_book d l n) = absurd (n (zero_accepted b (of d)))
      go (bad_length d l n) = absurd (omega (arith, of d))
      go (bad_value i d l s t w v) = absurd (omega (arith, of d))
      go (is_contested_lem i d t q) = absurd (omega (arith, of d))
      go (not_open_lem i d t q n) = absurd (omega (arith, of d))
      go (stands_against_lem i j d t q o l a) = absurd (omega (arith, of d))
      go (scored k d ready clear s) = (ready, sym grains ∙ ap (λ (r : Score). r.grains.0) d ∙ s)
