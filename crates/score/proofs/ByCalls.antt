-- Scoring goes by a book's month, area and calls alone, and not by its version. Assumes nothing.
use mathlib.Core.Path.{◌≡◌, refl, sym, ◌∙◌, ap}
use mathlib.Core.List.{List}
use Prim.Native.Nat.{ℕ}
use Rattle.book.specs.Sound.{Sound, SaysSame}
use Rattle.book.proofs.Exact.{sound_accepted}
use Rattle.book.proofs.Same.{same_records, same_count}
use Rattle.pay.specs.declared.Member.{Member}
use Rattle.score.specs.Scoring.{sound_earned, grains_earned, in_fen, scoring}

module _ (b b' : List ℕ) (s : Sound b) (s' : Sound b') (e : SaysSame b b') (m : Member) (series : List ℕ) where
  -- the month's grains, or why there are none
  pub earned_by_calls : grains_earned m b series ≡ grains_earned m b' series
  unfolding grains_earned sound_earned
  earned_by_calls =
      rw (
        sound_accepted b s ∙ sym (sound_accepted b' s'),
        e.header,
        same_records b b' s s' e,
        same_count b b' s s' e,
      ) refl

  -- the score
  pub score_by_calls : scoring m b series ≡ scoring m b' series
  unfolding scoring
  score_by_calls = ap in_fen earned_by_calls
