-- The ways out of a join: refused by its screen, by 8 or by 9, or joined. Assumes nothing.
use mathlib.Core.Path.{◌∙◌, ◌≡◌, refl, ap}
use mathlib.Core.List.{List}
use Prim.Native.Nat.{ℕ, ◌<◌, ◌≤◌}
use native.Mathlib.Omega.{arith}
use native.Mathlib.Decide.{dec_le, ℕ_discrete}
use lib.ListN.{length}
use borrow.Author.Tests.{ne_eqb, lt-ltb, le-ltb}
use Rattle.book.specs.declared.Verdict.{Verdict}
use Rattle.book.specs.Book.{most_keys, size_of}
use Rattle.book.specs.Check.{refused, accepted}
use Rattle.pair.specs.Screening.{screen}
use Rattle.pair.proofs.Screening.{Screened, passed_screen, zero_screened}
use Rattle.join.specs.Turns.{ran}
use Rattle.join.specs.Joining.{join_refused, join_wrote, keys_of_both, overflow, joined_book, join_sound, joining}

-- 8 and 9 by the number of keys
module _ (n room : ℕ) where
  pub over_many : most_keys < n → refused 8 0 ≡ overflow n room
  unfolding overflow
  over_many h = rw (lt-ltb most_keys n h) refl

  pub over_short : n ≤ most_keys → room < size_of n → refused 9 0 ≡ overflow n room
  unfolding overflow
  over_short f h = rw (le-ltb most_keys n f, lt-ltb room (size_of n) h) refl

  pub over_none : n ≤ most_keys → size_of n ≤ room → accepted ≡ overflow n room
  unfolding overflow
  over_none f h = rw (le-ltb most_keys n f, le-ltb room (size_of n) h) refl

  pub never_over : (overflow n room).number ≡ 0 → (n ≤ most_keys) × (size_of n ≤ room)
  never_over z = go (dec_le n most_keys) (dec_le (size_of n) room)
    where
      go : Dec (n ≤ most_keys) → Dec (size_of n ≤ room) → (n ≤ most_keys) × (size_of n ≤ room)
      go (no f) r = absurd (omega (arith, ap (λ (v : Verdict). v.number) (over_many (omega arith))))
      go (yes f) (no r) = absurd (omega (arith, ap (λ (v : Verdict). v.number) (over_short f (omega arith))))
      go (yes f) (yes r) = (f, r)

module _ (a b out : List ℕ) where
  -- two books that were found sound
  pub refuse_sound : (v : Verdict) → v ≡ overflow (keys_of_both a b) (length out) → (v.number ≡ 0 → ⊥) → join_refused v out ≡ join_sound a b out
  unfolding join_sound
  refuse_sound v e z = rw (← e, ne_eqb v.number 0 z) refl

  pub joins_sound : keys_of_both a b ≤ most_keys → size_of (keys_of_both a b) ≤ length out → join_wrote (joined_book a b) (ran a b out).turns out ≡ join_sound a b out
  unfolding join_sound
  joins_sound f r = rw (← over_none (keys_of_both a b) (length out) f r) refl

  -- any two books
  pub refuse_screened : (v : Verdict) → v ≡ screen a b → (v.number ≡ 0 → ⊥) → join_refused v out ≡ joining a b out
  unfolding joining
  refuse_screened v e z = rw (← e, ne_eqb v.number 0 z) refl

  module _ (p : screen a b ≡ accepted) where
    pub goes_on_lem : join_sound a b out ≡ joining a b out
    unfolding joining
    goes_on_lem = rw p refl

    pub refuse_over : (v : Verdict) → v ≡ overflow (keys_of_both a b) (length out) → (v.number ≡ 0 → ⊥) → join_refused v out ≡ joining a b out
    refuse_over v e z = refuse_sound v e z ∙ goes_on_lem

    pub joins_both : keys_of_both a b ≤ most_keys → size_of (keys_of_both a b) ≤ length out → join_wrote (joined_book a b) (ran a b out).turns out ≡ joining a b out
    joins_both f r = joins_sound f r ∙ goes_on_lem

  -- one of them is the outcome
  pub data Way : Type 0 where
    screened : ((screen a b).number ≡ 0 → ⊥) → join_refused (screen a b) out ≡ joining a b out → Way
    many : Screened a b → most_keys < keys_of_both a b → join_refused (refused 8 0) out ≡ joining a b out → Way
    short : Screened a b → length out < size_of (keys_of_both a b) → join_refused (refused 9 0) out ≡ joining a b out → Way
    joins : Screened a b → keys_of_both a b ≤ most_keys
        → join_wrote (joined_book a b) (ran a b out).turns out ≡ joining a b out → Way

  pub way : Way
  way = go (ℕ_discrete (screen a b).number 0) (dec_le n most_keys) (dec_le (size_of n) (length out))
    where
      n : ℕ
      n = keys_of_both a b

      go : Dec ((screen a b).number ≡ 0) → Dec (n ≤ most_keys) → Dec (size_of n ≤ length out) → Way
      go (no s) f r = screened s (refuse_screened (screen a b) refl s)
      go (yes s) (no f) r =
          many (passed_screen a b s) (omega arith) (refuse_over (zero_screened a b s) _ (over_many n (length out) (omega arith)) (λ z. omega arith))
      go (yes s) (yes f) (no r) =
          short (passed_screen a b s) (omega arith) (refuse_over (zero_screened a b s) _ (over_short n (length out) f (omega arith)) (λ z. omega arith))
      go (yes s) (yes f) (yes r) = joins (passed_screen a b s) f (joins_both (zero_screened a b s) f r)
