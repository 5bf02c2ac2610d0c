-- The definitions of the second way's answer, case by case. Assumes nothing.
use mathlib.Core.Path.{◌≡◌, refl}
use mathlib.Core.Bool.{true, false}
use mathlib.Core.List.{List}
use Prim.Native.Nat.{ℕ, ◌≤◌, ◌<◌}
use borrow.Author.Tests.{eq-eqb, ne_eqb, lt-ltb, le-ltb}
use Rattle.book.specs.declared.Verdict.{Verdict}
use Rattle.book.specs.Book.{count_at, record_at}
use Rattle.book.specs.Check.{check}
use Rattle.pay.specs.declared.Member.{Member}
use Rattle.pay.specs.Member.{member_is_sound}
use Rattle.score.specs.declared.answer.Earned.{Earned}
use Rattle.score.specs.declared.answer.Earned.TheVariants.{Accepted, Refused}
use Rattle.score.specs.Refusing.{refusal_at}
use Rattle.score.specs.Scoring.{first_refused, after, month_at}
use Rattle.score.proofs.Turns.{fault_in}
use Rattle.reckon.specs.Reckoning.{reckoned_grains, records_reckoned, sound_reckoned, grains_reckoned}

after_fault : (f : Verdict) (next : Earned) → (f.number ≡ 0 → ⊥) → after f next ≡ Refused f.number f.place
unfolding after
after_fault f next h = rw (ne_eqb _ _ h) refl

after_none : (f : Verdict) (next : Earned) → f.number ≡ 0 → after f next ≡ next
unfolding after
after_none f next h = rw (eq-eqb _ _ h) refl

module _ (m : Member) (b series : List ℕ) where
  module _ (at : ℕ) (e : at ≡ first_refused (month_at b) m (record_at b) (count_at b)) where
    -- the first refusal is the answer
    pub records_refused : at < count_at b → records_reckoned m b series ≡ Refused (refusal_at (month_at b) m (record_at b) at) at
    unfolding records_reckoned
    records_refused l = rw (← e, lt-ltb at (count_at b) l) refl

    -- where there is none, the month's grains are
    pub records_sum : count_at b ≤ at → records_reckoned m b series ≡ Accepted (record { 0 = reckoned_grains m b series })
    unfolding records_reckoned
    records_sum l = rw (← e, le-ltb at (count_at b) l) refl

  pub sound_refused : (f : Verdict) → f ≡ fault_in b series → (f.number ≡ 0 → ⊥) → sound_reckoned m b series ≡ Refused f.number f.place
  unfolding sound_reckoned
  sound_refused f e h = rw (← e) (after_fault f _ h)

  pub sound_records : (fault_in b series).number ≡ 0 → sound_reckoned m b series ≡ records_reckoned m b series
  unfolding sound_reckoned
  sound_records h = after_none (fault_in b series) _ h

  pub reckoned_10 : member_is_sound m ≡ false → grains_reckoned m b series ≡ Refused 10 0
  unfolding grains_reckoned
  reckoned_10 h = rw h refl

  pub reckoned_book : member_is_sound m ≡ true → (f : Verdict) → f ≡ check b → (f.number ≡ 0 → ⊥) → grains_reckoned m b series ≡ Refused f.number f.place
  unfolding grains_reckoned
  reckoned_book h f e n = rw (h, ← e) (after_fault f _ n)

  pub reckoned_sound : member_is_sound m ≡ true → (check b).number ≡ 0 → grains_reckoned m b series ≡ sound_reckoned m b series
  unfolding grains_reckoned
  reckoned_sound h e = rw h (after_none (check b) _ e)
