-- What is told of any bytes: the header of a sound book, and of no other. Assumes nothing.
use mathlib.Core.Path.{◌≡◌, refl, sym, ◌∙◌, ap}
use mathlib.Core.List.{List}
use mathlib.Core.Logic.{◌↔◌}
use Prim.Native.Nat.{ℕ}
use lib.ListN.{length}
use borrow.Author.Tests.{eq-eqb, ne_eqb}
use native.Mathlib.Decide.{ℕ_discrete}
use Rattle.le.specs.Le.{IsBytes}
use Rattle.call.specs.declared.Call.{Call}
use Rattle.book.specs.declared.Opened.{Opened}
use Rattle.book.specs.declared.Verdict.{Verdict}
use Rattle.book.specs.Book.{version_at, header_at, count_at, calls_of}
use Rattle.book.specs.Check.{check, turned_away, header_of}
use Rattle.book.specs.Sound.{Sound}
use Rattle.book.proofs.Records.{length_calls}
use Rattle.book.proofs.Exact.{sound_accepted, accepted_exactly, sound_version, sound_reads}
use Rattle.book.proofs.Judged.{zero_accepted}

module _ (b : List ℕ) where
  pub told_refused : (v : Verdict) → v ≡ check b → (v.number ≡ 0 → ⊥) → turned_away v ≡ header_of b
  unfolding header_of
  told_refused v e z = rw (← e, ne_eqb v.number 0 z) refl

  pub told_sound : (check b).number ≡ 0 → record { number = 0; place = 0; version = version_at b; header = header_at b; calls = count_at b } ≡ header_of b
  unfolding header_of
  told_sound z = rw (eq-eqb (check b).number 0 z) refl

  -- the number is the check's
  told_number : (header_of b).number ≡ (check b).number
  told_number = at (ℕ_discrete (check b).number 0)
    where
      at : Dec ((check b).number ≡ 0) → (header_of b).number ≡ (check b).number
      at (yes z) = ap (λ (o : Opened). o.number) (sym (told_sound z)) ∙ sym z
      at (no z) = ap (λ (o : Opened). o.number) (sym (told_refused (check b) refl z))

  -- a header is told of a sound book, and of no other
  pub told_exactly : IsBytes b → ((header_of b).number ≡ 0) ↔ Sound b
  told_exactly small =
      let x = accepted_exactly b small in
      (λ z. x.0 (zero_accepted b (sym told_number ∙ z)), λ s. told_number ∙ ap (λ (v : Verdict). v.number) (x.1 s))

  -- and it is the book's own version and header, and the number of its calls
  pub told_header : (s : Sound b) → header_of b ≡ record { number = 0; place = 0; version = s.version; header = s.header; calls = length s.calls }
  unfolding calls_of
  told_header s =
      let r = sound_reads b s in
      let n : count_at b ≡ length s.calls = sym (length_calls b (count_at b) 0) ∙ ap (λ (cs : List Call). length cs) r.1 in
      sym (told_sound (ap (λ (v : Verdict). v.number) (sound_accepted b s))) ∙ (λ i. record { number = 0; place = 0; version = sound_version b s i; header = r.0 i; calls = n i })
