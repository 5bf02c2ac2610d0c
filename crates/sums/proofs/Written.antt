-- What a row says of calls holds of the bytes of a book that has them: of `scoring`, which the contract of `score` cites. Assumes nothing.
use mathlib.Core.Path.{◌≡◌, refl, sym, ◌∙◌, ap, ap₂}
use mathlib.Core.Bool.{true}
use mathlib.Core.List.{List, [], ◌∷◌, ◌++◌}
use Prim.Native.Nat.{ℕ, zero, suc, ◌-◌, ◌≤◌}
use native.Mathlib.Omega.{arith}
use lib.Dec.{eqb, ltb, leb, lit≤}
use lib.IntN.{pos}
use lib.ListN.{get_or, length, replicate, length-append, length-replicate}
use borrow.Author.Tests.{eqb-true, leb-true, ltb-true}
use Rattle.le.proofs.Tests.{each}
use Rattle.units.specs.Month.{minutes_of, quarters_of}
use Rattle.call.specs.declared.Call.{Call}
use Rattle.call.specs.Key.{call_key}
use Rattle.call.specs.Limits.{call_is_sound}
use Rattle.call.proofs.Exact.{sound_within}
use Rattle.book.specs.declared.Header.{Header}
use Rattle.book.specs.Book.{first_version, most_records, header_at, calls_of}
use Rattle.book.specs.Check.{header_minutes}
use Rattle.book.specs.Sound.{Heading, CallsWithin, Rises, Sound}
use Rattle.book.proofs.Heads.{first_known}
use Rattle.book.proofs.Exact.{sound_accepted, reads_back}
use Rattle.pay.specs.declared.Member.{Member}
use Rattle.pay.specs.Member.{member_is_sound}
use Rattle.score.specs.declared.answer.Score.{Score}
use Rattle.score.specs.Series.{most_output}
use Rattle.score.specs.Scoring.{records_earned, in_fen, scoring}
use Rattle.score.specs.Outcomes.{Ready}
use Rattle.pay.proofs.Within.{line_of}
use Rattle.score.proofs.Listed.{over_calls}
use Rattle.sums.specs.Crowded.{january}
use Rattle.sums.specs.Worked.{whole_month, row_call, row_call_at, same_score, outputs_are_sound, calls_are_sound, row_is_sound, row_score, row_book}

same_score_lem : (r s : Score) → same_score r s ≡ true → r ≡ s
unfolding same_score
same_score_lem r s h =
    let t = each (eqb r.number s.number) (eqb r.place s.place ∷ eqb r.grains.0 s.grains.0 ∷ eqb r.fen.0 s.fen.0 ∷ []) h in
    ap (λ (n : ℕ). of n r.place r.grains.0 r.fen.0) (eqb-true _ _ t.0)
    ∙ ap (λ (n : ℕ). of s.number n r.grains.0 r.fen.0) (eqb-true _ _ t.1.0)
    ∙ ap (λ (n : ℕ). of s.number s.place n r.fen.0) (eqb-true _ _ t.1.1.0)
    ∙ ap (λ (n : ℕ). of s.number s.place s.grains.0 n) (eqb-true _ _ t.1.1.1.0)
  where
    of : ℕ → ℕ → ℕ → ℕ → Score
    of number place grains fen = record { number = number; place = place; grains = record { 0 = grains }; fen = record { 0 = fen } }

month_length : (ps : List ℕ) (q : ℕ) → length ps ≤ q → length (ps ++ replicate (q - length ps) 0) ≡ q
month_length ps q h =
    let e : length (replicate {A = ℕ} (q - length ps) 0) ≡ q - length ps = length-replicate (q - length ps) 0 in
    length-append ps (replicate (q - length ps) 0) ∙ omega (arith, e, h)

still_value : (k j : ℕ) → get_or (replicate k 0) j 0 ≤ most_output
still_value zero j = lit≤ tt
still_value (suc k) zero = lit≤ tt
still_value (suc k) (suc j) = still_value k j

month_value : (ps : List ℕ) (k j : ℕ) → outputs_are_sound ps ≡ true → get_or (ps ++ replicate k 0) j 0 ≤ most_output
unfolding outputs_are_sound
month_value [] k j h = still_value k j
month_value (p ∷ ps) k zero h = leb-true _ _ (each (leb p most_output) (outputs_are_sound ps ∷ []) h).0
month_value (p ∷ ps) k (suc j) h = month_value ps k j (each (leb p most_output) (outputs_are_sound ps ∷ []) h).1.0

calls_sound : (low : ℕ) (calls : List Call) → calls_are_sound low calls ≡ true → CallsWithin (header_minutes january) calls × Rises low calls
unfolding calls_are_sound header_minutes january
calls_sound low [] h = (tt, tt)
calls_sound low (x ∷ xs) h =
    let t = each (leb low (call_key x)) (ltb x.number 4294967296 ∷ ltb x.revision 4294967296 ∷ call_is_sound (minutes_of 2026 1) x ∷ calls_are_sound (suc (call_key x)) xs ∷ []) h in
    let rest = calls_sound (suc (call_key x)) xs t.1.1.1.1.0 in
    ((sound_within (minutes_of 2026 1) x (ltb-true _ _ t.1.0) (ltb-true _ _ t.1.1.0) t.1.1.1.0, rest.0), (leb-true _ _ t.0, rest.1))

heading : Heading january
unfolding january
heading = record { area = (lit≤ tt, lit≤ tt); year = (lit≤ tt, lit≤ tt); month = (lit≤ tt, lit≤ tt) }

module _ (m : Member) (outputs : List ℕ) (calls : List Call) (h : row_is_sound m outputs calls ≡ true) where
  -- the row's tests
  record Tests : Type 0 where
    line : member_is_sound m ≡ true
    long : length outputs ≤ quarters_of 2026 1
    small : outputs_are_sound outputs ≡ true
    few : length calls ≤ most_records first_version
    good : calls_are_sound 0 calls ≡ true

  tests : Tests
  unfolding row_is_sound
  tests =
      let t = each (member_is_sound m) (leb (length outputs) (quarters_of 2026 1) ∷ outputs_are_sound outputs ∷ leb (length calls) (most_records first_version) ∷ calls_are_sound 0 calls ∷ []) h in
      record { line = t.0; long = leb-true _ _ t.1.0; small = t.1.1.0; few = leb-true _ _ t.1.1.1.0; good = t.1.1.1.1.0 }

  book_sound : Sound (row_book calls)
  unfolding row_book
  book_sound =
      let c = calls_sound 0 calls tests.good in
      record { version = first_version; header = january; calls = calls; known = first_known; heading = heading; few = tests.few; within = c.0; rising = c.1; bytes = refl }

  reads : (header_at (row_book calls) ≡ january) × (calls_of (row_book calls) ≡ calls)
  unfolding row_book
  reads = reads_back first_version january calls first_known heading tests.few (calls_sound 0 calls tests.good).0

  ready : Ready m (row_book calls) (whole_month outputs)
  unfolding whole_month january
  ready =
      record {
        front = record { line = line_of m tests.line; book = sound_accepted (row_book calls) book_sound };
        spans = month_length outputs (quarters_of 2026 1) tests.long ∙ sym (ap (λ (k : Header). quarters_of k.year k.month) reads.0);
        within = λ j l. month_value outputs (quarters_of 2026 1 - length outputs) j tests.small;
      }

  -- A sound row's score by its calls is that of the book's bytes and the month's series.
  pub row_written : scoring m (row_book calls) (whole_month outputs) ≡ row_score m outputs calls
  unfolding row_score row_call_at january
  row_written =
      over_calls m (row_book calls) (whole_month outputs) (row_call 0 0 0 0 (pos 0) 0) ready
      ∙ ap₂ scored reads.0 reads.1
    where
      scored : Header → List Call → Score
      scored k cs = in_fen (records_earned (record { year = k.year; month = k.month }) m (whole_month outputs) (λ (i : ℕ). get_or cs i (row_call 0 0 0 0 (pos 0) 0)) (length cs))

-- a sound row whose score is as said has it over bytes
pub row_over_bytes : (m : Member) (outputs : List ℕ) (calls : List Call) (r : Score) → row_is_sound m outputs calls ≡ true → same_score (row_score m outputs calls) r ≡ true
    → scoring m (row_book calls) (whole_month outputs) ≡ r
row_over_bytes m outputs calls r h e = row_written m outputs calls h ∙ same_score_lem (row_score m outputs calls) r e
