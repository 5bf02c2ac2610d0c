-- What a sound book and a series of its month's length give. Assumes nothing.
use mathlib.Core.Path.{◌≡◌}
use mathlib.Core.List.{List}
use Prim.Native.Nat.{ℕ, ◌≤◌, ◌<◌}
use native.Mathlib.Omega.{arith}
use lib.ListN.{length}
use Rattle.units.specs.Month.{quarters_of}
use Rattle.call.specs.Revising.{withdrawn}
use Rattle.book.specs.Book.{most_keys, HasHeader, size_of, header_at, count_at, record_at}
use Rattle.book.specs.Check.{accepted, check, header_minutes}
use Rattle.book.proofs.Exact.{accepted_tests, accepted_few}
use Rattle.score.specs.Inner.{RecordIsSound}
use Rattle.score.proofs.Checked.{all_sound, spans_month}
use Rattle.score.proofs.Turns.{state_low}

-- the bytes have a header and each record, of which there are few, each with a state that there is
pub record BookGiven (b : List ℕ) : Type 0 where
  pub long : HasHeader b
  pub size : size_of (count_at b) ≤ length b
  pub few : count_at b ≤ most_keys
  pub states : (i : ℕ) → i < count_at b → (record_at b i).state ≤ withdrawn

pub book_given : (b : List ℕ) → check b ≡ accepted → BookGiven b
book_given b h =
    let t = accepted_tests b h in
    record {
      long = t.long;
      size = omega (arith, t.count);
      few = accepted_few b h;
      states = λ i l. state_low (header_minutes (header_at b)) (record_at b i) (all_sound b h i l);
    }

-- each record is sound in the series' month, which is no longer than 31 days
pub record SeriesGiven (b series : List ℕ) : Type 0 where
  pub short : length series ≤ 2976
  pub sound : (i : ℕ) → i < count_at b → RecordIsSound b series i

pub series_given : (b series : List ℕ) → check b ≡ accepted → length series ≡ quarters_of (header_at b).year (header_at b).month → SeriesGiven b series
series_given b series h e =
    let m = spans_month b series e in
    record { short = m.1; sound = λ i l. rw m.0 (all_sound b h i l) }
