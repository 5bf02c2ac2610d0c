-- The outcomes of a join as the paper's table has them, a row each: which comes out exactly when. Assumes nothing.
use Rattle.std.specs.Prelude.{◌≡◌, ◌⊎◌, ◌≢◌, List, ℕ, ◌+◌, ◌≤◌, ◌<◌, length}
use Rattle.book.specs.declared.Header.{Header}
use Rattle.book.specs.declared.Verdict.{Verdict}
use Rattle.book.specs.Book.{most_keys, size_of, header_at}
use Rattle.book.specs.Check.{refused, accepted}
use Rattle.book.specs.Sound.{Sound}
use Rattle.book.specs.Refusals.{Refusal}
use Rattle.join.specs.Turns.{ran}
use Rattle.join.specs.Joining.{JoinOutcome, join_refused, join_wrote, keys_of_both, joined_book}

-- year, month or area differ
abbrev pub Differ : Header → Header → Type 0
Differ h k = (h.year ≢ k.year) ⊎ ((h.month ≢ k.month) ⊎ (h.area ≢ k.area))

-- two sound books of the same year, month and area
pub record Alike (first second : List ℕ) : Type 0 where
  pub first_sound : Sound first
  pub second_sound : Sound second
  pub year : (header_at first).year ≡ (header_at second).year
  pub month : (header_at first).month ≡ (header_at second).month
  pub area : (header_at first).area ≡ (header_at second).area

-- two such books with no more keys together than a book may have, and an output with room for them
pub record Joinable (first second out : List ℕ) : Type 0 where
  pub alike : Alike first second
  pub few : keys_of_both first second ≤ most_keys
  pub room : size_of (keys_of_both first second) ≤ length out

-- the first book's refusal; the second's, its number raised by 20 and its place counting in the second book; 7; 8; 9, each without a turn;
-- the joined book, with the turns of the run
pub data JoinVerdict (first second out : List ℕ) (o : JoinOutcome) : Type 0 where
  first_refused_lem : (v : Verdict) → Refusal first v → v ≢ accepted → o ≡ join_refused v out → JoinVerdict first second out o
  second_refused : (v : Verdict) → Sound first → Refusal second v → v ≢ accepted
      → o ≡ join_refused (refused (v.number + 20) v.place) out → JoinVerdict first second out o
  seven : Sound first → Sound second → Differ (header_at first) (header_at second) → o ≡ join_refused (refused 7 0) out → JoinVerdict first second out o
  eight : Alike first second → most_keys < keys_of_both first second → o ≡ join_refused (refused 8 0) out → JoinVerdict first second out o
  nine : Alike first second → keys_of_both first second ≤ most_keys → length out < size_of (keys_of_both first second)
      → o ≡ join_refused (refused 9 0) out → JoinVerdict first second out o
  joined : Alike first second → keys_of_both first second ≤ most_keys → size_of (keys_of_both first second) ≤ length out
      → o ≡ join_wrote (joined_book first second) (ran first second out).turns out → JoinVerdict first second out o
