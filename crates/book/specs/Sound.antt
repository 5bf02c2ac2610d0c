-- What a sound book is: the bytes of a version, a header and a list of calls within the paper's limits, keys rising. Assumes nothing.
use Rattle.std.specs.Prelude.{◌≡◌, ◌⊎◌, List, [], ◌∷◌, ℕ, suc, ◌≤◌, length}
use Rattle.call.specs.declared.Call.{Call}
use Rattle.call.specs.Key.{call_key}
use Rattle.call.specs.Service.{CallWithin}
use Rattle.book.specs.declared.Header.{Header}
use Rattle.units.specs.Month.{months_per_year}
use Rattle.book.specs.Book.{first_version, second_version, most_records, most_area, first_year, last_year, header_at, calls_of, book_bytes}
use Rattle.book.specs.Check.{header_minutes}

-- a version that is read
abbrev pub Known : ℕ → Type 0
Known v = (v ≡ first_version) ⊎ (v ≡ second_version)

-- area 1 to 99, year 2024 to 2099, month 1 to 12
pub record Heading (h : Header) : Type 0 where
  pub area : (1 ≤ h.area) × (h.area ≤ most_area)
  pub year : (first_year ≤ h.year) × (h.year ≤ last_year)
  pub month : (1 ≤ h.month) × (h.month ≤ months_per_year)

-- each call is within the limits, in a month of so many minutes
abbrev pub CallsWithin : ℕ → List Call → Type 0
CallsWithin minutes [] = Unit {0}
CallsWithin minutes (c ∷ cs) = CallWithin minutes c × CallsWithin minutes cs

-- keys rise strictly, the first being `low` or above
abbrev pub Rises : ℕ → List Call → Type 0
Rises low [] = Unit {0}
Rises low (c ∷ cs) = (low ≤ call_key c) × Rises (suc (call_key c)) cs

-- a sound book: the bytes of a version that is read, a header, and calls as many as the version allows
pub record Sound (b : List ℕ) : Type 0 where
  pub version : ℕ
  pub header : Header
  pub calls : List Call
  pub known : Known version
  pub heading : Heading header
  pub few : length calls ≤ most_records version
  pub within : CallsWithin (header_minutes header) calls
  pub rising : Rises 0 calls
  pub bytes : b ≡ book_bytes version header calls

-- two books that say the same: of one month and area, with equal calls; their versions may differ
pub record SaysSame (b b' : List ℕ) : Type 0 where
  pub header : header_at b ≡ header_at b'
  pub calls : calls_of b ≡ calls_of b'
