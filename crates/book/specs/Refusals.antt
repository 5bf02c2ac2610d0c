-- The refusals of a book and of writing one, a row each: which number and place comes out exactly when. Assumes nothing.
use Rattle.std.specs.Prelude.{◌≡◌, List, ℕ, zero, suc, ◌<◌, ◌≤◌, get_or, length}
use Rattle.le.specs.Le.{le_at}
use Rattle.call.specs.declared.Call.{Call}
use Rattle.call.specs.Key.{call_key}
use Rattle.call.specs.Layout.{reserved_at}
use Rattle.call.specs.Service.{CallWithin}
use Rattle.book.specs.declared.Header.{Header}
use Rattle.book.specs.declared.Verdict.{Verdict}
use Rattle.book.specs.Book.{most_records, header_size, size_of, place_of, HasHeader, version_at, header_at, count_at, record_at}
use Rattle.book.specs.Check.{refused, accepted, header_minutes}
use Rattle.book.specs.Sound.{Known, Heading, CallsWithin}

-- the mark "NWB"
pub record Marked (b : List ℕ) : Type 0 where
  pub letter_n : get_or b 0 0 ≡ 78
  pub letter_w : get_or b 1 0 ≡ 87
  pub letter_b : get_or b 2 0 ≡ 66

-- a version that is read
abbrev pub Versioned : List ℕ → Type 0
Versioned b = Known (version_at b)

-- the other header fields: area, year and month, a zero byte, the count, four zero bytes
pub record Headed (b : List ℕ) : Type 0 where
  pub heading : Heading (header_at b)
  pub zero : le_at b 9 1 ≡ 0
  pub few : count_at b ≤ most_records (version_at b)
  pub zeros : le_at b 12 4 ≡ 0

-- the length is as the count says
abbrev pub Counted : List ℕ → Type 0
Counted b = length b ≡ size_of (count_at b)

-- record i is within the limits, and its four last bytes are zero
pub record Fielded (b : List ℕ) (i : ℕ) : Type 0 where
  pub fields : CallWithin (header_minutes (header_at b)) (record_at b i)
  pub zeros : reserved_at b (place_of i) ≡ 0

-- the key of record i is above the one before
abbrev pub Above : List ℕ → ℕ → Type 0
Above b zero = Unit {0}
Above b (suc i) = call_key (record_at b i) < call_key (record_at b (suc i))

-- the header is good, and the length as the count says
pub record Front (b : List ℕ) : Type 0 where
  pub long : HasHeader b
  pub mark : Marked b
  pub version : Versioned b
  pub header : Headed b
  pub count : Counted b

-- the records before record i are good
abbrev pub SoundBefore : List ℕ → ℕ → Type 0
SoundBefore b i = (j : ℕ) → j < i → Fielded b j × Above b j

-- the check: in the paper's order 1 (under 16 bytes), 2, 3, 4, 1 (length), then record by record 5, 6
pub data Refusal (b : List ℕ) (v : Verdict) : Type 0 where
  none : v ≡ accepted → Front b → SoundBefore b (count_at b) → Refusal b v
  under_16 : v ≡ refused 1 0 → length b < header_size → Refusal b v
  no_mark : v ≡ refused 2 0 → HasHeader b → ¬ Marked b → Refusal b v
  no_version : v ≡ refused 3 0 → HasHeader b → Marked b → ¬ Versioned b → Refusal b v
  no_header : v ≡ refused 4 0 → HasHeader b → Marked b → Versioned b → ¬ Headed b → Refusal b v
  no_count : v ≡ refused 1 0 → HasHeader b → Marked b → Versioned b → Headed b → ¬ Counted b → Refusal b v
  no_field : (i : ℕ) → v ≡ refused 5 i → Front b → i < count_at b → SoundBefore b i → ¬ Fielded b i → Refusal b v
  no_rise : (i : ℕ) → v ≡ refused 6 i → Front b → i < count_at b → SoundBefore b i → Fielded b i → ¬ Above b i → Refusal b v

-- writing a header and calls into so many bytes: 4, 5, 9, in turn
pub data WriteRefusal (h : Header) (cs : List Call) (room n : ℕ) : Type 0 where
  none : n ≡ 0 → Heading h → CallsWithin (header_minutes h) cs → size_of (length cs) ≤ room → WriteRefusal h cs room n
  no_header : n ≡ 4 → ¬ Heading h → WriteRefusal h cs room n
  no_field : n ≡ 5 → Heading h → ¬ CallsWithin (header_minutes h) cs → WriteRefusal h cs room n
  no_room : n ≡ 9 → Heading h → CallsWithin (header_minutes h) cs → room < size_of (length cs) → WriteRefusal h cs room n
