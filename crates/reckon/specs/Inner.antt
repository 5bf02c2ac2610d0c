-- What inner contracts speak of, and no sentence of the request. Assumes nothing.
use Rattle.std.specs.Prelude.{◌≡◌, cond, Option, List, [], ◌∷◌, ◌++◌, map, find, ℕ, zero, suc, ◌*◌, ◌≤◌, ◌<◌, ℤ, get_or, length, take}
use Rattle.std.specs.Int.Signed.{mag}
use Rattle.call.specs.declared.Call.{Call}
use Rattle.book.specs.Book.{HasRecord, record_at}
use Rattle.pay.specs.declared.Member.{Member}
use Rattle.pay.specs.Sum.{total, total_z}
use Rattle.pay.specs.Inner.{most_pay, most_wh, most_month_wh}
use Rattle.score.specs.Scoring.{wh_of, wh_at}
use Rattle.reckon.specs.declared.windows.Windows.{Windows}
use Rattle.reckon.specs.Reckoning.{is_window, covers, other_pay, other_at}

-- no minute pays more, whatever 32 bits say of the called power
abbrev pub most_minute : ℕ
most_minute = 16000000000000

-- the places of the windows among the first n records
unfoldable pub places_of : Member → ℕ → (ℕ → Call) → ℕ → List ℕ
places_of m service book zero = []
places_of m service book (suc n) = places_of m service book n ++ cond (is_window m service (book n)) (n ∷ []) []

-- the bytes have the record at each of these places
abbrev pub Placed : List ℕ → List ℕ → Type 0
Placed b places = (k : ℕ) → k < length places → HasRecord b (get_or places k 0)

-- the calls at these places
abbrev pub calls_at : List ℕ → List ℕ → List Call
calls_at b places = map (record_at b) places

-- the first of the windows that covers a minute
abbrev pub first_over : List Call → ℕ → Option Call
first_over windows minute = find (λ x. covers x minute) windows

-- the places that were found among the first n records
pub record Finds (m : Member) (service : ℕ) (b : List ℕ) (n : ℕ) (r : Windows) : Type 0 where
  pub places : take r.count r.at ≡ places_of m service (record_at b) n
  pub room : r.count ≤ length r.at

-- what a record gives besides the windows: its grains and energy, which are within bounds
pub record OtherTurned (m : Member) (x : Call) (grains : ℕ) (wh : ℤ) : Type 0 where
  pub pays : grains ≡ other_pay m x
  pub energy : wh ≡ wh_of m x
  pub most : grains ≤ most_pay
  pub span : mag wh ≤ most_wh

-- the same of the first n records together
pub record OthersEarned (m : Member) (book : ℕ → Call) (n grains : ℕ) (wh : ℤ) : Type 0 where
  pub pays : grains ≡ total (other_at m book) 0 n
  pub energy : wh ≡ total_z (wh_at m book) n
  pub most : grains ≤ n * most_pay
  pub span : mag wh ≤ most_month_wh
