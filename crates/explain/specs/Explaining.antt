-- Why a member got its grains: a part for each of its live calls, the month's energy, and what its ramping hours add. Assumes nothing.
use Rattle.std.specs.Prelude.{◌≡◌, true, cond, List, [], ◌∷◌, ◌++◌, ℕ, suc, ◌+◌, ◌-◌, ◌<◌, ◌≤◌, ℤ, pos, ◌+ℤ◌, get_or, length, replicate}
use Rattle.units.specs.declared.Grains.{Grains}
use Rattle.units.specs.Money.{grains_plus}
use Rattle.call.specs.declared.Call.{Call}
use Rattle.book.specs.Book.{most_keys, count_at, record_at, calls_of}
use Rattle.pay.specs.declared.Member.{Member}
use Rattle.pay.specs.Sum.{total_z}
use Rattle.pay.specs.Rate.{rate_of}
use Rattle.pay.specs.Event.{energy_pay}
use Rattle.pay.specs.Live.{live_pay, quarters_paid, live_wh}
use Rattle.score.specs.declared.answer.Earned.{Earned}
use Rattle.score.specs.declared.answer.Earned.TheVariants.{Accepted, Refused}
use Rattle.score.specs.Scoring.{is_own_live, wh_at, grains_earned}
use Rattle.explain.specs.declared.CallPart.{CallPart}
use Rattle.explain.specs.declared.Explained.{Explained}

-- record i, a live call of the member: the rate in grains for each kW (0 for a window and for an event paid by energy), the event's Wh,
-- the grains, and the quarter hours that paid (0 where it is no window)
unfoldable pub call_part : Member → List ℕ → ℕ → Call → CallPart
call_part m series i x =
    record {
      place = i;
      rate = rate_of m.kind x;
      wh = record { 0 = live_wh m.kind x };
      grains = record { 0 = live_pay m series x };
      quarters = quarters_paid m series x;
    }

-- the part of record i where it is a live call of the member, otherwise none
unfoldable pub own_part : Member → List ℕ → ℕ → Call → List CallPart
own_part m series i x = cond (is_own_live m x) (call_part m series i x ∷ []) []

-- the parts of the member's live calls, in the book's order, from record i on
unfoldable pub parts_from : Member → List ℕ → ℕ → List Call → List CallPart
parts_from m series i [] = []
parts_from m series i (x ∷ xs) = own_part m series i x ++ parts_from m series (suc i) xs

-- the parts of a book
unfoldable pub parts_of : Member → List ℕ → List ℕ → List CallPart
parts_of m b series = parts_from m series 0 (calls_of b)

-- a part of nothing
unfoldable pub blank_part : CallPart
blank_part = record { place = 0; rate = 0; wh = record { 0 = pos 0 }; grains = record { 0 = 0 }; quarters = 0 }

-- there is room for as many parts as a book has records: behind the parts it is blank
unfoldable pub filled_up : List CallPart → List CallPart
filled_up parts = parts ++ replicate (most_keys - length parts) blank_part

-- the month's Wh, summed with their sign
unfoldable pub month_wh : Member → List ℕ → ℤ
month_wh m b = total_z (wh_at m (record_at b)) (count_at b)

-- the hours of a month of 31 days
abbrev pub most_hours : ℕ
most_hours = 744

-- what the ramping hours pay together
unfoldable pub hours_sum : List Grains → ℕ
hours_sum [] = 0
hours_sum (hour ∷ hours) = grains_plus hour.0 (hours_sum hours)

-- of an accepted score the parts, the month's Wh and their pay, clamped at zero once, and what is added; of a refused one its number and
-- place, otherwise zeros
unfoldable pub explain_earned : Member → List ℕ → List ℕ → Grains → Earned → Explained
explain_earned m b series added (Accepted g) =
    record {
      number = 0;
      place = 0;
      count = length (parts_of m b series);
      wh = record { 0 = month_wh m b };
      energy = record { 0 = energy_pay (month_wh m b) };
      added = added;
      grains = record { 0 = grains_plus g.0 added.0 };
      parts = filled_up (parts_of m b series);
    }
explain_earned m b series added (Refused number place) =
    record {
      number = number;
      place = place;
      count = 0;
      wh = record { 0 = pos 0 };
      energy = record { 0 = 0 };
      added = record { 0 = 0 };
      grains = record { 0 = 0 };
      parts = filled_up [];
    }

-- why the member has its grains, where its ramping hours pay these
unfoldable pub explaining : Member → List ℕ → List ℕ → List Grains → Explained
explaining m b series hours = explain_earned m b series (record { 0 = hours_sum hours }) (grains_earned m b series)

-- What the promises speak of

-- the grains of parts, added up
unfoldable pub parts_grains : List CallPart → ℕ
parts_grains [] = 0
parts_grains (p ∷ ps) = p.grains.0 + parts_grains ps

-- the Wh of parts, added up with their sign
unfoldable pub parts_wh : List CallPart → ℤ
parts_wh [] = pos 0
parts_wh (p ∷ ps) = p.wh.0 +ℤ parts_wh ps

-- the grains of hours, added up
unfoldable pub hours_grains : List Grains → ℕ
hours_grains [] = 0
hours_grains (hour ∷ hours) = hour.0 + hours_grains hours

-- at most a month of hours, each at most this
pub record HoursWithin (most : ℕ) (hours : List Grains) : Type 0 where
  pub few : length hours ≤ most_hours
  pub each : (k : ℕ) → k < length hours → (get_or hours k (record { 0 = 0 })).0 ≤ most

-- part k of an explanation
abbrev pub part_at : Explained → ℕ → CallPart
part_at r k = get_or r.parts k blank_part

-- record i is a live call of the member
pub record OwnLive (m : Member) (b : List ℕ) (i : ℕ) : Type 0 where
  pub is_record_lem : i < count_at b
  pub own_live : is_own_live m (record_at b i) ≡ true

-- an explanation has a part of record i
pub record HasPart (r : Explained) (i : ℕ) : Type 0 where
  pub index : ℕ
  pub is_part : index < r.count
  pub place : (part_at r index).place ≡ i
